-- What the code tests in a day's loads: a list with the number of polls of each minute.
-- Assumes nothing.
use Rattle.std.specs.Prelude.{Bool, ◌&&◌, cond, List, ℕ, suc, ltb, leb, get_or}
use Rattle.calendar.specs.Lowest.{lowest, is_nothing}
use Rattle.calendar.specs.Calendar.{polls}

-- a minute that has more polls than the cap
abbrev pub above : ℕ → List ℕ → ℕ → Bool
above cap loads m = ltb cap (get_or loads m 0)

-- a minute of the entry that has no room for one more poll
abbrev pub taken : ℕ → List ℕ → ℕ → ℕ → ℕ → Bool
taken cap loads start repeat m = polls start repeat m && leb cap (get_or loads m 0)

-- a start at which each minute of the entry has room for one more poll
abbrev pub free : ℕ → List ℕ → ℕ → ℕ → Bool
free cap loads repeat start = is_nothing (lowest (taken cap loads start repeat) 1440)

-- the polls of a minute, with one more entry
abbrev pub one_more : ℕ → ℕ → List ℕ → ℕ → ℕ
one_more start repeat loads m = cond (polls start repeat m) (suc (get_or loads m 0)) (get_or loads m 0)
