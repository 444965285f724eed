-- RULES, No. 13: a calendar, and the check of it. An entry is a start and a repeat, in minutes; a calendar is a list of starts beside a list of repeats.
-- Assumes nothing.
use Rattle.std.specs.Prelude.{Bool, not, ◌&&◌, cond, List, ℕ, zero, suc, ◌%◌, max, ltb, leb, eqb, length, get_or, Result, Ok, Err}
use Rattle.calendar.specs.Lowest.{lowest, named}
use Rattle.calendar.specs.declared.CheckRefusal.{CheckRefusal}
use Rattle.calendar.specs.declared.CheckRefusal.TheVariants.{TooMany, BadRepeat, LateStart, OverCap}

-- ---- the entries

-- as many as the longer list has; a missing repeat counts as 0 and a missing start as 1440, so that 81 or 82 rejects the entry
-- promise no13.1: An entry is a start and a repeat. There are as many as the longer list has; a missing value counts as a repeat of 0 or a start of 1440.
abbrev pub entries_of : List ℕ → List ℕ → ℕ
entries_of starts repeats = max (length starts) (length repeats)

-- promise: no13.1
abbrev pub start_of : List ℕ → ℕ → ℕ
start_of starts k = get_or starts k 1440

-- promise: no13.1
abbrev pub repeat_of : List ℕ → ℕ → ℕ
repeat_of repeats k = get_or repeats k 0

-- a repeat divides the day
abbrev pub divides_day : ℕ → Bool
divides_day repeat = not (eqb repeat 0) && eqb (1440 % repeat) 0

-- 81: the repeat is 0 or does not divide 1440
-- promise no13.3: Number 80: more than 64 entries. 81: a repeat that is 0 or does not divide 1440. 82: a start at or past its repeat. 83: a minute over the
--     cap. Each names the lowest, in that order.
--     edit: calendar/one_more_than_the_cap_passes, calendar/late_starts_before_bad_repeats
abbrev pub bad_repeat : List ℕ → ℕ → Bool
bad_repeat repeats k = not (divides_day (repeat_of repeats k))

-- 82: the start is at or past its repeat
-- promise: no13.3
abbrev pub late_start : List ℕ → List ℕ → ℕ → Bool
late_start starts repeats k = leb (repeat_of repeats k) (start_of starts k)

-- ---- the polls of a minute

-- an entry has a poll at minute m exactly if m modulo repeat is its start
-- promise no13.2: An entry polls at minute m exactly if m modulo its repeat is its start. The load of a minute is the number of entries that poll then.
abbrev pub polls : ℕ → ℕ → ℕ → Bool
polls start repeat m = eqb (m % repeat) start

-- how many of the first n entries have a poll at minute m
-- promise: no13.2
unfoldable pub load : List ℕ → List ℕ → ℕ → ℕ → ℕ
load starts repeats zero m = 0
load starts repeats (suc k) m = cond (polls (start_of starts k) (repeat_of repeats k) m) (suc (load starts repeats k m)) (load starts repeats k m)

-- 83: the minute has more polls than the cap
-- promise: no13.3
abbrev pub over : ℕ → List ℕ → List ℕ → ℕ → ℕ → Bool
over cap starts repeats n m = ltb cap (load starts repeats n m)

-- ---- the check

-- 80 more than 64 entries; 81, 82, 83, each with the lowest entry or minute; otherwise accepted
-- promise no13.8: The check accepts what the planner returns.
-- promise: no13.3, no13.7
unfoldable pub check_of : ℕ → List ℕ → List ℕ → Result (Unit {0}) CheckRefusal
check_of cap starts repeats =
    cond (ltb 64 (entries_of starts repeats)) (Err TooMany)
    (named (lowest (bad_repeat repeats) (entries_of starts repeats)) (λ k. Err (BadRepeat k))
    (named (lowest (late_start starts repeats) (entries_of starts repeats)) (λ k. Err (LateStart k))
    (named (lowest (over cap starts repeats (entries_of starts repeats)) 1440) (λ m. Err (OverCap m))
    (Ok tt))))

abbrev pub number_of : Result (Unit {0}) CheckRefusal → ℕ
number_of (Ok _) = 0
number_of (Err TooMany) = 80
number_of (Err (BadRepeat k)) = 81
number_of (Err (LateStart k)) = 82
number_of (Err (OverCap m)) = 83
