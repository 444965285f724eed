-- The check by a day's loads is that by the count of the entries, minute by minute.
-- Assumes nothing.
use mathlib.Core.Path.{◌≡◌, sym, ap, ◌∙◌}
use mathlib.Core.List.{List}
use Prim.Native.Nat.{ℕ, ◌≤◌, ◌<◌}
use lib.Dec.{ltb}
use lib.ListN.{get_or}
use borrow.Author.Tests.{le-ltb}
use Rattle.std.specs.Prelude.{Some, None, Err}
use Rattle.calendar.specs.declared.CheckRefusal.TheVariants.{OverCap}
use Rattle.calendar.specs.Lowest.{lowest}
use Rattle.calendar.specs.Calendar.{entries_of, bad_repeat, late_start, load, over, check_of}
use Rattle.calendar.specs.Loads.{above}
use Rattle.calendar.proofs.Search.{agree}

-- promise: no13.2 (the check by loads is that by the count)
pub counted : (cap : ℕ) (starts repeats loads : List ℕ) (n : ℕ) → ((m : ℕ) → m < 1440 → get_or loads m 0 ≡ load starts repeats n m) →
    lowest (above cap loads) 1440 ≡ lowest (over cap starts repeats n) 1440
counted cap starts repeats loads n h = agree (above cap loads) (over cap starts repeats n) 1440 (λ m in_day. ap (ltb cap) (h m in_day))

-- promise: no13.2 (a minute over the cap by the loads, after 80, 81 and 82, is answered by 83)
pub is_over_cap : (cap : ℕ) (starts repeats : List ℕ) (n : ℕ) → n ≡ entries_of starts repeats → n ≤ 64 → lowest (bad_repeat repeats) n ≡ None →
    lowest (late_start starts repeats) n ≡ None → (loads : List ℕ) → ((m : ℕ) → m < 1440 → get_or loads m 0 ≡ load starts repeats n m) → (m : ℕ) →
    lowest (above cap loads) 1440 ≡ Some m → check_of cap starts repeats ≡ Err (OverCap m)
unfolding check_of
is_over_cap cap starts repeats n e few b l loads h m o = rw (← e, le-ltb 64 n few, b, l, sym (counted cap starts repeats loads n h) ∙ o)
