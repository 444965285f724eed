-- RULES, No. 13: when the check returns each number, and with which answer, in the order of the tests; and what an accepted calendar is.
-- Assumes nothing.
use Rattle.std.specs.Prelude.{◌≡◌, true, false, List, ℕ, ◌%◌, ◌≤◌, ◌<◌, ltb, Result, Ok, Err}
use Rattle.calendar.specs.Lowest.{First, NonePasses}
use Rattle.calendar.specs.Calendar.{entries_of, start_of, repeat_of, bad_repeat, late_start, load, over}
use Rattle.calendar.specs.declared.CheckRefusal.{CheckRefusal}
use Rattle.calendar.specs.declared.CheckRefusal.TheVariants.{TooMany, BadRepeat, LateStart, OverCap}

module _ (cap : ℕ) (starts repeats : List ℕ) where
  -- ---- the tests that a calendar has passed, each with those before it

  -- neither 80 nor 81
  pub record Divided : Type 0 where
    pub few : ltb 64 (entries_of starts repeats) ≡ false
    pub divide : NonePasses (bad_repeat repeats) (entries_of starts repeats)

  -- nor 82
  pub record Early : Type 0 where
    pub divided : Divided
    pub early : NonePasses (late_start starts repeats) (entries_of starts repeats)

  -- ---- the numbers, each with its answer, which names the lowest entry or minute
  -- promise: no13.3
  pub data Given : ℕ → Result (Unit {0}) CheckRefusal → Type 0 where
    too_many : ltb 64 (entries_of starts repeats) ≡ true → Given 80 (Err TooMany)
    bad_repeat_lem : (k : ℕ) → ltb 64 (entries_of starts repeats) ≡ false → First (bad_repeat repeats) (entries_of starts repeats) k →
        Given 81 (Err (BadRepeat k))
    late_start_lem : (k : ℕ) → Divided → First (late_start starts repeats) (entries_of starts repeats) k → Given 82 (Err (LateStart k))
    over_cap : (m : ℕ) → Early → First (over cap starts repeats (entries_of starts repeats)) 1440 m → Given 83 (Err (OverCap m))
    accepted : Early → NonePasses (over cap starts repeats (entries_of starts repeats)) 1440 → Given 0 (Ok tt)

  -- ---- what is accepted, in the words of the rule
  -- promise no13.4: A calendar is accepted exactly if it has up to 64 entries, each repeat divides 1440, each start is below its repeat, and no minute has
  --     more polls than the cap.
  pub record Fine : Type 0 where
    -- up to 64 associations
    pub few : entries_of starts repeats ≤ 64
    -- each repeat is a number of minutes that divides 1440
    pub divide : (k : ℕ) → k < entries_of starts repeats → (0 < repeat_of repeats k) × (1440 % repeat_of repeats k ≡ 0)
    -- each start is below its repeat
    pub early : (k : ℕ) → k < entries_of starts repeats → start_of starts k < repeat_of repeats k
    -- no minute of the day has more polls than the cap
    pub under : (m : ℕ) → m < 1440 → load starts repeats (entries_of starts repeats) m ≤ cap
