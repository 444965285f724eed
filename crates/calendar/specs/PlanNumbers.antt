-- RULES, No. 13: when the planner returns each number, and with which answer, in the order of the tests.
-- Assumes nothing.
use Rattle.std.specs.Prelude.{◌≡◌, true, false, List, [], ◌∷◌, ◌++◌, ℕ, ◌≤◌, ◌<◌, ltb, length, Result, Ok, Err}
use Rattle.calendar.specs.Lowest.{First, NonePasses}
use Rattle.calendar.specs.Calendar.{repeat_of, bad_repeat}
use Rattle.calendar.specs.Plan.{fits}
use Rattle.calendar.specs.declared.PlanRefusal.{PlanRefusal}
use Rattle.calendar.specs.declared.PlanRefusal.TheVariants.{TooMany, BadRepeat, NoFit, NoRoom}

module _ (cap : ℕ) (repeats : List ℕ) where
  -- starts placed one by one: each is the earliest below its repeat that fits with those before it
  -- promise: no13.5
  pub data Placed : List ℕ → Type 0 where
    none : Placed []
    next : (placed : List ℕ) (start : ℕ) → Placed placed → First (fits cap repeats placed) (repeat_of repeats (length placed)) start →
        Placed (placed ++ start ∷ [])

  -- neither 80 nor 81
  pub record Divided : Type 0 where
    pub few : ltb 64 (length repeats) ≡ false
    pub divide : NonePasses (bad_repeat repeats) (length repeats)

  -- ---- the numbers, each with its answer
  module _ (room : ℕ) where
    -- promise: no13.6
    pub data Given : ℕ → Result (Unit {0}) PlanRefusal → Type 0 where
      too_many : ltb 64 (length repeats) ≡ true → Given 80 (Err TooMany)
      bad_repeat_lem : (k : ℕ) → ltb 64 (length repeats) ≡ false → First (bad_repeat repeats) (length repeats) k → Given 81 (Err (BadRepeat k))
      -- the entries before this one are placed, and no start below its repeat fits with them
      no_fit : (placed : List ℕ) → Divided → Placed placed → length placed < length repeats →
          NonePasses (fits cap repeats placed) (repeat_of repeats (length placed)) → Given 84 (Err (NoFit (length placed)))
      no_room : (starts : List ℕ) → Divided → Placed starts → length starts ≡ length repeats → room < length repeats → Given 31 (Err NoRoom)
      planned : (starts : List ℕ) → Divided → Placed starts → length starts ≡ length repeats → length repeats ≤ room → Given 0 (Ok tt)
