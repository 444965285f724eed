-- RULES, No. 13: the planner. It places entries one by one at the earliest start that fits, and stops at the first for which none fits.
-- Assumes nothing.
use Rattle.std.specs.Prelude.{Bool, cond, List, [], ◌∷◌, ◌++◌, ℕ, zero, suc, ltb, length, drop, Option, Some, None, Result, Ok, Err}
use Rattle.calendar.specs.Lowest.{lowest, named, is_nothing}
use Rattle.calendar.specs.Calendar.{repeat_of, bad_repeat, over}
use Rattle.calendar.specs.declared.PlanRefusal.{PlanRefusal}
use Rattle.calendar.specs.declared.PlanRefusal.TheVariants.{TooMany, BadRepeat, NoFit, NoRoom}

-- a start fits the next entry if, with the entries placed before, no minute of the day gets more polls than the cap
-- promise no13.5: The planner places the entries one by one, each at the earliest start that fits with those before.
abbrev pub fits : ℕ → List ℕ → List ℕ → ℕ → Bool
fits cap repeats placed start = is_nothing (lowest (over cap (placed ++ start ∷ []) repeats (suc (length placed))) 1440)

-- the earliest start of the next entry that fits, below its repeat
-- promise: no13.5
unfoldable pub earliest_of : ℕ → List ℕ → List ℕ → Option ℕ
earliest_of cap repeats placed = lowest (fits cap repeats placed) (repeat_of repeats (length placed))

-- the starts of all entries, or the first entry for which none fits
pub data Plan : Type 0 where
  whole : List ℕ → Plan
  stuck : ℕ → Plan

-- n more entries, after those placed
-- promise: no13.5
unfoldable pub plan_from : ℕ → List ℕ → ℕ → List ℕ → Plan
plan_from cap repeats zero placed = whole placed
plan_from cap repeats (suc n) placed =
    named (earliest_of cap repeats placed) (λ start. plan_from cap repeats n (placed ++ start ∷ [])) (stuck (length placed))

-- a plan as the code has it: the entry for which none fits, or the starts
abbrev pub planned : Option ℕ → List ℕ → Plan
planned (Some k) starts = stuck k
planned None starts = whole starts

-- the answer to a plan, given how many entries fit the buffer: 84 with the entry; 31 if the plan is longer than the buffer
abbrev pub answer_to : Plan → ℕ → Result (Unit {0}) PlanRefusal
answer_to (whole starts) room = cond (ltb room (length starts)) (Err NoRoom) (Ok tt)
answer_to (stuck k) room = Err (NoFit k)

-- 80, 81 as the check has them, then 84
-- promise no13.6: The planner answers 84 exactly at the first entry for which no start fits, and 80 and 81 as the check does.
-- promise no13.7: 84 is given even where another plan exists: repeats 4, 4, 2 with cap 1 stop at the third, although 0, 2, 1 would fit.
unfoldable pub plan_of : ℕ → List ℕ → ℕ → Result (Unit {0}) PlanRefusal
plan_of cap repeats room =
    cond (ltb 64 (length repeats)) (Err TooMany)
    (named (lowest (bad_repeat repeats) (length repeats)) (λ k. Err (BadRepeat k))
    (answer_to (plan_from cap repeats (length repeats) []) room))

-- the starts, if there are any
abbrev pub starts_in : Plan → List ℕ
starts_in (whole starts) = starts
starts_in (stuck k) = []

-- what is left in the buffer: the plan at its start and the rest unchanged, or nothing written
-- promise: no13.9
abbrev pub left_in : List ℕ → List ℕ → Result (Unit {0}) PlanRefusal → List ℕ
left_in starts out (Ok _) = starts ++ drop (length starts) out
left_in starts out (Err _) = out

-- promise no13.9: The starts are written to the buffer's beginning, and the rest stays. A rejection writes nothing. 31 if a plan has no room.
-- promise: no13.8
unfoldable pub buffer_of : ℕ → List ℕ → List ℕ → List ℕ
buffer_of cap repeats out = left_in (starts_in (plan_from cap repeats (length repeats) [])) out (plan_of cap repeats (length out))

abbrev pub plan_number_of : Result (Unit {0}) PlanRefusal → ℕ
plan_number_of (Ok _) = 0
plan_number_of (Err TooMany) = 80
plan_number_of (Err (BadRepeat k)) = 81
plan_number_of (Err (NoFit k)) = 84
plan_number_of (Err NoRoom) = 31
