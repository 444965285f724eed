-- "Even where another plan exists" (RULES, No. 13): with a cap of 1 the repeats 4, 4, 2 stop at the third entry, although the starts 0, 2, 1 would fit.
-- Computed from the definitions.
-- Assumes nothing.
use mathlib.Core.Path.{◌≡◌, refl}
use mathlib.Core.List.{[], ◌∷◌}
use Rattle.std.specs.Prelude.{Ok, Err}
use Rattle.calendar.specs.declared.PlanRefusal.TheVariants.{NoFit}
use Rattle.calendar.specs.Lowest.{lowest}
use Rattle.calendar.specs.Calendar.{load, check_of}
use Rattle.calendar.specs.Plan.{earliest_of, plan_from, plan_of}

-- promise: no13.7
pub stops_at_the_third : plan_of 1 (4 ∷ 4 ∷ 2 ∷ []) 3 ≡ Err (NoFit 2)
unfolding plan_of plan_from earliest_of lowest load
stops_at_the_third = refl

-- promise: no13.7 (both computed)
pub would_fit : check_of 1 (0 ∷ 2 ∷ 1 ∷ []) (4 ∷ 4 ∷ 2 ∷ []) ≡ Ok tt
unfolding check_of lowest load
would_fit = refl
