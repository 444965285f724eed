-- The actions that follow from each number are those of RULES.
-- Assumes nothing.
use mathlib.Core.Path.{refl}
use Rattle.association.specs.Actions.{actions_of_new, NewActs}

-- promise: actions.1
pub new_acts : NewActs actions_of_new
new_acts = record { made_0 = refl; none_30 = refl; none_33 = refl; none_38 = refl }
