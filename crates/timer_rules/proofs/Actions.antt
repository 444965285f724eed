-- The actions that follow from each number are those of RULES.
-- Assumes nothing.
use mathlib.Core.Path.{refl}
use Rattle.timer_rules.specs.Answer.{actions_of, TimerActs}

-- promise: actions.2
pub timer_acts : TimerActs actions_of
timer_acts = record { sent_20 = refl; reset_21 = refl; demobilize_22 = refl; reset_23 = refl; reset_24 = refl; none_31 = refl; none_32 = refl }
