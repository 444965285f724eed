-- The actions that follow from each number are those of RULES.
-- Assumes nothing.
use mathlib.Core.Path.{refl}
use Rattle.reply_rules.specs.Answer.{actions_of, ReplyActs}

-- promise: actions.3
pub reply_acts : ReplyActs actions_of
reply_acts =
    record {
      measured_0 = refl;
      none_1 = refl;
      none_2 = refl;
      none_4 = refl;
      none_5 = refl;
      none_6 = refl;
      demobilize_7 = refl;
      none_8 = refl;
      none_9 = refl;
      none_10 = refl;
      none_11 = refl;
      none_12 = refl;
      none_13 = refl;
      none_14 = refl;
      none_32 = refl;
      none_33 = refl;
    }
