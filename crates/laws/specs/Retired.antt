-- The retired kind along a log (RULES, No. 14): a poll that is no upgrade request.
-- Assumes nothing.
use Rattle.std.specs.Prelude.{◌≡◌, List, [], ◌∷◌}
use Rattle.version.specs.declared.SendKind.TheVariants.{V4Upgrade}
use Rattle.timer_rules.specs.declared.TimerAnswer.{TimerAnswer}
use Rattle.timer_rules.specs.declared.TimerAnswer.TheVariants.{Sent, Reset, Demobilize, NoCookie, CookieTooLarge, ShortBuffer, NotWhole}
use Rattle.laws_log.specs.Machine.{Done, of_timer, of_reply}
use Rattle.laws.specs.Association.{machine}

-- a poll that is sent is no V4 upgrade request
abbrev pub Plain : TimerAnswer → Type 0
Plain (Sent kind poll len asked) = kind ≡ V4Upgrade → ⊥
Plain Reset = Unit {0}
Plain Demobilize = Unit {0}
Plain NoCookie = Unit {0}
Plain CookieTooLarge = Unit {0}
Plain ShortBuffer = Unit {0}
Plain NotWhole = Unit {0}

-- promise: no14.6
abbrev pub AllPlain : List (Done machine) → Type 0
AllPlain [] = Unit {0}
AllPlain (of_timer t x ∷ ds) = Plain x.0 × AllPlain ds
AllPlain (of_reply r x ∷ ds) = AllPlain ds
