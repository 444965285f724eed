-- The polls that are sent along a log, and the least exponent that they have (RULES, No. 11).
-- Assumes nothing.
use Rattle.std.specs.Prelude.{List, [], ◌∷◌, ℤ, ◌≤ℤ◌}
use Rattle.association.specs.declared.Association.{Association}
use Rattle.timer_rules.specs.declared.TimerAnswer.{TimerAnswer}
use Rattle.timer_rules.specs.declared.TimerAnswer.TheVariants.{Sent, Reset, Demobilize, NoCookie, CookieTooLarge, ShortBuffer, NotWhole}
use Rattle.laws_log.specs.Machine.{Done, of_timer, of_reply}
use Rattle.laws.specs.Association.{machine}

-- the last poll, as the record has it
abbrev pub last_of : Association → ℤ
last_of a = a.state.polls.last.0

-- a poll that was sent has at least this exponent; no other answer is a poll
-- promise no11.5: Over any log from `metered` no sent poll has a last poll below 8, whatever the desired poll, RATE or a V5 reply says.
--     edit: laws/no_poll_is_above_the_least
abbrev pub AtLeast : ℤ → TimerAnswer → Type 0
AtLeast least (Sent kind poll len asked) = least ≤ℤ poll.0
AtLeast least Reset = Unit {0}
AtLeast least Demobilize = Unit {0}
AtLeast least NoCookie = Unit {0}
AtLeast least CookieTooLarge = Unit {0}
AtLeast least ShortBuffer = Unit {0}
AtLeast least NotWhole = Unit {0}

-- and so has every one of those that were sent
-- promise: no11.5
abbrev pub AllAtLeast : ℤ → List (Done machine) → Type 0
AllAtLeast least [] = Unit {0}
AllAtLeast least (of_timer t x ∷ ds) = AtLeast least x.0 × AllAtLeast least ds
AllAtLeast least (of_reply r x ∷ ds) = AllAtLeast least ds

-- along what was done, and in the record after it: a sent poll's exponent is the record's last poll, and stays there until the next one is sent
-- promise: no11.5 (the answers' polls and the record's last poll)
pub record Sparing (least : ℤ) (done : List (Done machine)) (a : Association) : Type 0 where
  pub sent : AllAtLeast least done
  pub last : least ≤ℤ last_of a
