-- The number in RULES for each answer of the timer, and the actions that follow from it.
-- Assumes nothing.
use Rattle.std.specs.Prelude.{◌≡◌, ◌||◌, cond, List, [], ◌∷◌, ℕ, eqb}
use Rattle.association.specs.Actions.{Action, last_poll, send, update_system, set_timer, demobilize, reset}
use Rattle.timer_rules.specs.declared.TimerAnswer.{TimerAnswer}
use Rattle.timer_rules.specs.declared.TimerAnswer.TheVariants.{Sent, Reset, Demobilize, NoCookie, CookieTooLarge, ShortBuffer, NotWhole}

-- 20 poll sent; 21 reset; 22 demobilize; 23 reset: no cookie; 24 reset: cookie too large; 31 cookie buffer under 724 bytes; 32 record not whole
abbrev pub number_of : TimerAnswer → ℕ
number_of (Sent kind poll len asked) = 20
number_of Reset = 21
number_of Demobilize = 22
number_of NoCookie = 23
number_of CookieTooLarge = 24
number_of ShortBuffer = 31
number_of NotWhole = 32

-- 20 is send, system update, and a timer set by the last poll; 22 demobilize; 21, 23 and 24 reset; others none
-- promise actions.2: Actions of the timer, number by number.
abbrev pub actions_of : ℕ → List Action
actions_of n =
    cond (eqb n 20) (send ∷ update_system ∷ set_timer last_poll ∷ [])
    (cond (eqb n 22) (demobilize ∷ [])
    (cond (eqb n 21 || eqb n 23 || eqb n 24) (reset ∷ [])
    []))

-- number by number
pub record TimerActs (actions : ℕ → List Action) : Type 0 where
  pub sent_20 : actions 20 ≡ send ∷ update_system ∷ set_timer last_poll ∷ []
  pub reset_21 : actions 21 ≡ reset ∷ []
  pub demobilize_22 : actions 22 ≡ demobilize ∷ []
  pub reset_23 : actions 23 ≡ reset ∷ []
  pub reset_24 : actions 24 ≡ reset ∷ []
  pub none_31 : actions 31 ≡ []
  pub none_32 : actions 32 ≡ []
