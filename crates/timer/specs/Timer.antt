-- RULES, part 10: the timer's answer and next record, and what it leaves in the lent buffer.
-- Assumes nothing.
use Rattle.std.specs.Prelude.{cond, List, ℕ, length}
use Rattle.cookiestash.specs.declared.Slot.{Slot}
use Rattle.cookiestash.specs.Stash.{get_of, slot_or_empty}
use Rattle.cookiestash.specs.Whole.{seen_of}
use Rattle.cookiestash.specs.Handed.{wrote}
use Rattle.association.specs.declared.Association.{Association}
use Rattle.timer_rules.specs.declared.Decision.{Decision}
use Rattle.timer_rules.specs.declared.TimerAnswer.{TimerAnswer}
use Rattle.timer_rules.specs.declared.TimerAnswer.TheVariants.{Sent, Reset, Demobilize, NoCookie, CookieTooLarge, ShortBuffer, NotWhole}
use Rattle.timer_rules.specs.declared.TimerInput.{TimerInput}
use Rattle.timer_rules.specs.Decide.{decide_of}
use Rattle.timer.specs.declared.TimerOut.{TimerOut}

abbrev pub out : TimerAnswer → Association → TimerOut
out r a = record { answer = r; association = a }

-- the cookie that is taken
abbrev pub oldest : Association → Slot
oldest a = slot_or_empty (get_of a.settings.capacity a.stash)

-- the record after a decision: the settings, the stash without its oldest cookie if that is taken, and the next state
-- promise: no12.2
abbrev pub decided : Association → Decision → TimerOut
decided a d =
    out d.answer (record { settings = a.settings; stash = cond d.takes (get_of a.settings.capacity a.stash).stash a.stash; state = d.state })

-- promise: 10.1, no12.2
unfoldable pub timer_of : Association → TimerInput → ℕ → TimerOut
timer_of a i room = decided a (decide_of a.settings a.state (seen_of a.settings.capacity a.stash) i room)

-- how many bytes are handed out: the cookie's length, which is 0 without NTS
-- promise: 10.8
abbrev pub handed : TimerAnswer → ℕ
handed (Sent kind poll len asked) = len
handed Reset = 0
handed Demobilize = 0
handed NoCookie = 0
handed CookieTooLarge = 0
handed ShortBuffer = 0
handed NotWhole = 0

-- only 20 with NTS writes to the buffer
-- promise 10.8: A 20 with NTS writes the cookie's bytes to the start of the buffer and leaves the rest. No other answer writes.
--     edit: timer/a_cookie_goes_without_its_bytes, cookiestash/the_rest_of_the_buffer_is_cut
-- promise: no12.2
unfoldable pub buffer_of : Association → TimerInput → List ℕ → List ℕ
buffer_of a i buffer = wrote (oldest a).bytes (handed (timer_of a i (length buffer)).answer) buffer

-- all results of a call: its answer with the next record, and what is left in the buffer
pub record Timed : Type 0 where
  pub gives : TimerOut
  pub left : List ℕ

abbrev pub timed : TimerOut → List ℕ → Timed
timed o buffer = record { gives = o; left = buffer }

-- promise 10.9: The association that the caller lends by reference is updated.
--     edit: timer/the_state_is_not_stored
-- promise: 10.9 (of the lent record)
abbrev pub timed_of : Association → TimerInput → List ℕ → Timed
timed_of a i buffer = timed (timer_of a i (length buffer)) (buffer_of a i buffer)
