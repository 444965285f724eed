-- The association as a machine of timers and replies (demand 3): the inputs of its calls, what the log alone can work out of them, and its steps.
-- Assumes nothing.
use Rattle.std.specs.Prelude.{◌≡◌, Bool, false, cond, List, [], ℕ, length, Option, Some, None}
use Rattle.association.specs.declared.Settings.{Settings}
use Rattle.association.specs.declared.Pending.{Pending}
use Rattle.association.specs.declared.Association.{Association}
use Rattle.wire_incoming.specs.declared.DecodedReply.{DecodedReply}
use Rattle.wire_incoming.specs.declared.Reply.{Reply}
use Rattle.wire_incoming.specs.Incoming.{read_of, decoded_of}
use Rattle.timer_rules.specs.declared.TimerAnswer.{TimerAnswer}
use Rattle.timer_rules.specs.Answer as timer
use Rattle.timer_rules.specs.declared.TimerInput.{TimerInput}
use Rattle.timer_rules.specs.Poll.{pending_of}
use Rattle.timer.specs.Timer.{timer_of, buffer_of}
use Rattle.reply.specs.declared.Replied.{Replied}
use Rattle.reply_rules.specs.Answer as reply
use Rattle.reply_clauses.specs.After.{Arrival, unexpired, answers}
use Rattle.reply.specs.Reply.{replied_of}
use Rattle.laws_log.specs.Log.{Rule}
use Rattle.laws_log.specs.Machine.{Machine}

-- the inputs of a timer: those of the poll, and the lent buffer with its bytes
pub record TimerIn : Type 0 where
  pub poll : TimerInput
  pub buffer : List ℕ

-- the byte form and the decoded form, each with what comes with it
pub data ReplyIn : Type 0 where
  bytes : (packet : List ℕ) (end : ℕ) (decrypted : List ℕ) → Arrival → ReplyIn
  decoded : DecodedReply → Arrival → ReplyIn

abbrev pub arrival_of : ReplyIn → Arrival
arrival_of (bytes packet end decrypted t) = t
arrival_of (decoded d t) = t

-- what a reply says, read with the uid of a request
abbrev pub read_as : Settings → Pending → ReplyIn → Option Reply
read_as s q (bytes packet end decrypted t) = read_of s.nts q.uid packet end decrypted
read_as s q (decoded d t) = Some (decoded_of d)

-- a reply answers a request if part 8 holds for its identifiers
abbrev pub answers_as : Settings → Pending → Option Reply → Bool
answers_as s q (Some r) = answers s.nts q.id r
answers_as s q None = false

-- the log's own rule: it reads settings, inputs and numbers, and never a record
abbrev pub rule : Rule
rule = record {
  Settings = Settings;
  Timer = TimerIn;
  Reply = ReplyIn;
  Request = Pending;
  asks = λ s t. pending_of s.nts s.window t.poll;
  answers = λ s q r. answers_as s q (read_as s q r);
  unexpired = λ q r. unexpired q.deadline (arrival_of r).time;
}

-- the request that is pending, if any
abbrev pub pending_in : Pending → Option Pending
pending_in q = cond q.present (Some q) None

-- a timer's whole answer: what it returns, and what it leaves in the buffer, to which it copies the cookie's bytes
abbrev pub timed : Association → TimerIn → (TimerAnswer × List ℕ) × Association
timed a t = let o = timer_of a t.poll (length t.buffer) in ((o.answer, buffer_of a t.poll t.buffer), o.association)

-- the result of either form, from what was read: the answer, what fell out of the stash, and the record
-- promise no5.7: Striking leaves the count and the sum of what fell out.
-- promise: no5.7 (an answer of the machine is `Replied`)
abbrev pub replied : Association → ReplyIn → Replied × Association
replied a r = let o = replied_of a (read_as a.settings a.state.request r) (arrival_of r) in (o.replied, o.association)

-- no action follows from the number of a quiet answer
abbrev pub machine : Machine rule
machine = record {
  Record = Association;
  TimerAnswer = TimerAnswer × List ℕ;
  ReplyAnswer = Replied;
  timer_number = λ x. timer.number_of x.0;
  reply_number = λ x. reply.number_of x.answer;
  Quiet = λ x. reply.actions_of (reply.number_of x.answer) ≡ [];
  settings = λ a. a.settings;
  pending = λ a. pending_in a.state.request;
  answered = λ a. a.state.request.answered;
  timer = timed;
  reply = replied;
}
