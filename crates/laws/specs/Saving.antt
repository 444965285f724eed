-- The association as a machine of timers, saves and replies (RULES, No. 6): a save appears in a log where a timer may, with its own number, and asks for
-- nothing. The log's rule is that of specs/Association.antt. Statements about timers and replies alone are about what was done without the saves.
-- Assumes nothing.
use Rattle.std.specs.Prelude.{◌≡◌, false, List, [], ◌∷◌, ◌++◌, ℕ, length, Result}
use Rattle.association.specs.declared.Settings.{Settings}
use Rattle.association.specs.declared.Pending.{Pending}
use Rattle.association.specs.declared.Association.{Association}
use Rattle.association.specs.Record.{no_pending}
use Rattle.timer_rules.specs.declared.TimerAnswer.{TimerAnswer}
use Rattle.timer_rules.specs.Answer as timer
use Rattle.reply.specs.declared.Replied.{Replied}
use Rattle.reply_rules.specs.Answer as reply
use Rattle.handover_file.specs.declared.SaveRefusal.{SaveRefusal}
use Rattle.handover_file.specs.Answers.{save_number, save_of, buffer_of}
use Rattle.laws_log.specs.Log.{Rule}
use Rattle.laws_log.specs.Machine.{Machine, Done, of_timer, of_reply}
use Rattle.laws.specs.Association.{TimerIn, ReplyIn, pending_in, rule, timed, replied, machine}

-- a timer with its inputs, or a save with the buffer that is lent
pub data Tick : Type 0 where
  poll : TimerIn → Tick
  save : List ℕ → Tick

abbrev pub asks_for : Settings → Tick → Pending
asks_for s (poll t) = rule.asks s t
asks_for s (save b) = no_pending false

-- the whole answer of either, with what is left in the buffer
pub data TickAnswer : Type 0 where
  polled : TimerAnswer × List ℕ → TickAnswer
  saved : Result ℕ SaveRefusal × List ℕ → TickAnswer

abbrev pub tick_number : TickAnswer → ℕ
tick_number (polled x) = timer.number_of x.0
tick_number (saved x) = save_number x.0

abbrev pub ticked : Association → Tick → TickAnswer × Association
ticked a (poll t) = (polled (timed a t).0, (timed a t).1)
ticked a (save b) = (saved ((save_of a (length b)).answer, buffer_of a b), (save_of a (length b)).association)

abbrev pub saving_rule : Rule
saving_rule = record {
  Settings = Settings;
  Timer = Tick;
  Reply = ReplyIn;
  Request = Pending;
  asks = asks_for;
  answers = rule.answers;
  unexpired = rule.unexpired;
}

-- promise no6.11: Logs that contain saves: demand 3 and the laws of No. 3, No. 7, No. 11 and No. 14 hold of them too, and a save changes the stash alone.
--     edit: laws/a_save_sends_a_poll
abbrev pub saving_machine : Machine saving_rule
saving_machine = record {
  Record = Association;
  TimerAnswer = TickAnswer;
  ReplyAnswer = Replied;
  timer_number = tick_number;
  reply_number = λ x. reply.number_of x.answer;
  Quiet = λ x. reply.actions_of (reply.number_of x.answer) ≡ [];
  settings = λ a. a.settings;
  pending = λ a. pending_in a.state.request;
  answered = λ a. a.state.request.answered;
  timer = ticked;
  reply = replied;
}

-- what was done, the saves left out
abbrev pub unsaved_by : Done saving_machine → List (Done machine)
unsaved_by (of_timer (poll t) (polled x)) = of_timer t x ∷ []
unsaved_by (of_timer (poll t) (saved x)) = []
unsaved_by (of_timer (save b) x) = []
unsaved_by (of_reply r x) = of_reply r x ∷ []

-- promise: no6.11
abbrev pub unsaved : List (Done saving_machine) → List (Done machine)
unsaved [] = []
unsaved (d ∷ ds) = unsaved_by d ++ unsaved ds
