-- A machine that is driven by timers and replies, its runs and their logs, and the laws that make striking sound.
-- Assumes nothing.
use Rattle.std.specs.Prelude.{◌≡◌, Bool, false, List, [], ◌∷◌, ℕ, T, Option}
use Rattle.laws_log.specs.Log.{Rule, Entry, timed, replied, next, live, well_formed, refusal, next_answered, reason, says, considered}

pub record Machine (D : Rule) : Type 1 where
  pub Record : Type 0
  pub TimerAnswer : Type 0
  pub ReplyAnswer : Type 0
  pub timer_number : TimerAnswer → ℕ
  pub reply_number : ReplyAnswer → ℕ
  pub Quiet : ReplyAnswer → Type 0
  pub settings : Record → D.Settings
  pub pending : Record → Option D.Request
  pub answered : Record → Bool
  pub timer : Record → D.Timer → TimerAnswer × Record
  pub reply : Record → D.Reply → ReplyAnswer × Record

-- A call's inputs; and a call's inputs with its whole answer.
pub data Call (D : Rule) : Type 0 where
  timer : D.Timer → Call D
  reply : D.Reply → Call D

pub data Done {D : Rule} (M : Machine D) : Type 0 where
  of_timer : D.Timer → M.TimerAnswer → Done M
  of_reply : D.Reply → M.ReplyAnswer → Done M

-- The inputs that a log holds.
abbrev pub call_of : {D : Rule} → Entry D → Call D
call_of (timed t n) = timer t
call_of (replied r n) = reply r

abbrev pub calls_of : {D : Rule} → List (Entry D) → List (Call D)
calls_of [] = []
calls_of (e ∷ es) = call_of e ∷ calls_of es

module _ {D : Rule} (M : Machine D) where
  -- What the log keeps of a call: its inputs and its number.
  abbrev pub note : Done M → Entry D
  note (of_timer t x) = timed t (M.timer_number x)
  note (of_reply r x) = replied r (M.reply_number x)

  abbrev pub logged : List (Done M) → List (Entry D)
  logged [] = []
  logged (e ∷ es) = note e ∷ logged es

  -- One call, and many: the whole answers, the record at the end, the log.
  abbrev pub made : M.Record → Call D → Done M
  made a (timer t) = of_timer t (M.timer a t).0
  made a (reply r) = of_reply r (M.reply a r).0

  abbrev pub step : M.Record → Call D → M.Record
  step a (timer t) = (M.timer a t).1
  step a (reply r) = (M.reply a r).1

  abbrev pub run : M.Record → List (Call D) → List (Done M)
  run a [] = []
  run a (c ∷ cs) = made a c ∷ run (step a c) cs

  abbrev pub after : M.Record → List (Call D) → M.Record
  after a [] = a
  after a (c ∷ cs) = after (step a c) cs

  abbrev pub log_of : M.Record → List (Call D) → List (Entry D)
  log_of a cs = logged (run a cs)

-- The laws. Settings never change. What is pending follows the log's own rule: a 20 asks, a 0 leaves none, and nothing else changes it. So does whether a
-- reply has been measured since, and a reply gets the reason that these two give. A well-formed reply that answers nothing pending is rejected, causes no
-- action and does not change the record.
-- promise: demand.3 (five laws of a machine)
pub record Laws {D : Rule} (M : Machine D) : Type 0 where
  pub settings_kept : (a : M.Record) (c : Call D) → M.settings (step M a c) ≡ M.settings a
  pub pending_next : (a : M.Record) (c : Call D) → M.pending (step M a c) ≡ next D (M.settings a) (M.pending a) (note M (made M a c))
  pub answered_next : (a : M.Record) (c : Call D) → M.answered (step M a c) ≡ next_answered (M.answered a) (note M (made M a c))
  pub told : (a : M.Record) (r : D.Reply) → T (considered (M.reply_number (M.reply a r).0)) →
      says (M.reply_number (M.reply a r).0) ≡ reason D (M.pending a) (M.answered a) r
  pub refused : (a : M.Record) (r : D.Reply) → live D (M.settings a) (M.pending a) r ≡ false → T (well_formed (M.reply_number (M.reply a r).0)) →
      T (refusal (M.reply_number (M.reply a r).0)) × M.Quiet (M.reply a r).0 × ((M.reply a r).1 ≡ a)
