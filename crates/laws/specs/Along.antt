-- Properties of a machine's calls that carry over to its logs: a property that each call keeps, and a machine that answers replies in another way.
-- Assumes nothing.
use Rattle.std.specs.Prelude.{List, [], ◌∷◌, ◌++◌}
use Rattle.laws_log.specs.Log.{Rule}
use Rattle.laws_log.specs.Machine.{Machine, Call, Done, made, step}

module _ {D : Rule} (M : Machine D) where
  -- each call keeps a property of what was done so far, with its answers, and of the record
  abbrev pub KeptWith : (List (Done M) → M.Record → Type 0) → Type 0
  KeptWith P = (done : List (Done M)) (a : M.Record) (c : Call D) → P done a → P (done ++ made M a c ∷ []) (step M a c)

  -- each call keeps a property of the record
  abbrev pub Kept : (M.Record → Type 0) → Type 0
  Kept P = (a : M.Record) (c : Call D) → P a → P (step M a c)

  -- a relation between the records at the two ends of a log: it holds for an empty log, for two logs in a row, and for each call
  pub record Orders (R : M.Record → M.Record → Type 0) : Type 0 where
    pub none : (a : M.Record) → R a a
    pub more : {a b c : M.Record} → R a b → R b c → R a c
    pub call : (a : M.Record) (c : Call D) → R a (step M a c)

  -- the same machine, its replies handled otherwise
  abbrev pub with_reply : (M.Record → D.Reply → M.ReplyAnswer × M.Record) → Machine D
  with_reply reply = record {
    Record = M.Record;
    TimerAnswer = M.TimerAnswer;
    ReplyAnswer = M.ReplyAnswer;
    timer_number = M.timer_number;
    reply_number = M.reply_number;
    Quiet = M.Quiet;
    settings = M.settings;
    pending = M.pending;
    answered = M.answered;
    timer = M.timer;
    reply = reply;
  }
