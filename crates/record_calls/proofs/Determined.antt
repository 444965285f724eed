-- Each public function's contract determines its result and each lent byte: any two that it allows are equal.
-- Assumes nothing.
use mathlib.Core.Path.{sym, ◌∙◌, ap}
use denote.RattleType.{RattleType}
use denote.Param.Laws.{Laws, IsCopy}
use mir.Syntax.{Dict}
use Rattle.std.specs.declared.clone.Clone as clone
use Rattle.reply_rules.specs.declared.Form as form
use Rattle.words.specs.Determined.{Determined, DeterminedLent}
use Rattle.record_calls.proofs.accepts.accept.Reads as accept
use mathlib.Core.List.{List}
use Rattle.record_calls.specs.Reply.{ReplyCall}
use Rattle.record_calls.proofs.replies.reply.Reads as reply
use Prim.Native.Nat.{ℕ}
use Rattle.record_calls.specs.Timer.{TimerCall}
use Rattle.record_calls.proofs.polls.timer.Reads as timer

pub accept_determined : Determined accept.Post
accept_determined κs a y z e f p q = p ∙ sym q

module _ (F : RattleType) (laws : Laws F) (copy : IsCopy F) (reads : form.Ghosts F.Denot) (by : Dict) (clones : clone.Ghosts F.Denot) (with : Dict) where
  pub reply_determined : DeterminedLent (reply.Post F laws copy reads by clones with) (λ κs e. e.0.now)
  reply_determined κs a y z e f p q = let s = p ∙ sym q in (ap (λ (t : ReplyCall). t.replied) s, ap (λ (t : ReplyCall). t.bytes) s)

pub timer_determined : DeterminedLent {S = List ℕ × List ℕ} timer.Post (λ κs e. (e.0.now, e.1.1.0.now))
timer_determined κs a y z e f p q = let e = p ∙ sym q in (ap (λ (t : TimerCall). t.answer) e, ap (λ (t : TimerCall). (t.bytes, t.left)) e)
