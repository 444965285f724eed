-- Each public function's contract determines its result, and the record that it leaves behind the reference: any two that it allows are equal, at every form
-- of a reply.
-- Assumes nothing.
use mathlib.Core.Path.{sym, ◌∙◌}
use mir.Syntax.{Dict}
use denote.RattleType.{RattleType}
use denote.Param.Laws.{Laws, IsCopy}
use Rattle.std.specs.declared.clone.Clone as clone
use Rattle.words.specs.Determined.{Determined, DeterminedLent}
use Rattle.reply_rules.specs.declared.Form as form
use Rattle.reply.proofs.reply.Reads as reply
use Rattle.reply.proofs.reply_core.Reads as reply-core

module _ (F : RattleType) (laws : Laws F) (copy : IsCopy F) (reads : form.Ghosts F.Denot) (by : Dict) (clones : clone.Ghosts F.Denot) (with : Dict) where
  pub reply_core_determined : Determined (reply-core.Post F laws copy reads by clones with)
  reply_core_determined κs a y z e f p q = p ∙ sym q

  -- promise: 11.10
  pub reply_determined : DeterminedLent (reply.Post F laws copy reads by clones with) (λ κs e. e.0.now)
  reply_determined κs a y z e f p q = (p.0 ∙ sym q.0, p.1 ∙ sym q.1)
