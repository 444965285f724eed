-- Each public function's contract determines its result, the next record, and each byte of the lent buffer: any two that it allows are equal, at every form of
-- what is saved.
-- Assumes nothing.
use mathlib.Core.Path.{sym, ap, ◌∙◌}
use mir.Syntax.{Dict}
use denote.RattleType.{RattleType}
use denote.Param.Laws.{Laws}
use Rattle.words.specs.Determined.{DeterminedLent}
use Rattle.handover_file.specs.Answers.{Handed}
use Rattle.handover_save.specs.declared.Savable as savable
use Rattle.handover_save.proofs.write.Reads as write
use Rattle.handover_save.proofs.save.Reads as save

module _ (S : RattleType) (laws : Laws S) (reads : savable.Ghosts S.Denot) (by : Dict) where
  pub write_determined : DeterminedLent (write.Post S laws reads by) (λ κs e. e.1.0.now)
  write_determined κs a y z e f p q = (p.0 ∙ sym q.0, p.1 ∙ sym q.1)

pub save_determined : DeterminedLent save.Post (λ κs e. e.1.0.now)
save_determined κs a y z e f p q = let e = p ∙ sym q in (ap (λ (h : Handed). h.gives) e, ap (λ (h : Handed). h.left) e)
