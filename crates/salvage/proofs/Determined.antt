-- The contract of `salvage` determines its result, and that of the refusal's number: any two that it allows are equal, and so are the bytes of the
-- buffer that was lent.
-- Assumes nothing.
use mathlib.Core.Path.{sym, ◌∙◌}
use Rattle.words.specs.Determined.{Determined, DeterminedLent}
use Rattle.salvage.proofs.SalvageRefusalRefusal.number.Reads as number
use Rattle.salvage.proofs.salvage.Reads as salvage

pub number_determined : Determined number.Post
number_determined κs a y z e f p q = p ∙ sym q

pub salvage_determined : DeterminedLent salvage.Post (λ κs e. e.1.0.now)
salvage_determined κs a y z e f p q = (p.0 ∙ sym q.0, p.1 ∙ sym q.1)
