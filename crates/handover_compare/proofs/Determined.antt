-- The contracts of the public functions determine their results: any two that they allow are equal, and so are the bytes of the buffer that was lent.
-- Assumes nothing.
use mathlib.Core.Path.{sym, ◌∙◌}
use Rattle.words.specs.Determined.{Determined, DeterminedLent}
use Rattle.handover_compare.proofs.CompareRefusalRefusal.number.Reads as number
use Rattle.handover_compare.proofs.compare.Reads as compare
use Rattle.handover_compare.proofs.fields.fields.Reads as fields

pub compare_determined : DeterminedLent compare.Post (λ κs e. e.1.1.0.now)
compare_determined κs a y z e f p q = (p.0 ∙ sym q.0, p.1 ∙ sym q.1)

pub fields_determined : Determined fields.Post
fields_determined κs a y z e f p q = p ∙ sym q

pub number_determined : Determined number.Post
number_determined κs a y z e f p q = p ∙ sym q
