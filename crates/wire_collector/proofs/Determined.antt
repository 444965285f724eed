-- Each public function's contract determines its result: any two that it allows are equal, and so are the bytes of the buffer that was lent.
-- Assumes nothing.
use mathlib.Core.Path.{sym, ◌∙◌}
use Rattle.words.specs.Determined.{Determined, DeterminedLent}
use Rattle.wire_collector.proofs.CollectRefusalRefusal.number.Reads as number
use Rattle.wire_collector.proofs.collect.Reads as collect

pub collect_determined : DeterminedLent collect.Post (λ κs e. e.1.0.now)
collect_determined κs a y z e f p q = (p.0 ∙ sym q.0, p.1 ∙ sym q.1)

pub number_determined : Determined number.Post
number_determined κs a y z e f p q = p ∙ sym q
