-- `put_placeholders` meets its contract. The loop's invariant: the first i placeholders are in their place.
-- Assumes nothing.
use Rattle.std.proofs.Common.{◌≡◌}
use Rattle.std.specs.Prelude.{replicate}
use Rattle.words.specs.Put.{laid_at}
use Rattle.wire_request.specs.Extension.{all_bytes}
use Rattle.wire_request.specs.Request.{placeholder}
use Rattle.wire_request.proofs.put_placeholders.Given as goal

abbrev pub invariant-loop-i : goal.invariant-loop-i
invariant-loop-i l = l.fields ≡ laid_at l.initial.fields 0 (all_bytes (replicate l.i (placeholder l.len)))
