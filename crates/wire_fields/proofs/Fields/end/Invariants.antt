-- `Fields::end` meets its contract. The loop's invariant: the walk that is left ends where the whole one does.
-- Assumes nothing.
use Rattle.std.proofs.Common.{◌≡◌, length}
use Rattle.wire_fields.specs.Walk.{walked_of}
use Rattle.wire_fields.specs.Fields.{walk_left, fields_left}
use Rattle.wire_fields.proofs.Fields.end.Given as goal

abbrev pub invariant-loop : goal.invariant-loop
invariant-loop l = walked_of (walk_left l.self) ≡ walked_of (walk_left l.fn.self)

abbrev pub decreases-loop : goal.decreases-loop
decreases-loop l = length (fields_left l.self)
