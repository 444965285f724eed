-- `wire_collector::list_length` meets its contract. The invariant: what is counted and what lies ahead make the whole.
-- Assumes nothing.
use Rattle.std.proofs.Common.{◌≡◌, ◌+◌, length}
use Rattle.wire_fields.specs.Fields.{fields_left}
use Rattle.wire_collector.specs.Collector.{list_in}
use Rattle.wire_collector.proofs.Records.{list_left}
use Rattle.wire_collector.proofs.list_length.Given as goal

abbrev pub invariant-loop-field : goal.invariant-loop-field
invariant-loop-field l = l.long + length (list_left (fields_left l.field-iterator)) ≡ length (list_in l.decrypted)
