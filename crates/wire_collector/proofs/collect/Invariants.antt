-- `wire_collector::collect` meets its contract. The invariant: the first bytes of the list are in the buffer, and its rest is still to come.
-- Assumes nothing.
use Rattle.wire_fields.specs.Fields.{fields_left}
use Rattle.wire_collector.proofs.Records.{list_left, Along}
use Rattle.wire_collector.proofs.collect.Given as goal

abbrev pub invariant-loop-field : goal.invariant-loop-field
invariant-loop-field l = Along l.decrypted l.initial.out l.out (list_left (fields_left l.field-iterator)) l.to
