-- `wire_groups::uid_among` meets its contract. The invariant: what was seen and what lies ahead say together what all say.
-- Assumes nothing.
use Rattle.std.proofs.Common.{◌≡◌, false}
use Rattle.wire_fields.specs.Fields.{fields_left}
use Rattle.wire_groups.specs.Matching.{uid_of, uids_within, disagrees}
use Rattle.wire_groups.proofs.Groups.{uid_after}
use Rattle.wire_groups.proofs.uid_among.Given as goal

abbrev pub invariant-loop-field : goal.invariant-loop-field
invariant-loop-field l =
    (disagrees l.seen ≡ false) × (uid_after l.seen l.uid (uids_within l.from l.to (fields_left l.field-iterator))
    ≡ uid_of l.uid (uids_within l.from l.to (fields_left l.fn.fields)))
