-- `wire_groups::packet_uid` meets its contract.
-- Assumes nothing.
use Rattle.std.proofs.Common.{ap, ◌∙◌}
use Rattle.wire_fields.specs.Walk.{packet_walk, fields_of}
use Rattle.wire_groups.specs.Matching.{uid_of, uids_within, packet_uid}
use Rattle.wire_groups.proofs.Groups.{uids_are}
use Rattle.wire_groups.proofs.packet_uid.Goals as goal

pub returns : goal.returns
unfolding packet_uid
returns c =
    let a = c.args in
    let read = ap (uids_within a.from a.to) c.packet.ensures.fields ∙ uids_are a.p.now a.from a.to (fields_of (packet_walk a.p.now)) in
    c.uid_among.ensures ∙ ap (uid_of a.uid) read
