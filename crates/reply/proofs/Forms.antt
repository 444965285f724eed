-- At each form of a reply the calls give what was defined for that form: `reply_of` at packet bytes, and `reply_decoded_of` at a decoded reply.
-- Assumes nothing.
use mathlib.Core.Path.{◌≡◌, refl}
use Rattle.association.specs.declared.Association.{Association}
use Rattle.wire_incoming.specs.declared.DecodedReply.{DecodedReply}
use Rattle.reply_clauses.specs.After.{Arrival}
use Rattle.reply_rules.specs.declared.Packet.{Packet}
use Rattle.reply_rules.specs.Form.{read_packet, read_decoded}
use Rattle.reply.specs.Reply.{replied_of, reply_of, reply_decoded_of}

pub at_packet : (a : Association) (p : Packet) (t : Arrival) →
    replied_of a (read_packet p a.settings.nts a.state.request.uid) t ≡ reply_of a p.packet.now p.end p.decrypted.now t
at_packet a p t = refl

pub at_decoded : (a : Association) (d : DecodedReply) (t : Arrival) →
    replied_of a (read_decoded d a.settings.nts a.state.request.uid) t ≡ reply_decoded_of a d t
at_decoded a d t = refl
