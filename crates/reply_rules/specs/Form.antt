-- What a reply of each form says to a request, with NTS or without, and with this unique identifier.
-- Assumes nothing.
use Rattle.std.specs.Prelude.{Bool, List, ℕ, Option, Some, option_map}
use Rattle.wire_incoming.specs.declared.Reply.{Reply}
use Rattle.wire_incoming.specs.declared.DecodedReply.{DecodedReply}
use Rattle.wire_incoming.specs.Incoming.{read_of, decoded_of}
use Rattle.reply_rules.specs.declared.Packet.{Packet}

-- the byte form
abbrev pub read_packet : Packet → Bool → List ℕ → Option Reply
read_packet p nts uid = read_of nts uid p.packet.now p.end p.decrypted.now

-- the decoded form
abbrev pub read_decoded : DecodedReply → Bool → List ℕ → Option Reply
read_decoded d nts uid = Some (decoded_of d)

-- the decoded form, where the caller may have found a code of no kind
abbrev pub read_tried : Option DecodedReply → Bool → List ℕ → Option Reply
read_tried d nts uid = option_map decoded_of d
