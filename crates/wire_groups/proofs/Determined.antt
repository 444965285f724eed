-- Each public function's contract determines its result: any two that it allows are equal.
-- Assumes nothing.
use mathlib.Core.Path.{sym, ◌∙◌}
use Rattle.words.specs.Determined.{Determined}
use Rattle.wire_groups.proofs.packet_uid.Reads as packet-uid
use Rattle.wire_groups.proofs.decrypted_uid.Reads as decrypted-uid
use Rattle.wire_groups.proofs.uid_matches.Reads as uid-matches

pub packet_uid_determined : Determined packet-uid.Post
packet_uid_determined κs a y z e f p q = p ∙ sym q

pub decrypted_uid_determined : Determined decrypted-uid.Post
decrypted_uid_determined κs a y z e f p q = p ∙ sym q

pub uid_matches_determined : Determined uid-matches.Post
uid_matches_determined κs a y z e f p q = p ∙ sym q
