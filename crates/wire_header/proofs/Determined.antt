-- Each public function's contract determines its result: any two that it allows are equal.
-- Assumes nothing.
use mathlib.Core.Path.{◌∙◌, sym}
use Rattle.words.specs.Determined.{Determined}
use Rattle.wire_header.proofs.read_header.Reads as read-header
use Rattle.wire_header.proofs.write_header.Reads as write-header
use Rattle.wire_header.proofs.LeapFromU8.from.Reads as leap-from-bits
use Rattle.wire_header.proofs.U8FromLeap.from.Reads as bits-from-leap
use Rattle.wire_header.proofs.ModeFromU8.from.Reads as mode-from-bits
use Rattle.wire_header.proofs.U8FromMode.from.Reads as bits-from-mode
use Rattle.wire_header.proofs.HeaderVersion.number.Reads as version-number
use Rattle.wire_header.proofs.Header.kisses.Reads as kisses

pub read_header_determined : Determined read-header.Post
read_header_determined κs a y z e f p q = p ∙ sym q

pub write_header_determined : Determined write-header.Post
write_header_determined κs a y z e f p q = p ∙ sym q

pub version_number_determined : Determined version-number.Post
version_number_determined κs a y z e f p q = p ∙ sym q

pub kisses_determined : Determined kisses.Post
kisses_determined κs a y z e f p q = p ∙ sym q

pub leap_from_bits_determined : Determined leap-from-bits.Post
leap_from_bits_determined κs a y z e f p q = p ∙ sym q

pub bits_from_leap_determined : Determined bits-from-leap.Post
bits_from_leap_determined κs a y z e f p q = p.0 ∙ sym q.0

pub mode_from_bits_determined : Determined mode-from-bits.Post
mode_from_bits_determined κs a y z e f p q = p ∙ sym q

pub bits_from_mode_determined : Determined bits-from-mode.Post
bits_from_mode_determined κs a y z e f p q = p.0 ∙ sym q.0
