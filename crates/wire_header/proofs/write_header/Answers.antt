-- `wire_header::write_header` meets its contract: the four bytes and the seven words lie one after the other.
-- Assumes nothing.
use Rattle.std.proofs.Common.{rules, ◌∙◌, ap, ◌^◌}
use mir.Facts.{to_z-of_z}
use mir.Syntax.{w8}
use mir.Val.{SFits}
use Rattle.words.specs.Signed.{unsigned}
use Rattle.wire_header.specs.Header.{bytes_of}
use Rattle.wire_header.proofs.write_header.Goals as goal

pub returns : goal.returns
unfolding bytes_of
returns c =
    let poll : SFits w8 c.args.h.poll.0 = search rules in
    let precision : SFits w8 c.args.h.precision = search rules in
    rw (
      c.first_byte.ensures,
      c.i8_as_u8.ensures ∙ ap (unsigned (2 ^ 7)) (to_z-of_z poll),
      c.i8_as_u8-2.ensures ∙ ap (unsigned (2 ^ 7)) (to_z-of_z precision),
      c.copy_from_slice.ensures.after,
      c.be32_bytes.ensures,
      c.copy_from_slice-2.ensures.after,
      c.be32_bytes-2.ensures,
      c.copy_from_slice-3.ensures.after,
      c.be32_bytes-3.ensures,
      c.copy_from_slice-4.ensures.after,
      c.be64_bytes.ensures,
      c.copy_from_slice-5.ensures.after,
      c.be64_bytes-2.ensures,
      c.copy_from_slice-6.ensures.after,
      c.be64_bytes-3.ensures,
      c.copy_from_slice-7.ensures.after,
      c.be64_bytes-4.ensures,
    )
