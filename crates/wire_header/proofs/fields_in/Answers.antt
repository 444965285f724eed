-- `wire_header::fields_in` meets its contract: field by field, what each call ensures.
-- Assumes nothing.
use Rattle.std.proofs.Common.{◌∙◌}
use mir.Facts.{to_z-of_z}
use mir.Syntax.{w8}
use Rattle.wire_header.specs.Header.{fields}
use Rattle.wire_header.proofs.fields_in.Goals as goal

pub returns : goal.returns
unfolding fields
returns c =
    let poll = c.u8_as_i8 in
    let precision = c.u8_as_i8-2 in
    simp (
      c.from.ensures,
      c.from-2.ensures,
      to_z-of_z {w = w8} (record { sfits = poll.type_inv }) ∙ poll.ensures,
      to_z-of_z {w = w8} (record { sfits = precision.type_inv }) ∙ precision.ensures,
      c.be32_at.ensures,
      c.be32_at-2.ensures,
      c.be32_at-3.ensures,
      c.word_at.ensures,
      c.word_at-2.ensures,
      c.word_at-3.ensures,
      c.word_at-4.ensures,
    )
