-- `wire_header::read_header` meets its contract: the tests that led to each return are those of the definition.
-- Assumes nothing.
use Rattle.std.proofs.Common.{arith}
use Rattle.std.proofs.lemmas.Grind.{common_steps}
use borrow.Author.Tests.{lt-ltb, le-ltb}
use Rattle.wire_header.specs.Header.{header_of}
use Rattle.wire_header.proofs.Head.{fields_head}
use Rattle.wire_header.proofs.read_header.Goals as goal
use Rattle.wire_header.proofs.read_header.Goals.{in-3, in-4}

pub returns-then-p-lt-HEADER_BYTES : goal.returns-then-p-lt-HEADER_BYTES
unfolding header_of
returns-then-p-lt-HEADER_BYTES c = simp (lt-ltb _ _ c.if-p-lt-HEADER_BYTES.true)

pub returns-in_default : goal.returns-in_default
unfolding header_of
returns-in_default c = grind (arith, common_steps)

pub returns : goal.returns
unfolding header_of
returns c =
    let long = le-ltb _ _ c.if-p-lt-HEADER_BYTES.false in
    elim c.match-p-rem8.branch [
      | in-3 w ↦ simp (long, w.in-3.is, c.fields_in.ensures, w.version-is, fields_head)
      | in-4 w ↦ simp (long, w.in-4.is, c.fields_in.ensures, w.version-is, fields_head)
    ]
