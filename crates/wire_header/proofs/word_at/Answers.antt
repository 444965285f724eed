-- `wire_header::word_at` meets its contract: a word is its two halves.
-- Assumes nothing.
use Rattle.std.proofs.Common.{arith}
use Rattle.wire_header.proofs.Head.{halves}
use Rattle.wire_header.proofs.word_at.Goals as goal

pub returns : goal.returns
returns c = omega (arith, halves c.args.p.now c.args.at c.requires)
