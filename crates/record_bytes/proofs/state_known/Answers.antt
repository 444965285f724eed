-- `state_known` meets its contract: each code is tested where it stands in the head.
-- Assumes nothing.
use Rattle.std.proofs.lemmas.Bool.Decides.{nat_tests}
use native.Mathlib.Omega.{arith}
use Rattle.words.specs.Bytes.{part}
use Rattle.record_bytes.proofs.Head.{known_parts}
use Rattle.record_bytes.proofs.state_known.Goals as goal

pub returns-then-head-le1 : goal.returns-then-head-le1
unfolding part
returns-then-head-le1 c = rw (known_parts c.args.head.now) (grind (arith, nat_tests))

pub returns-else-head-le1 : goal.returns-else-head-le1
unfolding part
returns-else-head-le1 c = rw (known_parts c.args.head.now) (grind (arith, nat_tests))
