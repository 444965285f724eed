-- `words::be_at` meets its contract. The invariant: x is the number of the bytes so far, which are those that the contract names.
-- Assumes nothing.
use Rattle.std.proofs.Common.{◌≡◌}
use Rattle.words.specs.Bytes.{part}
use Rattle.words.proofs.Bytes.{Gathered}
use Rattle.words.proofs.be_at.Given as goal

abbrev pub invariant-loop-b : goal.invariant-loop-b
invariant-loop-b l = record { there : l.b-items ≡ part l.p l.at l.n; gathered : Gathered l.b-items l.b-index l.x }
