-- `Reach::received_packet` meets its contract: `r | 1` and `r & 1` add up to r + 1, and `r & 1` is r % 2.
-- Assumes nothing.
use mathlib.Core.Path.{◌≡◌}
use mathlib.Core.Bool.{cond}
use Prim.Native.Nat.{ℕ, zero, suc, ◌+◌, ◌%◌, ◌<◌}
use native.Mathlib.Omega.{arith}
use lib.Bits.{bit_or, or_add_and, and_mask}
use lib.Dec.{eqb}
use Rattle.reach.proofs.Reach.received_packet.Goals as goal

by_last : (r x d : ℕ) → x + d ≡ r + 1 → d < 2 → x ≡ cond (eqb d 0) (r + 1) r
by_last r x zero e h = omega arith
by_last r x (suc zero) e h = omega arith
by_last r x (suc (suc d)) e h = let z : ⊥ = omega arith in absurd z

or_one : (r : ℕ) → bit_or r 1 ≡ cond (eqb (r % 2) 0) (r + 1) r
or_one r = by_last r (bit_or r 1) (r % 2) (omega (arith, or_add_and r 1, and_mask r 1)) (omega arith)

pub returns : goal.returns
returns c = λ i. record { 0 = or_one c.args.self.0 i }
