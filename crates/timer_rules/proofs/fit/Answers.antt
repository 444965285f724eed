-- `fit` meets its contract: each bound is the longest length of which so many fit.
-- Assumes nothing.
use Prim.Native.Nat.{max}
use native.Mathlib.Omega.{arith}
use Rattle.timer_rules.proofs.Count.{fits_some}
use Rattle.timer_rules.proofs.fit.Goals as goal

pub returns-then-len-le90 : goal.returns-then-len-le90
returns-then-len-le90 c = let n = max c.args.len 1 in omega (arith, fits_some n 8 (omega arith) (omega arith))
