-- `add` meets its contract. The invariant: the minutes passed have their poll, and those ahead are as they were.
-- Assumes nothing.
use native.Mathlib.Omega.{arith}
use Rattle.calendar.proofs.Adding.{step}
use Rattle.calendar.proofs.add.Goals as goal

pub loop-m-preserved : goal.loop-m-preserved
loop-m-preserved c = step _ _ c.requires.0 _ _ _ c.loop-m.invariant (omega arith)
