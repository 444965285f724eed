-- `add` meets its contract. The invariant: the minutes passed have their poll, and those ahead are as they were.
-- Assumes nothing.
use Prim.Native.Nat.{◌-◌}
use Rattle.calendar.proofs.Adding.{Adding}
use Rattle.calendar.proofs.add.Given as goal

abbrev pub invariant-loop-m : goal.invariant-loop-m
invariant-loop-m l = Adding l.start l.repeat l.initial.loads l.loads l.m

abbrev pub decreases-loop-m : goal.decreases-loop-m
decreases-loop-m l = 1440 - l.m
