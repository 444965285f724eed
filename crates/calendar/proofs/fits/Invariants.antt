-- `fits` meets its contract. The invariant: no minute of the entry that was passed is taken.
-- Assumes nothing.
use Prim.Native.Nat.{◌-◌}
use Rattle.calendar.proofs.Passing.{Passing}
use Rattle.calendar.proofs.fits.Given as goal

abbrev pub invariant-loop-m : goal.invariant-loop-m
invariant-loop-m l = Passing l.cap l.loads l.start l.repeat l.m

abbrev pub decreases-loop-m : goal.decreases-loop-m
decreases-loop-m l = 1440 - l.m
