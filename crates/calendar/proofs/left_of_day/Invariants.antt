-- `left_of_day` meets its contract. The invariant: what is left has the remainder of the whole.
-- Assumes nothing.
use mathlib.Core.Path.{◌≡◌}
use Prim.Native.Nat.{◌%◌}
use Rattle.calendar.proofs.left_of_day.Given as goal

abbrev pub invariant-loop-left : goal.invariant-loop-left
invariant-loop-left l = l.left % l.repeat ≡ 1440 % l.repeat

abbrev pub decreases-loop-left : goal.decreases-loop-left
decreases-loop-left l = l.left
