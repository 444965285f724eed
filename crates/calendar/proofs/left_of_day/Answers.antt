-- `left_of_day` meets its contract. The invariant: what is left has the remainder of the whole.
-- Assumes nothing.
use mathlib.Core.Path.{sym, ◌∙◌}
use native.Mathlib.Nat.{mod-eq-sub-mod}
use Rattle.calendar.proofs.left_of_day.Goals as goal

pub loop-left-preserved : goal.loop-left-preserved
loop-left-preserved c = sym (mod-eq-sub-mod c.loop-left-test.true) ∙ c.loop-left.invariant
