-- `add_all` meets its contract. The invariant: the loads are those of the entries passed.
-- Assumes nothing.
use native.Mathlib.Omega.{arith}
use Rattle.calendar.proofs.Loaded.{of_none, small, of_more}
use Rattle.calendar.proofs.add_all.Goals as goal

pub loop-k-init : goal.loop-k-init
loop-k-init c = of_none _ _ _ (omega arith) c.requires.1

pub add-requires : goal.add-requires
add-requires c =
    let p = c.requires in
    let l = c.loop-k in
    let starts = c.number_at.ensures in
    let repeats = c.number_at-in-loop-k.ensures in
    (omega (arith, p.2 l.k c.loop-k-test.true), omega (arith, p.3 l.k c.loop-k-test.true), small _ _ _ _ l.invariant (omega arith))

pub loop-k-preserved : goal.loop-k-preserved
loop-k-preserved c = of_more _ _ _ _ c.loop-k.invariant _ _ c.number_at.ensures c.number_at-in-loop-k.ensures _ (omega arith) c.add.ensures
