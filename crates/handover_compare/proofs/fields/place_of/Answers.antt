-- `place_of` meets its contract. The invariant: the place of what lies ahead, counted from here.
-- Assumes nothing.
use native.Mathlib.Omega.{arith}
use Rattle.handover_compare.proofs.Places.{right_ends, place_here}
use Rattle.handover_compare.proofs.fields.place_of.Goals as goal
use Rattle.handover_compare.proofs.fields.place_of.Goals.{then-r-i-via-then-r-i, then-r-i-via-else-r-i+then-r-i-2}

pub returns-then-r-i : goal.returns-then-r-i
returns-then-r-i c =
    let i = c.loop-i.i in
    let a = c.args in
    elim c.then-r-i.branch [
      | then-r-i-via-then-r-i w ↦ omega (arith, c.loop-i.invariant, right_ends a.l.now a.r.now i w.if-r-i.true)
      | then-r-i-via-else-r-i+then-r-i-2 w ↦
          omega (arith, c.loop-i.invariant, place_here a.l.now a.r.now i (omega arith) w.if-r-i.false (λ e. omega arith))
    ]
