-- `freed` meets its contract. The loop's invariant: the lengths ahead decide. Assumes nothing.
use Rattle.std.proofs.Common.{◌+◌, ◌∙◌, arith}
use Rattle.cookiestash.proofs.Places.{wrap_lt}
use Rattle.cookiestash.proofs.Scan.{free_more, free_less, and_false}
use Rattle.cookiestash.proofs.freed.Goals as goal

pub bounds-lens-wrapped : goal.bounds-lens-wrapped
bounds-lens-wrapped c = let a = c.args in omega (arith, wrap_lt a.cap (a.read + c.loop-n.n) (omega arith))

pub offset_bounds-lens-wrapped : goal.offset_bounds-lens-wrapped
offset_bounds-lens-wrapped c = let a = c.args in omega (arith, wrap_lt a.cap (a.read + c.loop-n.n) (omega arith))

pub returns-then-lens-wrapped-ne0 : goal.returns-then-lens-wrapped-ne0
returns-then-lens-wrapped-ne0 c =
    let a = c.args in
    let e = rw c.wrapped.ensures at c.if-lens-wrapped-ne0.true in
    and_false _ _ (c.loop-n.invariant ∙ free_less a.cap a.lens a.read c.loop-n.n (omega arith) (omega arith) e)

pub loop-n-preserved : goal.loop-n-preserved
loop-n-preserved c =
    let a = c.args in
    let e = rw c.wrapped.ensures at c.if-lens-wrapped-ne0.false in
    c.loop-n.invariant ∙ free_more a.cap a.lens a.read c.loop-n.n (omega arith) (omega arith) e
