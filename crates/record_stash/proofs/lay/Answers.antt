use native.Mathlib.Omega.{arith}
use mathlib.Core.Path.{sym, ◌∙◌}
use Rattle.cookiestash.proofs.Stored.{stored_bounds}
use Rattle.record_stash.proofs.With.{laid_is}
use Rattle.record_stash.proofs.lay.Goals as goal

pub invariant_of-put : goal.invariant_of-put
invariant_of-put c = omega (arith, stored_bounds c.args.len, rw c.from-else-not-in_range.ensures at c.stored_bytes.ensures, c.if-kept-stored_bytes.false)

pub returns : goal.returns
returns c =
    let args = c.args in
    let sized = c.sized in
    let if1 = c.if-not-sized in
    let in_range_lem = c.in_range in
    let if2 = c.if-not-in_range in
    let stored_bytes = c.stored_bytes in
    let if3 = c.if-kept-stored_bytes in
    laid_is args.capacity args.b.now args.len args.kept.now (sym sized.ensures ∙ if1.false)
    (rw (c.from-cap.ensures, c.from.ensures, c.from-2.ensures) at (sym in_range_lem.ensures ∙ if2.false)) _
    (rw c.from-else-not-in_range.ensures at stored_bytes.ensures) if3.false _ (λ i. omega (arith, c.type_inv.b i))
    (rw c.from-cap.ensures at c.put.ensures)
