use native.Mathlib.Omega.{arith}
use mathlib.Core.Path.{sym, ◌∙◌}
use Rattle.record_stash.proofs.With.{refilled_is}
use Rattle.record_stash.proofs.refill.Goals as goal

pub returns : goal.returns
returns c =
    let args = c.args in
    let if1 = c.if-not-stores in
    let sized = c.sized in
    let if2 = c.if-not-sized in
    refilled_is args.capacity args.b.now args.stores args.list.now if1.false (sym sized.ensures ∙ if2.false) _ _
    (λ i. omega (arith, c.type_inv.b i)) c.store_list.ensures
