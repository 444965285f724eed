use native.Mathlib.Omega.{arith}
use mathlib.Core.Path.{sym, ◌∙◌}
use Rattle.record_stash.proofs.With.{taken_is}
use Rattle.record_stash.proofs.take.Goals as goal

pub returns : goal.returns
returns c =
    let args = c.args in
    let if1 = c.if-not-takes in
    let sized = c.sized in
    let if2 = c.if-not-sized in
    let take-oldest = c.take_oldest in
    taken_is args.capacity args.b.now args.takes args.buffer.now if1.false (sym sized.ensures ∙ if2.false) _ _
    (λ i. omega (arith, c.type_inv.b i)) take-oldest.ensures
