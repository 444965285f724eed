-- `words::zeros_from` meets its contract. The invariant: what is gathered and what lies ahead decide as all of it does.
-- Assumes nothing.
use mathlib.Core.Path.{refl, sym, ap, ◌∙◌}
use Rattle.words.specs.Bytes.{zeros}
use Rattle.words.proofs.Bytes.{rest_from}
use Rattle.words.proofs.Zeros.{gathered, gathered_all}
use Rattle.words.proofs.zeros_from.Goals as goal

pub loop-x-init : goal.loop-x-init
loop-x-init c = record { there = rest_from c.args.b.now c.args.from c.min.result c.min.ensures; tested = refl }

pub loop-x-preserved : goal.loop-x-preserved
loop-x-preserved c =
    let o = c.loop-x in
    record { there = o.invariant.there; tested = o.invariant.tested ∙ gathered _ _ _ c.loop-x-test.true }

pub returns : goal.returns
returns c =
    let o = c.loop-x in
    sym (ap zeros (sym o.invariant.there) ∙ o.invariant.tested ∙ gathered_all _ _ _ c.loop-x-test.false)
