-- `zero_rows` meets its contract. Assumes nothing.
use mathlib.Core.Path.{sym, ◌∙◌}
use Rattle.record_stash.proofs.Blank.{zeros_on}
use Rattle.record_stash.proofs.zero_rows.Goals as goal

pub returns-then-not-zeros_from : goal.returns-then-not-zeros_from
returns-then-not-zeros_from c =
    let s = c.in-Some.ensures.cases in
    let e = sym c.zeros_from.ensures ∙ c.if-not-zeros_from.true in
    sym (sym c.loop-pair.invariant ∙ zeros_on 1452 _ _ _ s.0 s.1 ∙ rw e)

pub loop-pair-preserved : goal.loop-pair-preserved
loop-pair-preserved c =
    let s = c.in-Some.ensures.cases in
    let e = sym c.zeros_from.ensures ∙ c.if-not-zeros_from.false in
    sym (zeros_on 1452 _ _ _ s.0 s.1 ∙ rw e) ∙ c.loop-pair.invariant
