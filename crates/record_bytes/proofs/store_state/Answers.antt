use mathlib.Core.Path.{◌∙◌}
use native.Mathlib.Omega.{arith}
use Rattle.record_bytes.proofs.Fit.{state_fit}
use Rattle.record_bytes.proofs.Writes.{state_short, state_by}
use Rattle.record_bytes.proofs.store_state.Goals as goal

pub returns-then-b-lt-HEAD : goal.returns-then-b-lt-HEAD
returns-then-b-lt-HEAD c =
    let args = c.args in
    (state_short args.b.now args.s (omega (arith, c.if-b-lt-HEAD.true)), state_fit args.s _ c.well_formed.1.0)

pub returns : goal.returns
returns c =
    let args = c.args in
    let e = c.copy_from_slice.ensures.after ∙ c.state_bytes.ensures in
    (state_by args.b.now (omega (arith, c.if-b-lt-HEAD.false)) args.s _ e, state_fit args.s _ c.well_formed.1.0)
