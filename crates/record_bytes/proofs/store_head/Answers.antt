use mathlib.Core.Path.{◌∙◌}
use native.Mathlib.Omega.{arith}
use Rattle.handover_groups.proofs.Fit.{settings_fit}
use Rattle.record_bytes.proofs.Fit.{state_fit}
use Rattle.record_bytes.proofs.Writes.{head_short, head_by}
use Rattle.record_bytes.proofs.store_head.Goals as goal

pub returns-then-b-lt-HEAD : goal.returns-then-b-lt-HEAD
returns-then-b-lt-HEAD c =
    let good = c.well_formed in
    let args = c.args in (
      head_short args.b.now args.settings args.read args.state (omega (arith, c.if-b-lt-HEAD.true)),
      settings_fit args.settings _ good.1.0,
      state_fit args.state _ good.1.1.1.0,
    )

pub returns : goal.returns
returns c =
    let args = c.args in
    let store-state = c.store_state in
    let e = c.copy_from_slice.ensures.after ∙ c.settings_bytes.ensures in (
      head_by args.b.now (omega (arith, c.if-b-lt-HEAD.false)) args.settings args.read _ e args.state _ store-state.ensures.0,
      settings_fit args.settings _ c.well_formed.1.0,
      store-state.ensures.1,
    )
