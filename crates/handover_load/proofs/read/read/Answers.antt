-- `read` meets its contract: the fault of a file, or what its bodies come to.
-- Assumes nothing.
use mathlib.Core.Path.{◌≡◌, sym, ◌∙◌}
use mathlib.Core.Bool.{◌&&◌}
use mathlib.Core.List.{[], ◌∷◌}
use native.Mathlib.Omega.{arith}
use Rattle.std.proofs.lemmas.Result.{err_from_is_err_and}
use Rattle.association.specs.Record.{whole_of}
use Rattle.handover_file.specs.File.{known, record_in, settled}
use Rattle.handover_load.proofs.Decides.{settings_is, state_is, retired_is, whole_is}
use Rattle.handover_load.proofs.Within.{stash_part, stash_bytes, reads_fault, reads_none, reads_some}
use Rattle.handover_load.proofs.read.read.Goals as goal
use Rattle.handover_load.proofs.read.read.Goals.{After-is_whole}

-- what the test of the bodies comes to
tested : (k : After-is_whole) → let b = k.in_ok-b.b in
    let bs = b.settings.now ∷ b.stash.now ∷ b.effort.now ∷ b.version.now ∷ b.polls.now ∷ b.source.now ∷ [] in
    k.is_whole.result ≡ (known bs && whole_of (settled (record_in bs)))
tested k =
    let b = k.in_ok-b.b in
    k.is_whole.ensures
    ∙ whole_is b.settings.now b.stash.now b.effort.now b.version.now b.polls.now b.source.now
    (stash_bytes k.args.file.now _ _ _ (λ i. omega (arith, k.type_inv.file i)) k.in_ok-b.ensures) b.fits _ _ _ _
    k.settings_of-given.ensures k.state_in-read.ensures k.settled_settings-settings.ensures k.settled_state-state.ensures

pub returns-in_err-b : goal.returns-in_err-b
returns-in_err-b c =
    let p = err_from_is_err_and c.from_residual.result c.from_residual.ensures.1 in
    rw (p.1, p.2) (reads_fault c.args.file.now _ c.in_err-b.ensures)

pub returns-then-not-is_whole : goal.returns-then-not-is_whole
returns-then-not-is_whole c =
    reads_none c.args.file.now _ c.in_ok-b.ensures (sym (tested (goal.at.returns-then-not-is_whole c).After-is_whole) ∙ c.if-not-is_whole.true)

pub returns : goal.returns
returns c =
    let b = c.in_ok-b.b in
    let y = stash_bytes c.args.file.now _ _ _ (λ i. omega (arith, c.type_inv.file i)) c.in_ok-b.ensures in
    let e₁ = c.settings_of-given.ensures in
    let e₂ = c.state_in-read.ensures in
    let e₄ = c.settled_settings-settings.ensures in
    let e₅ = c.settled_state-state.ensures in
    reads_some c.args.file.now _ c.in_ok-b.ensures (sym (tested (goal.at.returns c).After-is_whole) ∙ c.if-not-is_whole.false)
    (retired_is b.settings.now b.stash.now b.effort.now b.version.now b.polls.now b.source.now y b.fits _ _ _ _ e₁ e₂ e₄ e₅ c.is_retired.ensures)
    (settings_is b.settings.now b.stash.now b.effort.now b.version.now b.polls.now b.source.now y b.fits _ _ _ _ e₁ e₂ e₄ e₅)
    (state_is b.settings.now b.stash.now b.effort.now b.version.now b.polls.now b.source.now y b.fits _ _ _ _ e₁ e₂ e₄ e₅)
    (stash_part c.args.file.now _ _ _ c.in_ok-b.ensures)
