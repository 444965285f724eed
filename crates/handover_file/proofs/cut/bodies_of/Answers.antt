-- `handover_file::cut::bodies_of` meets its contract: the records that were taken, and then the fault or the end.
-- Assumes nothing.
use mathlib.Core.Path.{sym, ◌∙◌}
use mathlib.Core.List.{[]}
use native.Mathlib.Omega.{arith}
use borrow.Author.Tests.{eqb-true, eqb-false}
use Rattle.std.proofs.lemmas.Result.{err_from_is_err_and}
use Rattle.handover_file.specs.declared.cut.Fault.TheVariants.{Missized}
use Rattle.handover_file.proofs.Sections.{cut_over, cut_end}
use Rattle.handover_file.proofs.Bodies.{after_polls, after_version, after_effort, after_stash, after_settings, stops, goes}
use Rattle.handover_file.proofs.cut.bodies_of.Goals as goal

pub returns-in_err-settings : goal.returns-in_err-settings
returns-in_err-settings c =
    let p = err_from_is_err_and c.from_residual.result c.from_residual.ensures.1 in
    rw (p.1, p.2)
    (c.in_err-settings.ensures.cuts after_settings)

pub returns-in_err-stash : goal.returns-in_err-stash
returns-in_err-stash c =
    let p = err_from_is_err_and c.from_residual-in_err-stash.result c.from_residual-in_err-stash.ensures.1 in
    rw (p.1, p.2)
    (stops _ _ (c.in_ok-settings.ensures.cuts after_settings)
    (c.in_err-stash.ensures.cuts after_stash))

pub returns-in_err-effort : goal.returns-in_err-effort
returns-in_err-effort c =
    let p = err_from_is_err_and c.from_residual-in_err-effort.result c.from_residual-in_err-effort.ensures.1 in
    rw (p.1, p.2)
    (stops _ _ (c.in_ok-settings.ensures.cuts after_settings)
    (stops _ _ (c.in_ok-stash.ensures.cuts after_stash)
    (c.in_err-effort.ensures.cuts after_effort)))

pub returns-in_err-version : goal.returns-in_err-version
returns-in_err-version c =
    let p = err_from_is_err_and c.from_residual-in_err-version.result c.from_residual-in_err-version.ensures.1 in
    rw (p.1, p.2)
    (stops _ _ (c.in_ok-settings.ensures.cuts after_settings)
    (stops _ _ (c.in_ok-stash.ensures.cuts after_stash)
    (stops _ _ (c.in_ok-effort.ensures.cuts after_effort)
    (c.in_err-version.ensures.cuts after_version))))

pub returns-in_err-polls : goal.returns-in_err-polls
returns-in_err-polls c =
    let p = err_from_is_err_and c.from_residual-in_err-polls.result c.from_residual-in_err-polls.ensures.1 in
    rw (p.1, p.2)
    (stops _ _ (c.in_ok-settings.ensures.cuts after_settings)
    (stops _ _ (c.in_ok-stash.ensures.cuts after_stash)
    (stops _ _ (c.in_ok-effort.ensures.cuts after_effort)
    (stops _ _ (c.in_ok-version.ensures.cuts after_version)
    (c.in_err-polls.ensures.cuts after_polls)))))

pub returns-in_err-source : goal.returns-in_err-source
returns-in_err-source c =
    let p = err_from_is_err_and c.from_residual-in_err-source.result c.from_residual-in_err-source.ensures.1 in
    rw (p.1, p.2)
    (stops _ _ (c.in_ok-settings.ensures.cuts after_settings)
    (stops _ _ (c.in_ok-stash.ensures.cuts after_stash)
    (stops _ _ (c.in_ok-effort.ensures.cuts after_effort)
    (stops _ _ (c.in_ok-version.ensures.cuts after_version)
    (stops _ _ (c.in_ok-polls.ensures.cuts after_polls)
    (c.in_err-source.ensures.cuts []))))))

pub returns-then-not-is_empty : goal.returns-then-not-is_empty
returns-then-not-is_empty c =
    stops _ Missized (c.in_ok-settings.ensures.cuts after_settings)
    (stops _ Missized (c.in_ok-stash.ensures.cuts after_stash)
    (stops _ Missized (c.in_ok-effort.ensures.cuts after_effort)
    (stops _ Missized (c.in_ok-version.ensures.cuts after_version)
    (stops _ Missized (c.in_ok-polls.ensures.cuts after_polls)
    (stops _ Missized (c.in_ok-source.ensures.cuts [])
    (cut_over _ (omega (arith, eqb-false _ 0 (sym c.is_empty.ensures ∙ c.if-not-is_empty.true)))))))))

pub returns : goal.returns
returns c =
    goes _ _ (c.in_ok-settings.ensures.cuts after_settings)
    (goes _ _ (c.in_ok-stash.ensures.cuts after_stash)
    (goes _ _ (c.in_ok-effort.ensures.cuts after_effort)
    (goes _ _ (c.in_ok-version.ensures.cuts after_version)
    (goes _ _ (c.in_ok-polls.ensures.cuts after_polls)
    (goes _ _ (c.in_ok-source.ensures.cuts [])
    (cut_end _ (eqb-true _ 0 (sym c.is_empty.ensures ∙ c.if-not-is_empty.false))))))))
