-- `lay_state` meets its contract: the test says whether the four records fit, and then they are put one behind the other.
-- Assumes nothing.
use Prim.Native.Nat.{◌+◌}
use mathlib.Core.Path.{sym, ◌∙◌}
use borrow.Author.Tests.{leb-true}
use lib.ListN.{length}
use Rattle.handover_save.proofs.Writing.{marked, state_put, state_lays, state_lays_not}
use Rattle.handover_save.proofs.lay_state.Goals as goal

pub returns-then-not-fits : goal.returns-then-not-fits
returns-then-not-fits c =
    let a = c.args in
    state_lays_not a.out.now a.at a.state (sym c.fits.ensures ∙ c.if-not-fits.true)

pub returns : goal.returns
returns c =
    let a = c.args in
    let room = leb-true (a.at + 28) (length a.out.now) (sym c.fits.ensures ∙ c.if-not-fits.false) in
    state_lays a.out.now a.at a.state room
    (state_put a.state c.effort_bytes-effort.ensures c.version_bytes-version.ensures c.polls_bytes-polls.ensures c.source_bytes-source.ensures
    (marked _ _ _ c.mark.ensures c.lay_record-to.ensures) (marked _ _ _ c.mark-2.ensures c.lay_record-to-2.ensures)
    (marked _ _ _ c.mark-3.ensures c.lay_record-to-3.ensures) (marked _ _ _ c.mark-4.ensures c.lay_record.ensures) room)
