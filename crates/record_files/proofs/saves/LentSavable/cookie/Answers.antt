-- `cookie` of lent bytes meets its contract: the row of a place holds what the slot there holds.
-- Assumes nothing.
use mathlib.Core.Path.{ap, ◌∙◌}
use native.Mathlib.Omega.{arith}
use Rattle.cookiestash.specs.Stash.{stored}
use Rattle.cookiestash.proofs.Stored.{stored_bounds}
use Rattle.record_stash.proofs.With.{sized_of}
use Rattle.record_files.proofs.Emptied.{row_seen, none_seen_in}
use Rattle.record_files.proofs.saves.LentSavable.cookie.Goals as goal

pub returns-then-place-from : goal.returns-then-place-from
returns-then-place-from c =
    none_seen_in _ _ (sized_of _ _ c.args.self.now.sized) c.args.place (omega (arith, c.from.ensures))

pub overflow_add-result : goal.overflow_add-result
overflow_add-result c =
    let s = sized_of _ _ c.args.self.now.sized in
    let b = stored_bounds c.from-2.result in
    omega (arith, s.most, b, c.from.ensures, c.stored_bytes-n.ensures)

pub slice_bounds-result-end-2 : goal.slice_bounds-result-end-2
slice_bounds-result-end-2 c =
    let s = sized_of _ _ c.args.self.now.sized in
    let b = stored_bounds c.from-2.result in
    omega (arith, s.most, s.long, b, c.from.ensures, c.stored_bytes-n.ensures)

pub returns : goal.returns
returns c =
    row_seen _ _ (sized_of _ _ c.args.self.now.sized) c.args.place (omega (arith, c.from.ensures)) _ _ c.be16_at-len.ensures
    (c.stored_bytes-n.ensures ∙ ap stored c.from-2.ensures)
