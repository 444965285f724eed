use mathlib.Core.Path.{refl, ap}
use mathlib.Core.List.{List, ◌++◌}
use Prim.Native.Nat.{ℕ}
use lib.ListN.{length, drop}
use Rattle.record_stash.proofs.Change.{row_kept}
use Rattle.record_stash.proofs.fill_row.Goals as goal

pub returns : goal.returns
returns c =
    let row = c.args.row.now in
    let kept = c.args.kept.bytes.now in
    row_kept row kept c.args.kept.len c.requires c.args.kept.fits (length kept) refl _
    (ap (λ (q : List ℕ). q ++ drop (length kept) row) c.copy_from_slice.ensures.after) _ c.clear.ensures _ c.be16_bytes-word.ensures _
    c.copy_from_slice-2.ensures.after
