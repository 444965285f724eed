-- `put_eight` meets its contract. The invariant: the entries that are ahead are owed.
-- Assumes nothing.
use mathlib.Core.Path.{◌≡◌}
use native.Mathlib.Omega.{arith}
use borrow.Author.Rules.{rules}
use lib.ListN.{length}
use Rattle.handover_compare.proofs.Listing.{owed_next, owed_none, ahead_next, ahead_none}
use Rattle.handover_compare.proofs.put_eight.Goals as goal
use Rattle.handover_compare.proofs.put_eight.Goals.{Start}

eight : (s : Start) → length s.args.fields ≡ 8
eight s = search rules

pub loop-field-preserved : goal.loop-field-preserved
loop-field-preserved c =
    let l = c.loop-field in
    let n = eight (goal.at.loop-field-preserved c).Start in
    owed_next _ _ _ c.requires _ _ _ l.invariant _ _ (ahead_next c.args.fields l.field-index _ (omega arith)) _ _ c.put_field-to.ensures

pub returns : goal.returns
returns c =
    let l = c.loop-field in
    let n = eight (goal.at.returns c).Start in
    owed_none _ _ _ c.requires _ _ _ l.invariant (ahead_none c.args.fields l.field-index (omega arith))
