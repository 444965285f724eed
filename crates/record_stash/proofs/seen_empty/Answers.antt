-- `seen_empty` meets its contract.
-- Assumes nothing.
use Rattle.record_stash.proofs.Blank.{seen_none}
use Rattle.record_stash.proofs.seen_empty.Goals as goal

pub returns : goal.returns
returns c =
    let args = c.args in
    seen_none args.capacity args.read 8 _ (rw c.from.ensures at c.in_range.ensures)
