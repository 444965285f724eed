-- `seen` of lent bytes meets its contract.
-- Assumes nothing.
use Rattle.record_stash.proofs.With.{sized_of}
use Rattle.record_files.proofs.saves.LentSavable.seen.Goals as goal

pub see-requires : goal.see-requires
see-requires c = sized_of _ _ c.args.self.now.sized
