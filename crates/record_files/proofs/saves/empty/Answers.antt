use Rattle.record_files.proofs.Emptied.{emptied}
use Rattle.record_files.proofs.saves.empty.Goals as goal

pub returns : goal.returns
returns c =
    emptied c.args.capacity c.args.b.now c.requires _ c.clear.ensures
