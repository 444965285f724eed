-- `held` of lent bytes meets its contract: they have a head.
-- Assumes nothing.
use mathlib.Core.Path.{sym, ◌∙◌}
use native.Mathlib.Omega.{arith}
use Rattle.record_stash.proofs.With.{sized_of}
use Rattle.record_stash.proofs.Change.{holds}
use Rattle.record_files.proofs.saves.LentSavable.held.Goals as goal

pub bounds-self-28 : goal.bounds-self-28
bounds-self-28 c =
    let s = sized_of _ _ c.args.self.now.sized in omega (arith, s.long)

pub returns : goal.returns
returns c = c.from.ensures ∙ sym (holds _ c.args.self.now.bytes.now)
