-- `see` meets its contract.
-- Assumes nothing.
use mathlib.Core.Path.{◌∙◌}
use borrow.Author.Rules.{rules}
use Rattle.record_stash.proofs.Stores.{typed}
use Rattle.record_stash.proofs.With.{of_sized, seen_is}
use Rattle.record_files.proofs.saves.see.Goals as goal

pub returns-clause-tells : goal.returns-clause-tells
returns-clause-tells c =
    let b = c.args.b.now in c.see.ensures ∙ seen_is c.args.capacity b (of_sized b c.args.capacity c.requires)

pub returns-clause-typed : goal.returns-clause-typed
returns-clause-typed c = typed _ _ c.requires (search rules)
