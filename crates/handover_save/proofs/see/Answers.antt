-- `see` meets its contract: the types allow any stash that is a value.
-- Assumes nothing.
use Rattle.cookiestash.proofs.Typed.{typed_is}
use Rattle.handover_save.proofs.see.Goals as goal

pub returns-clause-typed : goal.returns-clause-typed
returns-clause-typed c = typed_is c.args.stash _ c.well_formed.0
