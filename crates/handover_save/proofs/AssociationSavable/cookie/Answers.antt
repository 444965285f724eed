-- `cookie` of an association by value meets its contract.
-- Assumes nothing.
use mathlib.Core.Path.{ap, ◌∙◌}
use native.Mathlib.Omega.{arith}
use Rattle.cookiestash.proofs.Stored.{stored_bounds}
use Rattle.cookiestash.specs.Stash.{stored}
use Rattle.handover_save.proofs.Writing.{none_seen, slot_seen}
use Rattle.handover_save.proofs.AssociationSavable.cookie.Goals as goal

pub returns-in_default : goal.returns-in_default
returns-in_default c = none_seen _ c.args.place c.in_default.ensures.lookup.3

pub shared_ref_as_front-result : goal.shared_ref_as_front-result
shared_ref_as_front-result c = let b = stored_bounds c.from.result in omega (arith, c.stored_bytes-n.ensures)

pub returns : goal.returns
returns c =
    slot_seen _ c.args.place _ c.stored_bytes-n.result (c.in-Some.ensures.lookup.3.1 _) (c.stored_bytes-n.ensures ∙ ap stored c.from.ensures)
