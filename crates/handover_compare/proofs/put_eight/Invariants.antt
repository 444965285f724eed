-- `put_eight` meets its contract. The invariant: the entries that are ahead are owed.
-- Assumes nothing.
use Rattle.handover_compare.specs.Fields.{differing, list_bytes}
use Rattle.handover_compare.proofs.Listing.{Owed, ahead}
use Rattle.handover_compare.proofs.put_eight.Given as goal

abbrev pub invariant-loop-field : goal.invariant-loop-field
invariant-loop-field l = Owed l.initial.out l.at (list_bytes (differing l.field-items)) l.out l.to (ahead l.field-items l.field-index)
