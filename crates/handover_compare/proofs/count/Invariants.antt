-- `count` meets its contract. The invariant: what is counted, and what is ahead, are all that differ.
-- Assumes nothing.
use Rattle.handover_compare.proofs.Listing.{Counting}
use Rattle.handover_compare.proofs.count.Given as goal

abbrev pub invariant-loop-field : goal.invariant-loop-field
invariant-loop-field l = Counting l.field-items l.n l.field-index
