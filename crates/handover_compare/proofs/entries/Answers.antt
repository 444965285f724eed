-- `entries` meets its contract: the sum over the groups.
-- Assumes nothing.
use native.Mathlib.Omega.{arith}
use Rattle.handover_compare.proofs.Listing.{sum_groups}
use Rattle.handover_compare.proofs.entries.Goals as goal

pub returns : goal.returns
returns c = (
  sum_groups c.args.g _ _ _ _ _
      c.count.ensures.0
      c.entries_of.ensures.0
      c.entries_of-2.ensures.0
      c.count-2.ensures.0
      c.count-3.ensures.0,
  omega (
    arith,
    c.count.ensures.1,
    c.entries_of.ensures.1,
    c.entries_of-2.ensures.1,
    c.count-2.ensures.1,
    c.count-3.ensures.1,
  ),
)
