-- `version_number` meets its contract: kind and tries are the two bytes.
-- Assumes nothing.
use Rattle.handover_groups.specs.State.{version_bytes}
use Rattle.handover_compare.specs.Readings.{version_number}
use Rattle.handover_compare.proofs.fields.version_number.Goals as goal

pub returns : goal.returns
unfolding version_number version_bytes
returns c = rw (c.from.ensures, c.from-2.ensures, c.version_bytes.ensures)
