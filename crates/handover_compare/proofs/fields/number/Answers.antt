-- `number` meets its contract: beside a number no byte is compared.
-- Assumes nothing.
use mathlib.Core.Bool.{and-true}
use Rattle.handover_compare.specs.Fields.{field_of, same_reading}
use Rattle.handover_compare.proofs.fields.number.Goals as goal

pub returns : goal.returns
unfolding field_of same_reading
returns c = simp and-true
