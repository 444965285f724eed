-- `entry` meets its contract: the bytes of the words lie as in the definition.
-- Assumes nothing.
use mathlib.Core.Path.{◌∙◌}
use Rattle.handover_compare.specs.Fields.{entry_bytes}
use Rattle.handover_compare.proofs.entry.Goals as goal

pub returns : goal.returns
unfolding entry_bytes
returns c =
    simp (
      c.copy_from_slice.ensures.after ∙ c.be64_bytes.ensures,
      c.copy_from_slice-2.ensures.after ∙ c.be64_bytes-2.ensures,
      c.copy_from_slice-3.ensures.after ∙ c.be16_bytes.ensures,
    )
