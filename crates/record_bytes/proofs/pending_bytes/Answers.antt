-- `pending_bytes` meets its contract: what each call ensures, laid byte by byte.
-- Assumes nothing.
use mathlib.Core.Path.{◌∙◌}
use mathlib.Core.List.{append-nil}
use Rattle.handover_groups.proofs.OfCodes.{yes_byte}
use Rattle.record_bytes.specs.State.{pending_bytes}
use Rattle.record_bytes.proofs.pending_bytes.Goals as goal

pub returns : goal.returns
unfolding pending_bytes
returns c =
    simp (
      c.from.ensures ∙ yes_byte c.args.request.present,
      c.from-2.ensures ∙ yes_byte c.args.request.answered,
      c.copy_from_slice.ensures.after ∙ c.be64_bytes.ensures,
      c.copy_from_slice-2.ensures.after ∙ c.be64_bytes-2.ensures,
      c.copy_from_slice-3.ensures.after,
      append-nil,
    )
