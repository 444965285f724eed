-- `state_bytes` meets its contract: what each call ensures, laid byte by byte.
-- Assumes nothing.
use mathlib.Core.Path.{◌∙◌}
use mathlib.Core.List.{append-nil}
use borrow.Author.Rules.{rules}
use Rattle.handover_groups.specs.State.{version_bytes, polls_bytes, source_bytes}
use Rattle.record_bytes.specs.State.{tries_bytes, state_bytes}
use Rattle.record_bytes.proofs.state_bytes.Goals as goal

pub slice_bounds-bytes-end-3 : goal.slice_bounds-bytes-end-3
unfolding version_bytes polls_bytes
slice_bounds-bytes-end-3 c =
    simp (
      c.copy_from_slice.ensures.after ∙ c.version_bytes.ensures,
      c.copy_from_slice-2.ensures.after ∙ c.polls_bytes.ensures,
    ) (search rules)

pub slice_bounds-bytes-end-4 : goal.slice_bounds-bytes-end-4
unfolding version_bytes polls_bytes source_bytes
slice_bounds-bytes-end-4 c =
    simp (
      c.copy_from_slice.ensures.after ∙ c.version_bytes.ensures,
      c.copy_from_slice-2.ensures.after ∙ c.polls_bytes.ensures,
      c.copy_from_slice-3.ensures.after ∙ c.source_bytes.ensures,
    ) (search rules)

pub returns : goal.returns
unfolding state_bytes tries_bytes version_bytes polls_bytes source_bytes
returns c =
    simp (
      c.copy_from_slice.ensures.after ∙ c.version_bytes.ensures,
      c.copy_from_slice-2.ensures.after ∙ c.polls_bytes.ensures,
      c.copy_from_slice-3.ensures.after ∙ c.source_bytes.ensures,
      c.copy_from_slice-4.ensures.after ∙ c.pending_bytes.ensures,
      append-nil,
    )
