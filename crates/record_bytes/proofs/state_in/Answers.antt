-- `state_in` meets its contract: each part is read where it stands in the head.
-- Assumes nothing.
use Rattle.words.specs.Bytes.{part}
use Rattle.record_bytes.proofs.Head.{state_parts}
use Rattle.record_bytes.proofs.state_in.Goals as goal

pub returns : goal.returns
unfolding part
returns c =
    rw (
      state_parts c.args.head.now,
      c.version_of.ensures,
      c.polls_of.ensures,
      c.source_of.ensures,
      c.be64_at.ensures,
      c.be64_at-2.ensures,
      c.copy_from_slice.ensures.after,
    )
