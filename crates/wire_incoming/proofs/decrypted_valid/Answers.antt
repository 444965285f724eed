-- `decrypted_valid` meets its contract: the test of NTS, and how the walk over the decrypted fields ends.
-- Assumes nothing.
use Rattle.std.proofs.Common.{sym, ap, ◌∙◌}
use Rattle.std.specs.Prelude.{is_some}
use Rattle.wire_fields.specs.Walk.{decrypted_walk}
use Rattle.wire_fields.proofs.Left.{whole_ends}
use Rattle.wire_incoming.proofs.decrypted_valid.Goals as goal

pub returns-else-not-nts : goal.returns-else-not-nts
returns-else-not-nts c =
    let ends = sym (whole_ends (decrypted_walk c.args.decrypted.now)) in
    rw c.if-not-nts.false (c.is_some.ensures ∙ ap is_some c.decrypted_walk.ensures ∙ ends)
