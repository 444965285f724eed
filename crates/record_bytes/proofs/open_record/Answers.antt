-- `open_record` meets its contract: bytes that have no head are no record, and what the head holds is what the bytes hold.
-- Assumes nothing.
use mathlib.Core.Path.{◌≡◌, ap, ◌∙◌}
use mathlib.Core.Bool.{◌&&◌}
use native.Mathlib.Omega.{arith}
use Rattle.std.proofs.lemmas.Bool.Decides.{nat_tests}
use Rattle.words.specs.Bytes.{part}
use Rattle.handover_groups.specs.Settings.{settings_known}
use Rattle.record_bytes.specs.State.{state_known}
use Rattle.record_bytes.specs.Record.{opened}
use Rattle.record_bytes.proofs.Packed.{short_not_ok}
use Rattle.record_bytes.proofs.Head.{head_opened}
use Rattle.record_bytes.proofs.Writes.{not_opened, opened_by}
use Rattle.record_bytes.proofs.open_record.Goals as goal

pub returns-in_err-head : goal.returns-in_err-head
returns-in_err-head c =
    let b = c.args.b.now in
    c.from_residual.ensures ∙ not_opened b (short_not_ok b c.in_err-head.ensures.cases)

pub returns : goal.returns
unfolding part
returns c =
    let b = c.args.b.now in
    let head = c.in_ok-head.head.now in
    let chunk = c.in_ok-head.ensures.cases in
    let known : c.if-settings_known.known ≡ (c.sized.result && (settings_known (part head 0 27) && state_known (part head 29 63)))
    = grind (arith, nat_tests) in
    let found : c.read_head-found.result ≡ opened b = c.read_head-found.ensures ∙ ap opened chunk.same ∙ head_opened b in
    c.then_some.ensures ∙ opened_by b head chunk.same found c.sized.ensures known
