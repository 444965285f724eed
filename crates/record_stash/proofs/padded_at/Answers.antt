use Prim.Native.Nat.{◌+◌, ◌-◌}
use native.Mathlib.Omega.{arith}
use mathlib.Core.Path.{◌∙◌}
use Rattle.record_stash.proofs.Rows.{padded_is, padded_none_is}
use Rattle.record_stash.proofs.padded_at.Goals as goal

pub returns-then-len-eq0 : goal.returns-then-len-eq0
returns-then-len-eq0 c =
    let args = c.args in
    let pre = c.requires in
    c.zeros_from.ensures ∙ padded_none_is args.b.now args.at _ (args.at + 724 - args.at) pre.1 c.if-len-eq0.true (omega arith)

pub returns : goal.returns
returns c =
    let args = c.args in
    let pre = c.requires in
    c.zeros_from-2.ensures ∙ rw (c.stored_bytes.ensures, c.from.ensures) (padded_is args.b.now args.at _ (args.at + 724 - args.at) pre.1 (omega arith))
