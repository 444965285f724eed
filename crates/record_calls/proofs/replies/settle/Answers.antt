use mathlib.Core.Path.{ap, ◌∙◌}
use mathlib.Core.List.{List}
use Prim.Native.Nat.{ℕ}
use Rattle.record_stash.specs.Slots.{refilled_in}
use Rattle.record_calls.specs.Reply.{answered, settled_in}
use Rattle.record_calls.proofs.replies.settle.Goals as goal

pub returns : goal.returns
unfolding settled_in
returns c =
    let args = c.args in
    let store-state = c.store_state in
    let v = args.verdict in
    let mid = ap (λ (b : List ℕ). refilled_in args.capacity v.stores args.list.now b) store-state.ensures.0 in
    (ap (answered v.answer) (c.refill-dropped.ensures ∙ mid), store-state.ensures.1)
