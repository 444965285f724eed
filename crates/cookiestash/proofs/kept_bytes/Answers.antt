-- `kept_bytes` meets its contract. Assumes nothing.
use Rattle.std.proofs.Common.{ℕ, ◌≡◌, length, take, ◌∙◌, arith, length-take}
use Rattle.std.proofs.lemmas.List.{drop-replicate}
use Rattle.cookiestash.specs.Stash.{stored, slot_of}
use Rattle.cookiestash.proofs.Stored.{stored_bounds}
use Rattle.cookiestash.proofs.kept_bytes.Goals as goal

pub slice_bounds-stored-end : goal.slice_bounds-stored-end
slice_bounds-stored-end c = simp length-take (omega (arith, stored_bounds (length c.args.cookie.now)))

pub lay_first-requires : goal.lay_first-requires
lay_first-requires c = simp length-take (omega (arith, stored_bounds (length c.args.cookie.now)))

pub returns : goal.returns
unfolding slot_of
returns c =
    let n = stored_bounds (length c.args.cookie.now) in
    let l : length (take c.stored_bytes.result c.args.cookie.now) ≡ stored (length c.args.cookie.now) = simp length-take (omega arith) in
    c.lay_first.ensures ∙ rw (l, drop-replicate {X = ℕ} (stored (length c.args.cookie.now)) 724 0, c.stored_bytes.ensures)
