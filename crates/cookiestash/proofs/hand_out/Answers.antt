-- `hand_out` meets its contract. Assumes nothing.
use Rattle.std.proofs.Common.{◌≡◌, length, take, min, ap, ◌∙◌, arith, length-take, rules}
use Rattle.cookiestash.specs.Stash.{stored}
use Rattle.cookiestash.specs.Handed.{handed_of}
use Rattle.cookiestash.proofs.Stored.{stored_bounds}
use Rattle.cookiestash.proofs.hand_out.Goals as goal

pub shared_ref_as_front-lay_first : goal.shared_ref_as_front-lay_first
shared_ref_as_front-lay_first c = omega (arith, rw c.from.ensures at c.stored_bytes.ensures, stored_bounds c.args.len)

pub lay_first-requires : goal.lay_first-requires
lay_first-requires c = simp length-take (omega arith)

pub returns : goal.returns
unfolding handed_of
returns c =
    let a = c.args in
    let long : length a.bytes.now ≡ 724 = search rules in
    let n : c.min-n.result ≡ min (stored a.len) (length a.buffer.now)
    = c.min-n.ensures ∙ ap (λ k. min k (length a.buffer.now)) (rw c.from.ensures at c.stored_bytes.ensures) in
    let l : length (take c.min-n.result a.bytes.now) ≡ c.min-n.result = simp length-take (omega (arith, stored_bounds a.len)) in
    c.lay_first.ensures ∙ rw (l, n)
