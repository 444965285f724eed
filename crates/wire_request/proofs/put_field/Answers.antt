-- `put_field` meets its contract: type and length, body and zeros fill the slice.
-- Assumes nothing.
use Rattle.std.proofs.Common.{◌≡◌, refl, ap, ◌∙◌, List, ℕ, ◌+◌, ◌-◌, ◌++◌, length, length-take, length-drop, arith, rules}
use Rattle.std.specs.Prelude.{replicate}
use lib.ListN.{length-replicate}
use Rattle.words.specs.Bytes.{to_be}
use Rattle.wire_request.proofs.Placing.{pair_long, covered, field_is}
use Rattle.wire_request.proofs.put_field.Goals as goal

pub returns : goal.returns
returns c =
    let f = c.args.field.now in
    let body = c.args.body.now in
    let len = length f in
    let m = len - 4 - length body in
    let zs : List ℕ = replicate m 0 in
    let size : length zs ≡ m = length-replicate m 0 in
    let h = to_be 2 c.args.kind ++ to_be 2 len in
    let head = c.copy_from_slice.ensures.after ∙ c.be16_pair-head.ensures in
    let q = 4 + length body in
    let long = pair_long f h body _ _ 4 q _ refl refl (omega arith) head c.copy_from_slice-2.ensures.after refl in
    let zeros : c.fill.new.self ≡ zs =
    c.fill.ensures.after (λ y q. search rules) ∙ ap (λ (k : ℕ). replicate k 0) (omega (arith, length-take {A = ℕ}, length-drop {A = ℕ}, long)) in
    covered f h body _ _ 4 q _ refl refl (omega arith) head c.copy_from_slice-2.ensures.after refl zs _ _ (omega (arith, size)) zeros refl
    ∙ field_is h body zs c.args.kind len refl refl
