-- `put_placeholders` meets its contract: one placeholder more is put behind those that are in their place.
-- Assumes nothing.
use Rattle.std.proofs.Common.{◌≡◌, sym, ap, ◌∙◌, [], ℕ, ◌+◌, ◌-◌, ◌*◌, length, take, drop, length-take, length-drop, arith}
use borrow.Rule.Slice.PartMut.{put_mid}
use Rattle.words.proofs.Put.{laid_none, put_is}
use Rattle.wire_request.specs.Extension.{extension, extension_bytes}
use Rattle.wire_request.specs.Request.{placeholder_kind, placeholder}
use Rattle.wire_request.proofs.Placing.{turn_room, length_extension, length_placeholders, laid_full, placeholders_placed}
use Rattle.wire_request.proofs.put_placeholders.Goals as goal

pub loop-i-init : goal.loop-i-init
loop-i-init c = sym (laid_none c.args.fields.now 0)

pub loop-i-preserved : goal.loop-i-preserved
loop-i-preserved c =
    let a = c.args in
    let l = c.loop-i in
    let at = l.i * a.len in
    let room = turn_room l.i a.n a.len c.loop-i-test.true in
    let x = extension_bytes (placeholder a.len) in
    let long = length_extension placeholder_kind a.len [] c.requires.1 in
    let size : length (take (at + a.len - at) (drop at l.fields)) ≡ a.len =
    omega (arith, length-take {A = ℕ}, length-drop {A = ℕ}, room, l.auto.fields, c.requires.0) in
    let ys = c.put_field.ensures ∙ ap (λ (k : ℕ). extension_bytes (extension placeholder_kind k [])) size in
    let n : at + a.len - at ≡ at + length x - at = omega (arith, long) in
    placeholders_placed a.len c.requires.1 a.fields.now l.i (omega (arith, room, c.requires.0)) l.fields _ l.invariant
    (ap (λ (k : ℕ). put_mid at k l.fields c.put_field.new.field) n ∙ put_is l.fields x c.put_field.new.field at ys)

pub returns : goal.returns
returns c =
    let a = c.args in
    let e : c.loop-i.i ≡ a.n = omega arith in
    rw e at c.loop-i.invariant ∙ laid_full a.fields.now _ (length_placeholders a.len c.requires.1 a.n ∙ sym c.requires.0)
