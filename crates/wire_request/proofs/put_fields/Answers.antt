-- `put_fields` meets its contract: the three parts fill the slice, one behind the other.
-- Assumes nothing.
use Rattle.std.proofs.Common.{◌≡◌, refl, ap, ◌∙◌, ℕ, ◌+◌, ◌-◌, ◌≤◌, ◌++◌, length, take, drop, length-take, length-drop, length-append, arith, rules}
use borrow.Rule.Slice.PartMut.{put_mid}
use Rattle.wire_groups.specs.Matching.{uid_kind}
use Rattle.wire_collector.specs.Collector.{cookie_kind}
use Rattle.wire_request.specs.Extension.{extension, extension_bytes}
use Rattle.wire_request.proofs.Placing.{pair_long}
use Rattle.wire_request.proofs.Sizes.{field_covers, field_least, field_most, first_and_rest, fields_placed}
use Rattle.wire_request.proofs.put_fields.Goals as goal
use Rattle.wire_request.proofs.put_fields.Goals.{Start, After-put_field, After-put_field-2}

-- the unique identifier's bytes, and the room for two fields
id_long : (s : Start) → length s.args.uid ≡ 32
id_long s = search rules

room : (s : Start) → 36 + s.args.len ≤ length s.args.fields.now
room s = omega (arith, first_and_rest s.args.asked s.args.len s.requires.3, s.requires.0)

-- what the first two fill
first : (c : After-put_field) → (length (take 36 c.args.fields.now) ≡ 36) × (length c.put_field.new.field ≡ 36)
first c =
    let r = room (goal.at.After-put_field c).Start in
    let size : length (take 36 c.args.fields.now) ≡ 36 = omega (arith, length-take {A = ℕ}, r) in
    (size, c.put_field.auto.field ∙ size)

pub slice_bounds-put_field-end-2 : goal.slice_bounds-put_field-end-2
slice_bounds-put_field-end-2 c = omega (arith, length-take {A = ℕ}, room (goal.at.slice_bounds-put_field-end-2 c).Start)

pub put_field-requires : goal.put_field-requires
put_field-requires c =
    let s = (goal.at.put_field-requires c).Start in
    let size : length (take 36 c.args.fields.now) ≡ 36 = omega (arith, length-take {A = ℕ}, room s) in
    (omega (arith, id_long s, size), omega (arith, size))

second : (c : After-put_field) → length (take (36 + c.args.len - 36) (drop 36 (c.put_field.new.field ++ drop 36 c.args.fields.now))) ≡ c.args.len
second c =
    omega (arith, length-take {A = ℕ}, length-drop {A = ℕ}, length-append {A = ℕ}, (first c).1, room (goal.at.After-put_field c).Start)

pub put_field-requires-2 : goal.put_field-requires-2
put_field-requires-2 c =
    let n = length c.args.cookie.now in
    let size = second (goal.at.put_field-requires-2 c).After-put_field in
    (omega (arith, size, c.requires.1, field_covers n), omega (arith, size, c.requires.1, field_most n c.requires.2))

-- with them the slice is as long as it was
both : (c : After-put_field-2) →
    let fields = c.args.fields.now in
    length (put_mid 36 (36 + c.args.len - 36) (c.put_field.new.field ++ drop 36 fields) c.put_field-2.new.field) ≡ length fields
both c =
    let k = goal.at.After-put_field-2 c in
    let size : 36 + length c.put_field-2.new.field ≡ 36 + c.args.len = omega (arith, c.put_field-2.auto.field, second k.After-put_field) in
    pair_long c.args.fields.now _ _ _ _ 36 (36 + c.args.len) _ (first k.After-put_field).1 size (room k.Start) refl refl refl

pub put_placeholders-requires : goal.put_placeholders-requires
put_placeholders-requires c =
    let n = length c.args.cookie.now in
    let k = goal.at.put_placeholders-requires c in
    let rest = first_and_rest c.args.asked c.args.len c.requires.3 in (
      omega (arith, length-take {A = ℕ}, length-drop {A = ℕ}, both k.After-put_field-2, c.requires.0, rest),
      omega (arith, c.requires.1, field_least n),
      omega (arith, c.requires.1, field_most n c.requires.2),
    )

pub returns : goal.returns
returns c =
    let a = c.args in
    let k = goal.at.returns c in
    let u = c.put_field.ensures ∙ ap (λ (n : ℕ). extension_bytes (extension uid_kind n a.uid)) (first k.After-put_field).0 in
    let v = c.put_field-2.ensures ∙ ap (λ (n : ℕ). extension_bytes (extension cookie_kind n a.cookie.now)) (second k.After-put_field) in
    fields_placed a.uid a.cookie.now a.asked (id_long k.Start) c.requires.3 a.len c.requires.1 a.fields.now _ _ _ _ _ c.requires.0 u v
    c.put_placeholders.ensures refl refl
