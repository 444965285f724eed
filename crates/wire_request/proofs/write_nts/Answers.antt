-- `write_nts` meets its contract.
-- Assumes nothing.
use Prim.Native.Nat.{ℕ, ◌+◌, ◌*◌, ◌≤◌}
use mathlib.Core.Path.{◌≡◌, refl, ◌∙◌, ap}
use native.Mathlib.Omega.{arith}
use borrow.Author.Rules.{rules}
use lib.ListN.{length, length-take, length-drop, length-append}
use Rattle.wire_request.specs.Request.{with_fields}
use Rattle.wire_request.proofs.Sizes.{asks, all_most, length_packet, packet_placed}
use Rattle.wire_request.proofs.Fitting.{too_long, fits}
use Rattle.wire_request.proofs.write_nts.Goals as goal
use Rattle.wire_request.proofs.write_nts.Goals.{After-field_length-len, After-from-new, Start}

-- what may be asked for
holds : (s : Start) → (length s.args.cookie.now ≤ 724) × (1 ≤ s.args.asked) × (s.args.asked ≤ 8)
holds s = asks (length s.args.cookie.now) s.args.asked s.requires

small : (c : After-from-new) → c.from-new.result * c.field_length-len.result ≤ 5824
small c =
    let h = holds (goal.at.After-from-new c).Start in
    rw (c.from-new.ensures, c.field_length-len.ensures) (all_most (length c.args.cookie.now) c.args.asked h.0 h.2)

-- the packet's length, as the code has it
long : (c : After-field_length-len) →
    let a = c.args in
    length (with_fields a.front a.uid a.cookie.now a.asked) ≡ 84 + a.asked * c.field_length-len.result
long c =
    let a = c.args in
    let head : length a.front ≡ 48 = search rules in
    let size : length a.uid ≡ 32 = search rules in
    rw c.field_length-len.ensures (length_packet a.uid a.cookie.now a.asked size (holds (goal.at.After-field_length-len c).Start).1 a.front head)

pub overflow_mul-long : goal.overflow_mul-long
overflow_mul-long c = omega (arith, small c)

pub overflow_add-long : goal.overflow_add-long
overflow_add-long c = omega (arith, small c)

pub returns-then-out-long : goal.returns-then-out-long
returns-then-out-long c =
    let a = c.args in
    too_long (with_fields a.front a.uid a.cookie.now a.asked) a.out.now _ (long (goal.at.returns-then-out-long c).After-field_length-len)
    (rw c.from-new.ensures at c.if-out-long.true)

pub slice_bounds-copy_from_slice-end-2 : goal.slice_bounds-copy_from_slice-end-2
slice_bounds-copy_from_slice-end-2 c = omega (arith, length-take {A = ℕ})

pub copy_from_slice-requires : goal.copy_from_slice-requires
copy_from_slice-requires c =
    let head : length c.args.front ≡ 48 = search rules in
    omega (arith, length-take {A = ℕ})

pub put_fields-requires : goal.put_fields-requires
put_fields-requires c =
    let a = c.args in
    let head : length a.front ≡ 48 = search rules in
    let h = holds (goal.at.put_fields-requires c).Start in
    let put : length c.copy_from_slice.new.self ≡ 48 = ap length c.copy_from_slice.ensures.after ∙ head in (
      omega (arith, length-take {A = ℕ}, length-drop {A = ℕ}, length-append {A = ℕ}, put, c.if-out-long.false),
      c.field_length-len.ensures,
      h.0,
      omega (arith, c.from-new.ensures, h.1),
    )

pub returns : goal.returns
returns c =
    let a = c.args in
    let head : length a.front ≡ 48 = search rules in
    let size : length a.uid ≡ 32 = search rules in
    let k = goal.at.returns c in
    let n = c.field_length-len in
    let new = c.from-new.ensures in
    let room = rw new at c.if-out-long.false in
    rw new
    (fits (with_fields a.front a.uid a.cookie.now a.asked) a.out.now _ (long k.After-field_length-len) room _
    (packet_placed a.uid a.cookie.now a.asked size (holds k.Start).1 a.front head n.result n.ensures a.out.now _ _ _ room
    c.copy_from_slice.ensures.after (rw new at c.put_fields.ensures) refl))
