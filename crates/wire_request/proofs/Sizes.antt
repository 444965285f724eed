-- How long a request's fields are, and that they are put one behind the other.
-- Assumes nothing.
use mathlib.Core.Path.{◌≡◌, refl, sym, ap, subst, ◌∙◌}
use mathlib.Core.Bool.{true, ◌&&◌}
use mathlib.Core.List.{List, ◌++◌}
use Prim.Native.Nat.{ℕ, suc, ◌+◌, ◌-◌, ◌*◌, ◌%◌, ◌≤◌}
use native.Mathlib.Nat.{suc-mul, mul-le-mul}
use native.Mathlib.Omega.{arith}
use lib.Dec.{leb}
use lib.ListN.{length, drop, replicate, length-append}
use borrow.Author.Tests.{leb-true}
use borrow.Rule.Slice.PartMut.{put_mid}
use Rattle.words.proofs.Put.{laid_over}
use Rattle.words.proofs.Tests.{both}
use Rattle.wire_header.specs.declared.Header.{Header}
use Rattle.wire_header.specs.Header.{bytes_of}
use Rattle.wire_groups.specs.Matching.{uid_kind}
use Rattle.wire_collector.specs.Collector.{cookie_kind}
use Rattle.wire_request.specs.Extension.{extension, field_length, extension_bytes, all_bytes}
use Rattle.wire_request.specs.Request.{ask_valid, carrying, placeholder, fields_for, with_fields}
use Rattle.wire_request.proofs.Placing.{length_extension, length_placeholders, pair_put, covered}

-- ---- a field's length: it covers head and body, is at least 16 and a multiple of four

-- promise: no1.3
pub field_covers : (n : ℕ) → n + 4 ≤ field_length n
unfolding field_length
field_covers n = omega arith

-- promise: no1.3
pub field_least : (n : ℕ) → 16 ≤ field_length n
unfolding field_length
field_least n = omega arith

-- promise: no1.3
pub field_fours : (n : ℕ) → field_length n % 4 ≡ 0
unfolding field_length
field_fours n = omega arith

pub field_most : (n : ℕ) → n ≤ 724 → field_length n ≤ 728
unfolding field_length
field_most n h = omega arith

-- a header has 48 bytes
pub length_header : (h : Header) → length (bytes_of h) ≡ 48
unfolding bytes_of
length_header h = refl

-- what a request may ask for, and that its fields are few bytes
pub asks : (len asked : ℕ) → ask_valid len asked ≡ true → (len ≤ 724) × (1 ≤ asked) × (asked ≤ 8)
asks len asked e =
    let a = both (leb len 724) (leb 1 asked && leb asked 8) e in
    let b = both (leb 1 asked) (leb asked 8) a.1 in
    (leb-true len 724 a.0, leb-true 1 asked b.0, leb-true asked 8 b.1)

pub all_most : (n asked : ℕ) → n ≤ 724 → asked ≤ 8 → asked * field_length n ≤ 5824
all_most n asked h k = mul-le-mul {n₁ = asked} {m₁ = field_length n} {n₂ = 8} {m₂ = 728} k (field_most n h)

-- the first of so many, and the others
pub first_and_rest : (asked len : ℕ) → 1 ≤ asked → len + (asked - 1) * len ≡ asked * len
first_and_rest asked len h =
    let s : asked ≡ suc (asked - 1) = omega arith in
    let e : suc (asked - 1) * len ≡ (asked - 1) * len + len = suc-mul (asked - 1) len in
    omega (arith, ap (λ (n : ℕ). n * len) s, e)

-- ---- the fields

module _ (uid cookie : List ℕ) (asked : ℕ) (size : length uid ≡ 32) (some : 1 ≤ asked) where
  abbrev len : ℕ
  len = field_length (length cookie)

  length_carrying : (kind : ℕ) (body : List ℕ) → length (extension_bytes (carrying kind body)) ≡ field_length (length body)
  length_carrying kind body = length_extension kind (field_length (length body)) body (field_covers (length body))

  uid_size : 36 ≡ field_length (length uid)
  unfolding field_length
  uid_size = sym (ap field_length size)

  uid_long : length (extension_bytes (carrying uid_kind uid)) ≡ 36
  unfolding field_length
  uid_long = length_carrying uid_kind uid ∙ ap field_length size

  others : List ℕ
  others = all_bytes (replicate (asked - 1) (placeholder len))

  others_long : length others ≡ (asked - 1) * len
  unfolding others
  others_long = length_placeholders len (omega (arith, field_least (length cookie))) (asked - 1)

  pub length_fields : length (all_bytes (fields_for uid cookie asked)) ≡ 36 + asked * len
  unfolding fields_for others
  length_fields =
      length-append (extension_bytes (carrying uid_kind uid)) (extension_bytes (carrying cookie_kind cookie) ++ others)
      ∙ omega (
        arith,
        uid_long,
        length-append (extension_bytes (carrying cookie_kind cookie)) others,
        length_carrying cookie_kind cookie,
        others_long,
        first_and_rest asked len some,
      )

  -- they fill their slice, where n is the cookie field's length
  abbrev FieldsPlaced : ℕ → Type 0
  FieldsPlaced n =
      (out x y z : List ℕ) (j m : ℕ) → length out ≡ 36 + asked * n
      → x ≡ extension_bytes (extension uid_kind 36 uid)
      → y ≡ extension_bytes (extension cookie_kind n cookie)
      → z ≡ all_bytes (replicate (asked - 1) (placeholder n))
      → j ≡ 36 + n - 36 → m ≡ length (put_mid 36 j (x ++ drop 36 out) y) - (36 + n)
      → put_mid (36 + n) m (put_mid 36 j (x ++ drop 36 out) y) z ≡ all_bytes (fields_for uid cookie asked)

  at_len : FieldsPlaced len
  unfolding fields_for others
  at_len out x y z j m room ex ey ez ej em =
      let u = extension_bytes (carrying uid_kind uid) in
      let k = extension_bytes (carrying cookie_kind cookie) in
      let rest = first_and_rest asked len some in
      let first : x ≡ u = ex ∙ ap (λ (n : ℕ). extension_bytes (extension uid_kind n uid)) uid_size in
      let second : 36 + length k ≡ 36 + len = ap (λ (n : ℕ). 36 + n) (length_carrying cookie_kind cookie) in
      covered out u k x y 36 (36 + len) j uid_long second (omega (arith, rest)) first ey ej others z m (omega (arith, rest, others_long)) ez em

  pub fields_placed : (n : ℕ) → n ≡ len → FieldsPlaced n
  fields_placed n e = subst FieldsPlaced (sym e) at_len

  -- ---- the packet: a header of 48 bytes and the fields

  module _ (front : List ℕ) (head : length front ≡ 48) where
    pub length_packet : length (with_fields front uid cookie asked) ≡ 84 + asked * len
    unfolding with_fields
    length_packet = length-append front (all_bytes (fields_for uid cookie asked)) ∙ omega (arith, length_fields)

    pub packet_placed : (n : ℕ) → n ≡ len → (out x y : List ℕ) (j : ℕ) → 84 + asked * n ≤ length out
        → x ≡ front → y ≡ all_bytes (fields_for uid cookie asked) → j ≡ 84 + asked * n - 48
        → put_mid 48 j (x ++ drop 48 out) y ≡ with_fields front uid cookie asked ++ drop (84 + asked * n) out
    unfolding with_fields
    packet_placed n e out x y j room ex ey ej =
        let fs = all_bytes (fields_for uid cookie asked) in
        let size : 48 + length fs ≡ 84 + asked * n = rw e (omega (arith, length_fields)) in
        let long : length (front ++ fs) ≡ 84 + asked * n = length_packet ∙ rw e in
        pair_put out front fs x y 48 (84 + asked * n) j head size room ex ey ej ∙ laid_over out (front ++ fs) ∙ rw long
