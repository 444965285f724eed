-- What is put behind one another: bytes and zeros, and fields that are alike; and how long a field is.
-- Assumes nothing.
use mathlib.Core.Path.{◌≡◌, refl, sym, ap, ◌∙◌}
use mathlib.Core.List.{List, [], ◌++◌, append_assoc, append-nil}
use Prim.Native.Nat.{ℕ, zero, suc, ◌+◌, ◌-◌, ◌*◌, ◌≤◌, ◌<◌}
use native.Mathlib.Nat.{zero-mul, suc-mul, mul-le-mul_right}
use native.Mathlib.Numerals.{add-one}
use native.Mathlib.Omega.{arith}
use lib.ListN.{length, replicate, length-append, length-replicate, drop}
use Rattle.words.specs.Bytes.{to_be}
use Rattle.words.specs.Put.{laid_at}
use borrow.Rule.Slice.PartMut.{put_mid}
use Rattle.std.proofs.lemmas.List.{drop_all}
use Rattle.words.proofs.Put.{laid_on, laid_over, laid_length, put_is}
use Rattle.wire_request.specs.Extension.{Extension, filled, extension, extension_bytes, all_bytes}
use Rattle.wire_request.specs.Request.{placeholder_kind, placeholder}

-- ---- bytes filled with zeros

-- ---- pieces that fill a slice, one behind the other

-- a piece as long as the slice is all of it
pub laid_full : (out w : List ℕ) → length w ≡ length out → laid_at out 0 w ≡ w
laid_full out w e = laid_over out w ∙ rw (drop_all (length w) out (omega arith)) (append-nil w)

-- two of them, as the code puts them from the start on
module _ (out a b x y : List ℕ) (p q n : ℕ) (ep : length a ≡ p) (eq : p + length b ≡ q) (fits : q ≤ length out) (ex : x ≡ a) (ey : y ≡ b)
    (en : n ≡ q - p) where
  pub pair_put : put_mid p n (x ++ drop p out) y ≡ laid_at out 0 (a ++ b)
  pair_put =
      let o1 = laid_at out 0 a in
      let first : x ++ drop p out ≡ o1 = rw (ex, ← ep) (sym (laid_over out a)) in
      let bn : n ≡ p + length b - p = omega arith in
      let pa : p ≡ 0 + length a = omega arith in
      (λ i. put_mid p (bn i) (first i) (ey i)) ∙ put_is o1 b b p refl ∙ ap (λ (k : ℕ). laid_at o1 k b) pa ∙ laid_on out 0 a (omega arith) b

  pair_size : 0 + length (a ++ b) ≡ q
  pair_size = omega (arith, length-append a b)

  pub pair_long : length (put_mid p n (x ++ drop p out) y) ≡ length out
  pair_long = ap length pair_put ∙ laid_length out 0 (a ++ b) (omega (arith, pair_size))

  -- and a third one, with which they fill the slice
  pub covered : (d z : List ℕ) (m : ℕ) → q + length d ≡ length out → z ≡ d → m ≡ length (put_mid p n (x ++ drop p out) y) - q
      → put_mid q m (put_mid p n (x ++ drop p out) y) z ≡ a ++ (b ++ d)
  covered d z m ed ez em =
      let o2 = laid_at out 0 (a ++ b) in
      let dm : m ≡ q + length d - q = omega (arith, em, pair_long) in
      let qa : q ≡ 0 + length (a ++ b) = sym pair_size in
      (λ i. put_mid q (dm i) (pair_put i) (ez i))
      ∙ put_is o2 d d q refl
      ∙ ap (λ (k : ℕ). laid_at o2 k d) qa
      ∙ laid_on out 0 (a ++ b) (omega (arith, pair_size)) d
      ∙ laid_full out ((a ++ b) ++ d) (length-append (a ++ b) d ∙ omega (arith, pair_size))
      ∙ append_assoc a b d

pub length_filled : (n : ℕ) (bytes : List ℕ) → length bytes ≤ n → length (filled n bytes) ≡ n
unfolding filled
length_filled n bytes h = simp (length-append, length-replicate) (omega arith)

pub filled_full : (n : ℕ) (bytes : List ℕ) → length bytes ≡ n → filled n bytes ≡ bytes
unfolding filled
filled_full n bytes h = let z : n - length bytes ≡ 0 = omega arith in rw z (append-nil bytes)

-- ---- a field

pub length_extension : (kind len : ℕ) (body : List ℕ) → length body + 4 ≤ len → length (extension_bytes (extension kind len body)) ≡ len
unfolding extension_bytes
length_extension kind len body room =
    length-append (to_be 2 kind ++ to_be 2 len) (filled (len - 4) body) ∙ omega (arith, length_filled (len - 4) body (omega arith))

-- its type and its length, its body and zeros
pub field_is : (h body zs : List ℕ) (kind len : ℕ) → h ≡ to_be 2 kind ++ to_be 2 len → zs ≡ replicate (len - 4 - length body) 0
    → h ++ (body ++ zs) ≡ extension_bytes (extension kind len body)
unfolding extension_bytes filled
field_is h body zs kind len eh ez = rw (eh, ez)

-- ---- so many fields that are alike

alike_again : (n : ℕ) (e : Extension) → all_bytes (replicate (suc n) e) ≡ all_bytes (replicate n e) ++ extension_bytes e
alike_again zero e = append-nil (extension_bytes e)
alike_again (suc n) e =
    let x = extension_bytes e in
    ap (λ l. x ++ l) (alike_again n e) ∙ sym (append_assoc x (all_bytes (replicate n e)) x)

-- there is room for one more of n
pub turn_room : (i n len : ℕ) → i < n → i * len + len ≤ n * len
turn_room i n len h = rw (← suc-mul i len) (mul-le-mul_right {m = suc i} {n = n} len h)

module _ (len : ℕ) (least : 4 ≤ len) where
  pub length_placeholders : (n : ℕ) → length (all_bytes (replicate n (placeholder len))) ≡ n * len
  length_placeholders zero = sym (zero-mul len)
  length_placeholders (suc n) =
      length-append (extension_bytes (placeholder len)) (all_bytes (replicate n (placeholder len)))
      ∙ rw (suc-mul n len) (omega (arith, length_extension placeholder_kind len [] least, length_placeholders n))

  pub placeholders_placed : (out : List ℕ) (i : ℕ) → i * len ≤ length out → (a b : List ℕ) →
      a ≡ laid_at out 0 (all_bytes (replicate i (placeholder len)))
      → b ≡ laid_at a (i * len) (extension_bytes (placeholder len)) → b ≡ laid_at out 0 (all_bytes (replicate (i + 1) (placeholder len)))
  placeholders_placed out i fits a b ea eb =
      let w = all_bytes (replicate i (placeholder len)) in
      let x = extension_bytes (placeholder len) in
      let n = length_placeholders i in
      let at : i * len ≡ 0 + length w = omega (arith, n) in
      eb ∙ (λ j. laid_at (ea j) (at j) x) ∙ laid_on out 0 w (omega (arith, n)) x ∙ rw (add-one, alike_again i (placeholder len))
