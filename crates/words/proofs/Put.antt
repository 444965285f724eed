-- Bytes put into a buffer: what a copy leaves there, and that two pieces put one behind the other are put at once. A record and its length.
-- Assumes nothing.
use Prim.Native.Nat.{ℕ, ◌+◌, ◌-◌, ◌≤◌, ◌<◌}
use mathlib.Core.Path.{◌≡◌, refl, sym, ap, subst, ◌∙◌}
use mathlib.Core.Bool.{false}
use mathlib.Core.List.{List, [], ◌++◌, append_assoc}
use native.Mathlib.Nat.{zero-add}
use native.Mathlib.Omega.{arith}
use borrow.Author.Tests.{le-leb, lt-leb}
use borrow.Rule.Slice.PartMut.{put_mid}
use lib.Dec.{leb}
use lib.ListN.{length, take, drop, length-append, length-drop, take-append-drop}
use lib.Seq.{take-add, take_at, drop_at, drop-drop, length-take-le}
use Rattle.words.specs.Bytes.{to_be}
use Rattle.words.specs.Put.{laid_at, Put, Laid, laid, lay_of, record_of}

-- what a copy into a part of the buffer leaves
pub put_is : (out piece ys : List ℕ) (at : ℕ) → ys ≡ piece → put_mid at (at + length piece - at) out ys ≡ laid_at out at piece
unfolding laid_at
put_is out piece ys at e =
    let k : at + length piece - at ≡ length piece = omega arith in
    rw (k, e, drop-drop) refl

-- nothing put is nothing changed
pub laid_none : (out : List ℕ) (at : ℕ) → laid_at out at [] ≡ out
unfolding laid_at
laid_none out at = let z : at + 0 ≡ at = omega arith in ap (λ (k : ℕ). take at out ++ drop k out) z ∙ take-append-drop at out

-- from the start of the buffer
pub laid_over : (out w : List ℕ) → laid_at out 0 w ≡ w ++ drop (length w) out
unfolding laid_at
laid_over out w = ap (λ (k : ℕ). w ++ drop k out) (zero-add (length w))

module _ (out : List ℕ) (at : ℕ) (w : List ℕ) (h : at + length w ≤ length out) where
  parted : laid_at out at w ≡ (take at out ++ w) ++ drop (at + length w) out
  unfolding laid_at
  parted = sym (append_assoc (take at out) w (drop (at + length w) out))

  long : length (take at out ++ w) ≡ at + length w
  long = simp (length-append, length-take-le at out (omega arith))

  taken : take (at + length w) (laid_at out at w) ≡ take at out ++ w
  taken = ap (take (at + length w)) parted ∙ take_at (take at out ++ w) (drop (at + length w) out) (at + length w) long

  dropped : drop (at + length w) (laid_at out at w) ≡ drop (at + length w) out
  dropped = ap (drop (at + length w)) parted ∙ drop_at (take at out ++ w) (drop (at + length w) out) (at + length w) long

  further : (k : ℕ) → drop (at + length w + k) (laid_at out at w) ≡ drop (at + length w + k) out
  further k = sym (drop-drop k (at + length w) (laid_at out at w)) ∙ ap (drop k) dropped ∙ drop-drop k (at + length w) out

  pub laid_length : length (laid_at out at w) ≡ length out
  laid_length = ap length parted ∙ length-append (take at out ++ w) (drop (at + length w) out) ∙ rw (long, length-drop) (omega arith)

  pub laid_on : (v : List ℕ) → laid_at (laid_at out at w) (at + length w) v ≡ laid_at out at (w ++ v)
  unfolding laid_at
  laid_on v =
      let n : at + length w + length v ≡ at + length (w ++ v) = rw length-append (omega arith) in
      (λ i. taken i ++ (v ++ further (length v) i))
      ∙ append_assoc (take at out) w (v ++ drop (at + length w + length v) out)
      ∙ ap (λ (l : List ℕ). take at out ++ l) (sym (append_assoc w v (drop (at + length w + length v) out)))
      ∙ ap (λ (k : ℕ). take at out ++ ((w ++ v) ++ drop k out)) n

-- one piece, and then another
pub put_put : {out p q : List ℕ} {at r s : ℕ} (w v : List ℕ) → Put out at w r p → Put p r v s q → at + length w ≤ length out → Put out at (w ++ v) s q
put_put {out = out} {p = p} {at = at} {r = r} w v a b h =
    let n : at + length (w ++ v) ≡ at + length w + length v = rw length-append (omega arith) in
    record {
      ends = b.ends ∙ ap (λ (k : ℕ). k + length v) a.ends ∙ sym n;
      leaves = b.leaves ∙ (λ i. laid_at (a.leaves i) (a.ends i) v) ∙ laid_on out at w h v;
    }

pub put_long : {out p : List ℕ} {at r : ℕ} (w : List ℕ) → Put out at w r p → at + length w ≤ length out → length p ≡ length out
put_long {out = out} {at = at} w a h = ap length a.leaves ∙ laid_length out at w h

-- ---- what is laid: put where it fits, and else not

module _ (out : List ℕ) (at : ℕ) (w : List ℕ) where
  pub lays : {r : ℕ} {left : List ℕ} → at + length w ≤ length out → Put out at w r left → laid r left ≡ lay_of out at w
  unfolding lay_of
  lays h p = (λ i. laid (p.ends i) (p.leaves i)) ∙ sym (rw (le-leb (at + length w) (length out) h))

  pub lays_not : leb (at + length w) (length out) ≡ false → laid at out ≡ lay_of out at w
  unfolding lay_of
  lays_not e = sym (rw e)

  pub laid_put : {r : ℕ} {left : List ℕ} → laid r left ≡ lay_of out at w → at + length w ≤ length out → Put out at w r left
  unfolding lay_of
  laid_put {r = r} {left = left} e h =
      let k : laid r left ≡ laid (at + length w) (laid_at out at w) = e ∙ rw (le-leb (at + length w) (length out) h) in
      record { ends = ap (λ (l : Laid). l.ends) k; leaves = ap (λ (l : Laid). l.left) k }

-- ---- a list L, of which the first `to` bytes are in the buffer, goes on with R

module _ (L R S : List ℕ) (to : ℕ) (h : to ≤ length L) (e : drop to L ≡ R ++ S) where
  pub left_is : drop (to + length R) L ≡ S
  left_is = sym (drop-drop (length R) to L) ∙ rw e (drop_at R S (length R) refl)

  pub left_long : to + length R + length S ≡ length L
  left_long = omega (arith, simp (length-drop, length-append) at (ap length e))

  pub more_is : take (to + length R) L ≡ take to L ++ R
  more_is = take-add to (length R) L ∙ rw e (ap (λ (r : List ℕ). take to L ++ r) (take_at R S (length R) refl))

  -- with R put behind them the first `to + length R` are
  pub buffer_is : (out₀ out : List ℕ) → out ≡ take to L ++ drop to out₀ → laid_at out to R ≡ take (to + length R) L ++ drop (to + length R) out₀
  unfolding laid_at
  buffer_is out₀ out q =
      let n : length (take to L) ≡ to = length-take-le to L h in
      let a : take to out ≡ take to L = rw q (take_at (take to L) (drop to out₀) to n) in
      let b : drop to out ≡ drop to out₀ = rw q (drop_at (take to L) (drop to out₀) to n) in
      let d : drop (to + length R) out ≡ drop (to + length R) out₀ = sym (drop-drop (length R) to out) ∙ rw b (drop-drop (length R) to out₀) in
      rw (a, d, more_is) (simp append_assoc)

-- ---- a record

pub record_long : (m : ℕ) (b : List ℕ) → length (record_of m b) ≡ 4 + length b
unfolding record_of
record_long m b = simp length-append (omega arith)

-- one for which there is no room
pub record_lays_not : (out : List ℕ) (at m : ℕ) (b : List ℕ) → length out < at + (4 + length b) → laid at out ≡ lay_of out at (record_of m b)
record_lays_not out at m b h = lays_not out at (record_of m b) (lt-leb (at + length (record_of m b)) (length out) (omega (arith, record_long m b)))

-- its head, and its body behind it
pub record_put : {out p q : List ℕ} {at r s : ℕ} {h : List ℕ} (m n : ℕ) (body : List ℕ) → h ≡ to_be 2 m ++ to_be 2 n → to_be 2 n ≡ to_be 2 (length body) →
    Put out at h r p → Put p r body s q → at + 4 ≤ length out → Put out at (record_of m body) s q
unfolding record_of
record_put {out = out} {p = p} {q = q} {at = at} {r = r} {s = s} m n body eh en a b k =
    let first : Put out at (to_be 2 m ++ to_be 2 n) r p = subst (λ (w : List ℕ). Put out at w r p) eh a in
    subst (λ (w : List ℕ). Put out at w s q)
    (append_assoc (to_be 2 m) (to_be 2 n) body ∙ ap (λ (l : List ℕ). to_be 2 m ++ (l ++ body)) en)
    (put_put (to_be 2 m ++ to_be 2 n) body first b k)
