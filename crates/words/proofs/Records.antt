-- A record with any mark, a length and a body, at an offset of a file, is read back: its mark and its length there, its body behind them, and behind that
-- what follows. And what is read there is, written again, what stands there.
-- Assumes nothing.
use Prim.Native.Nat.{ℕ, ◌+◌, ◌≤◌, ◌<◌}
use mathlib.Core.Path.{◌≡◌, refl, sym, ap, ◌∙◌}
use mathlib.Core.List.{List, ◌++◌, append_assoc}
use native.Mathlib.Nat.{mod-eq_of_lt}
use native.Mathlib.Omega.{arith}
use lib.ListN.{length, drop, length-append, length-drop}
use lib.Seq.{take_at, drop_at, drop-drop}
use Rattle.words.specs.Bytes.{be, part, to_be}
use Rattle.words.proofs.Bytes.{Bytes, bytes_part, length_part, part_drop, length_to_be, be_to_be, be_below, to_be_be}
use Rattle.words.specs.Put.{record_of}

-- what stands at an offset of a file where a record does, with a rest behind it
pub record ReadBack (l : List ℕ) (m : ℕ) (c rest : List ℕ) (at : ℕ) : Type 0 where
  pub long : at + 4 + length c + length rest ≡ length l
  pub mark : be (part l at 2) ≡ m
  pub len : be (part l (at + 2) 2) ≡ length c
  pub body : part l (at + 4) (length c) ≡ c
  pub behind : drop (at + 4 + length c) l ≡ rest

module _ (l : List ℕ) (m : ℕ) (c rest : List ℕ) (at : ℕ) (fits : m < 65536) (short : length c ≤ 65535) (here : drop at l ≡ record_of m c ++ rest) where
  long_here : at + 4 + length c + length rest ≡ length l
  unfolding record_of
  long_here = omega (arith, simp (length-drop, length-append, length_to_be) at (ap length here))

  from_here : (n : ℕ) → drop (at + n) l ≡ drop n (record_of m c ++ rest)
  from_here n = sym (drop-drop n at l) ∙ ap (drop n) here

  split : record_of m c ++ rest ≡ to_be 2 m ++ (to_be 2 (length c) ++ (c ++ rest))
  unfolding record_of
  split = simp append_assoc

  mark_here : be (part l at 2) ≡ m
  unfolding part
  mark_here = rw (here, split, take_at (to_be 2 m) (to_be 2 (length c) ++ (c ++ rest)) 2 (length_to_be 2 m)) (be_to_be 2 m ∙ mod-eq_of_lt (omega arith))

  second : drop (at + 2) l ≡ to_be 2 (length c) ++ (c ++ rest)
  second = from_here 2 ∙ rw split (drop_at (to_be 2 m) (to_be 2 (length c) ++ (c ++ rest)) 2 (length_to_be 2 m))

  length_here : be (part l (at + 2) 2) ≡ length c
  unfolding part
  length_here = rw (second, take_at (to_be 2 (length c)) (c ++ rest) 2 (length_to_be 2 (length c))) (be_to_be 2 (length c) ∙ mod-eq_of_lt (omega arith))

  third : drop (at + 4) l ≡ c ++ rest
  third =
      let e : at + 2 + 2 ≡ at + 4 = omega arith in
      ap (λ (n : ℕ). drop n l) (sym e) ∙ sym (drop-drop 2 (at + 2) l) ∙ ap (drop 2) second
      ∙ drop_at (to_be 2 (length c)) (c ++ rest) 2 (length_to_be 2 (length c))

  body_here : part l (at + 4) (length c) ≡ c
  unfolding part
  body_here = rw third (take_at c rest (length c) refl)

  rest_here : drop (at + 4 + length c) l ≡ rest
  rest_here = sym (drop-drop (length c) (at + 4) l) ∙ ap (drop (length c)) third ∙ drop_at c rest (length c) refl

  -- promise: 3.12 (a record with any mark is read back)
  pub read_back : ReadBack l m c rest at
  read_back = record { long = long_here; mark = mark_here; len = length_here; body = body_here; behind = rest_here }

-- mark, length and body as they are read, written again
module _ (l : List ℕ) (bytes : Bytes l) (at m n : ℕ) (mark : be (part l at 2) ≡ m) (len : be (part l (at + 2) 2) ≡ n) (within : at + 4 + n ≤ length l) where
  two : (from : ℕ) → from + 2 ≤ length l → to_be 2 (be (part l from 2)) ≡ part l from 2
  two from h = to_be_be 2 (part l from 2) (bytes_part l from 2 bytes) (length_part l from 2 h)

  body_long : length (part l (at + 4) n) ≡ n
  body_long = length_part l (at + 4) n within

  pub body_short : length (part l (at + 4) n) ≤ 65535
  body_short =
      let size : length (part l (at + 2) 2) ≡ 2 = length_part l (at + 2) 2 (omega arith) in
      omega (arith, body_long, rw size at (be_below (part l (at + 2) 2) (bytes_part l (at + 2) 2 bytes)))

  pub write_back : record_of m (part l (at + 4) n) ++ drop (at + 4 + n) l ≡ drop at l
  unfolding record_of
  write_back =
      let c = part l (at + 4) n in
      let d = drop (at + 4 + n) l in
      let a : to_be 2 m ≡ part l at 2 = ap (to_be 2) (sym mark) ∙ two at (omega arith) in
      let b : to_be 2 (length c) ≡ part l (at + 2) 2 = ap (to_be 2) (body_long ∙ sym len) ∙ two (at + 2) (omega arith) in
      let e : at + 2 + 2 ≡ at + 4 = omega arith in
      append_assoc (to_be 2 m) (to_be 2 (length c) ++ c) d
      ∙ ap (λ (r : List ℕ). to_be 2 m ++ r) (append_assoc (to_be 2 (length c)) c d)
      ∙ (λ i. a i ++ (b i ++ part_drop l (at + 4) n i))
      ∙ ap (λ (k : ℕ). part l at 2 ++ (part l (at + 2) 2 ++ drop k l)) (sym e)
      ∙ ap (λ (r : List ℕ). part l at 2 ++ r) (part_drop l (at + 2) 2)
      ∙ part_drop l at 2
