-- A record at an offset of the file: what is found there is what is found in what is left of the file.
-- Assumes nothing.
use Prim.Native.Nat.{ℕ, ◌+◌, ◌-◌, ◌≤◌}
use mathlib.Core.Path.{◌≡◌, refl, sym, ap, ◌∙◌}
use mathlib.Core.Bool.{Bool, true, false, cond}
use mathlib.Core.List.{List}
use native.Mathlib.Nat.{add-sub_cancel_left}
use native.Mathlib.Omega.{arith}
use borrow.Author.Tests.{le-ltb}
use lib.Dec.{ltb, eqb}
use lib.ListN.{length, drop, length-drop}
use lib.Seq.{drop-drop}
use Rattle.words.specs.Bytes.{be, part}
use Rattle.handover_file.specs.Sections.{Found, body, other, short, body_length, found}

-- ---- what is at an offset: a body, from start to before end; another mark; or too few bytes

pub data Place : Type 0 where
  Body : ℕ → ℕ → Place
  Other : Place
  Short : Place

unfoldable pub length_at : List ℕ → ℕ → ℕ
length_at f at = be (part f (at + 2) 2)

unfoldable pub place_at : List ℕ → ℕ → ℕ → Place
place_at f at m =
    cond (ltb (length f) at) Short
    (cond (ltb (length f - at) 2) Short
    (cond (eqb (be (part f at 2)) m)
    (cond (ltb (length f - at) 4) Short
    (cond (ltb (length f - at - 4) (length_at f at)) Short
    (Body (at + 4) (at + 4 + length_at f at))))
    Other))

-- what is found there
abbrev pub found_in : List ℕ → Place → Found
found_in f (Body start end) = body (part f start (end - start)) (drop end f)
found_in f Other = other
found_in f Short = short

pub through : {A B : Type 0} (g : A → B) (t : Bool) (x y : A) → g (cond t x y) ≡ cond t (g x) (g y)
through g true x y = refl
through g false x y = refl

pub part_of_drop : (f : List ℕ) (at k n : ℕ) → part (drop at f) k n ≡ part f (at + k) n
unfolding part
part_of_drop f at k n = rw (drop-drop k at f)

module _ (f : List ℕ) (at m : ℕ) (h : at ≤ length f) where
  length_is : body_length (drop at f) ≡ length_at f at
  unfolding body_length length_at
  length_is = ap be (part_of_drop f at 2 2)

  mark_is : be (part (drop at f) 0 2) ≡ be (part f at 2)
  mark_is = let e : at + 0 ≡ at = omega arith in ap be (part_of_drop f at 0 2 ∙ ap (λ (k : ℕ). part f k 2) e)

  body_is : body (part (drop at f) 4 (body_length (drop at f))) (drop (4 + body_length (drop at f)) (drop at f))
      ≡ found_in f (Body (at + 4) (at + 4 + length_at f at))
  body_is =
      let n = length_at f at in
      let e : at + (4 + n) ≡ at + 4 + n = omega arith in
      rw (length_is, part_of_drop f at 4 n, drop-drop (4 + n) at f, e, add-sub_cancel_left)

  pub found_at : found m (drop at f) ≡ found_in f (place_at f at m)
  unfolding found place_at
  found_at =
      rw (le-ltb (length f) at h, length-drop, mark_is, body_is, length_is)
      (sym
      (through (found_in f) (ltb (length f - at) 2) Short _
      ∙ ap (cond (ltb (length f - at) 2) short)
      (through (found_in f) (eqb (be (part f at 2)) m) _ Other
      ∙ ap (λ (x : Found). cond (eqb (be (part f at 2)) m) x other)
      (through (found_in f) (ltb (length f - at) 4) Short _
      ∙ ap (cond (ltb (length f - at) 4) short)
      (through (found_in f) (ltb (length f - at - 4) (length_at f at)) Short (Body (at + 4) (at + 4 + length_at f at)))))))
