-- The reader's step at an offset of the file, answer by answer.
-- Assumes nothing.
use Prim.Native.Nat.{ℕ, ◌+◌, ◌-◌, ◌≤◌}
use mathlib.Core.Path.{◌≡◌, refl, ap, ◌∙◌}
use mathlib.Core.Bool.{Bool, true, false, cond}
use mathlib.Core.List.{List, ◌∷◌}
use native.Mathlib.Omega.{arith}
use borrow.Author.Tests.{ltb-false}
use lib.Dec.{ltb, eqb}
use lib.ListN.{length, drop}
use Rattle.words.specs.Bytes.{be, part}
use Rattle.handover_file.specs.Sections.{Shape, misplaced, missized, on_found, cut_as}
use Rattle.handover_file.proofs.Places as P
use Rattle.handover_file.proofs.Places.{Body, Other, Short, length_at, place_at, found_in, found_at}

module _ (f : List ℕ) (at : ℕ) (h : at ≤ length f) (s : Shape) (ss : List Shape) where
  pub step : (p : P.Place) → place_at f at s.mark ≡ p → cut_as (s ∷ ss) (drop at f) ≡ on_found s.fits (λ (r : List ℕ). cut_as ss r) (found_in f p)
  step p e = ap (on_found s.fits (λ (r : List ℕ). cut_as ss r)) (found_at f at s.mark h ∙ ap (found_in f) e)

  pub step_other : place_at f at s.mark ≡ Other → cut_as (s ∷ ss) (drop at f) ≡ misplaced
  step_other e = step Other e

  pub step_short : place_at f at s.mark ≡ Short → cut_as (s ∷ ss) (drop at f) ≡ missized
  step_short e = step Short e

-- what an answer says of its place
module _ (f : List ℕ) (at m : ℕ) where
  pub data View : P.Place → Type 0 where
    good : at + 4 + length_at f at ≤ length f → View (Body (at + 4) (at + 4 + length_at f at))
    less : View Short
    more : View Other

  pub view : View (place_at f at m)
  unfolding place_at
  view = go (ltb (length f) at) (ltb (length f - at) 2) (eqb (be (part f at 2)) m) (ltb (length f - at) 4)
      (ltb (length f - at - 4) (length_at f at)) refl refl refl
    where
      go : (s t u v w : Bool) → ltb (length f) at ≡ s → ltb (length f - at) 4 ≡ v → ltb (length f - at - 4) (length_at f at) ≡ w
          → View (cond s Short (cond t Short (cond u (cond v Short (cond w Short (Body (at + 4) (at + 4 + length_at f at)))) Other)))
      go true t u v w a b c = less
      go false true u v w a b c = less
      go false false false v w a b c = more
      go false false true true w a b c = less
      go false false true false true a b c = less
      go false false true false false a b c =
          good (omega (arith, ltb-false (length f) at a, ltb-false (length f - at) 4 b, ltb-false (length f - at - 4) (length_at f at) c))
