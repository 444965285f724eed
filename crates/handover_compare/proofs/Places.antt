-- The place where two rows of bytes first differ, and whether they do.
-- Assumes nothing.
use Prim.Native.Nat.{ℕ, suc, ◌≤◌, ◌<◌}
use mathlib.Core.Path.{◌≡◌, refl, sym, ◌∙◌}
use mathlib.Core.Bool.{Bool, true, false, ◌&&◌, cond}
use mathlib.Core.List.{List, [], ◌∷◌}
use native.Mathlib.Omega.{arith}
use borrow.Author.Tests.{eqb-true, eq-eqb, ne_eqb}
use lib.Dec.{eqb, eqb-suc-suc, eqb-zero-suc}
use lib.ListN.{length, get_or, drop, drop_of_length-le}
use lib.Seq.{drop-cons}
use Rattle.words.proofs.Tests.{both, eqb_sym}
use Rattle.handover_compare.specs.Fields.{place_of, same_bytes}

-- ---- a byte further on

pub place_none : (l : List ℕ) → place_of l [] ≡ 0
place_none [] = refl
place_none (x ∷ l) = refl

module _ (l r : List ℕ) (i : ℕ) where
  module _ (h : i < length l) (k : i < length r) where
    step : place_of (drop i l) (drop i r) ≡ cond (eqb (get_or l i 0) (get_or r i 0)) (suc (place_of (drop (suc i) l) (drop (suc i) r))) 0
    step = rw (drop-cons l i 0 h, drop-cons r i 0 k)

    pub place_here : (get_or l i 0 ≡ get_or r i 0 → ⊥) → place_of (drop i l) (drop i r) ≡ 0
    place_here e = step ∙ rw (ne_eqb _ _ e)

  pub right_ends : length r ≤ i → place_of (drop i l) (drop i r) ≡ 0
  right_ends h = rw (drop_of_length-le r {i = i} h) (place_none (drop i l))

-- ---- exchanged

pub place_sym : (l r : List ℕ) → place_of l r ≡ place_of r l
place_sym [] [] = refl
place_sym [] (y ∷ r) = refl
place_sym (x ∷ l) [] = refl
place_sym (x ∷ l) (y ∷ r) = λ i. cond (eqb_sym x y i) (suc (place_sym l r i)) 0

pub same_sym : (l r : List ℕ) → same_bytes l r ≡ same_bytes r l
same_sym [] [] = refl
same_sym [] (y ∷ r) = refl
same_sym (x ∷ l) [] = refl
same_sym (x ∷ l) (y ∷ r) = λ i. eqb_sym x y i && same_sym l r i

-- ---- the test decides

pub same_refl : (l : List ℕ) → same_bytes l l ≡ true
same_refl [] = refl
same_refl (x ∷ l) = rw (eq-eqb x x refl, same_refl l)

pub same_eq : (l r : List ℕ) → same_bytes l r ≡ true → l ≡ r
same_eq [] [] e = refl
same_eq [] (y ∷ r) e = let z : ◌≡◌ {A = ℕ} 0 1 = cc in absurd (omega arith)
same_eq (x ∷ l) [] e = let z : ◌≡◌ {A = ℕ} 0 1 = cc in absurd (omega arith)
same_eq (x ∷ l) (y ∷ r) e =
    let b = both (eqb x y) (same_bytes l r) e in
    let p = eqb-true x y b.0 in
    let q = same_eq l r b.1 in
    λ i. p i ∷ q i

-- rows of one length are the same where the place is their end
pub same_place : (l r : List ℕ) → length l ≡ length r → same_bytes l r ≡ eqb (place_of l r) (length l)
same_place [] [] h = refl
same_place [] (y ∷ r) h = absurd (omega arith)
same_place (x ∷ l) [] h = absurd (omega arith)
same_place (x ∷ l) (y ∷ r) h = go (same_place l r (omega arith)) (eqb x y)
  where
    go : same_bytes l r ≡ eqb (place_of l r) (length l) → (t : Bool) → (t && same_bytes l r) ≡ eqb (cond t (suc (place_of l r)) 0) (suc (length l))
    go rest true = rest ∙ sym (eqb-suc-suc (place_of l r) (length l))
    go rest false = sym (eqb-zero-suc (length l))

-- and so are the readings, of one number, where only those of one number need to have one length
pub alike : (m n : ℕ) (l r : List ℕ) → (m ≡ n → length l ≡ length r) → (eqb m n && eqb (place_of l r) (length l)) ≡ (eqb m n && same_bytes l r)
alike m n l r h = go (eqb m n) refl
  where
    go : (t : Bool) → eqb m n ≡ t → (t && eqb (place_of l r) (length l)) ≡ (t && same_bytes l r)
    go true e = sym (same_place l r (h (eqb-true m n e)))
    go false e = refl

-- the place is at most the end of either
pub place_short : (l r : List ℕ) → place_of l r ≤ length l
place_short [] r = omega arith
place_short (x ∷ l) [] = omega arith
place_short (x ∷ l) (y ∷ r) = go (place_short l r) (eqb x y)
  where
    go : place_of l r ≤ length l → (t : Bool) → cond t (suc (place_of l r)) 0 ≤ suc (length l)
    go rest true = omega arith
    go rest false = omega arith
