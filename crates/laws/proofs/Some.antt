-- Some of a list, in order: of any list none, all, and what a longer one has in front; of some of it some again; and the places that are used rise, and are
-- the list's.
-- Assumes nothing.
use mathlib.Core.Path.{◌≡◌, refl, ap, ◌∙◌}
use mathlib.Core.List.{List, [], ◌∷◌, ◌++◌, map}
use Prim.Native.Nat.{ℕ, suc}
use native.Mathlib.Omega.{arith}
use lib.ListN.{length, get_or, drop}
use Rattle.laws.specs.Some.{SomeOf, none, take, pass, Rising, Below, Placed}

module _ {A : Type 0} where
  pub some_none : (ys : List A) → SomeOf [] ys
  some_none [] = none
  some_none (y ∷ ys) = pass (some_none ys)

  pub some_all : (xs : List A) → SomeOf xs xs
  some_all [] = none
  some_all (x ∷ xs) = take (some_all xs)

  -- with the same behind both, and in front of both
  pub some_before : {xs ys : List A} → SomeOf xs ys → (zs : List A) → SomeOf (xs ++ zs) (ys ++ zs)
  some_before none zs = some_all zs
  some_before (take s) zs = take (some_before s zs)
  some_before (pass s) zs = pass (some_before s zs)

  pub some_behind : (zs : List A) {xs ys : List A} → SomeOf xs ys → SomeOf (zs ++ xs) (zs ++ ys)
  some_behind [] s = s
  some_behind (z ∷ zs) s = take (some_behind zs s)

  -- the front of a list, and all but its first
  pub some_front : (xs ys : List A) → SomeOf xs (xs ++ ys)
  some_front [] ys = some_none ys
  some_front (x ∷ xs) ys = take (some_front xs ys)

  pub some_rest : (xs : List A) → SomeOf (drop 1 xs) xs
  some_rest [] = none
  some_rest (x ∷ xs) = pass (some_all xs)

  pub some_some : {xs ys zs : List A} → SomeOf xs ys → SomeOf ys zs → SomeOf xs zs
  some_some s none = s
  some_some {xs = x ∷ xs} (take s) (take t) = take (some_some {xs = xs} s t)
  some_some (pass s) (take t) = pass (some_some s t)
  some_some s (pass t) = pass (some_some s t)

-- ---- the places

raised : (least : ℕ) (ps : List ℕ) → Rising least ps → Rising (suc least) (map suc ps)
raised least [] r = tt
raised least (p ∷ ps) r = (omega (arith, r.0), raised (suc p) ps r.1)

lower : (least : ℕ) (ps : List ℕ) → Rising (suc least) ps → Rising least ps
lower least [] r = tt
lower least (p ∷ ps) r = (omega (arith, r.0), r.1)

below_more : (n : ℕ) (ps : List ℕ) → Below n ps → Below (suc n) (map suc ps)
below_more n [] b = tt
below_more n (p ∷ ps) b = (omega (arith, b.0), below_more n ps b.1)

module _ {A : Type 0} (d : A) where
  onward : (y : A) (ys : List A) (ps : List ℕ) → map (λ p. get_or ys p d) ps ≡ map (λ p. get_or (y ∷ ys) p d) (map suc ps)
  onward y ys [] = refl
  onward y ys (p ∷ ps) = ap (λ (l : List A). get_or ys p d ∷ l) (onward y ys ps)

  pub placed : {xs ys : List A} → SomeOf xs ys → Placed d xs ys
  placed none = record { places = []; rising = tt; below = tt; there = refl }
  placed (take {x} {ys} s) =
      let p = placed s in
      record {
        places = 0 ∷ map suc p.places;
        rising = (omega arith, raised 0 p.places p.rising);
        below = (omega arith, below_more (length ys) p.places p.below);
        there = ap (λ (l : List A). x ∷ l) (p.there ∙ onward x ys p.places);
      }
  placed (pass {y} {ys} s) =
      let p = placed s in
      record {
        places = map suc p.places;
        rising = lower 0 (map suc p.places) (raised 0 p.places p.rising);
        below = below_more (length ys) p.places p.below;
        there = p.there ∙ onward y ys p.places;
      }

  -- of nothing stored nothing is handed out: no place is past the end
  pub none_of_none : (xs : List A) → Placed d xs [] → xs ≡ []
  none_of_none xs p = p.there ∙ by p.places p.below
    where
      by : (ps : List ℕ) → Below 0 ps → map (λ q. get_or [] q d) ps ≡ []
      by [] b = refl
      by (q ∷ ps) b = absurd (omega (arith, b.0))
