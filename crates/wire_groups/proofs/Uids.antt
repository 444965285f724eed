-- What the state of a group says, as statements: agree is that there are uid fields and each begins with the identifier, absent that there are none,
-- and disagree that one of them does not begin with it.
-- Assumes nothing.
use mathlib.Core.Path.{◌≡◌, refl, sym, ap, ap₂, ◌∙◌}
use mathlib.Core.Bool.{Bool, true, false, ◌&&◌, cond, and-false}
use mathlib.Core.List.{List, [], ◌∷◌, ◌++◌}
use mathlib.Core.Logic.{◌↔◌, ◌⊎◌, inl, inr}
use Prim.Native.Nat.{ℕ, ◌<◌}
use native.Mathlib.Omega.{arith}
use lib.Dec.{eqb}
use lib.ListN.{length}
use borrow.Author.Tests.{eq-eqb, eqb-true}
use Rattle.words.proofs.Tests.{both}
use Rattle.wire_fields.specs.Sound.{Each, One}
use Rattle.wire_groups.specs.Matching.{starts_with, all_start_with, uid_of, Begins}
use Rattle.wire_groups.specs.declared.Uid.TheVariants.{Absent, Agree, Disagree}

-- ---- bytes at the front

begins : (b u : List ℕ) → starts_with b u ≡ true → Begins u b
begins b [] e = (b, refl)
begins [] (x ∷ u) e = let z : ◌≡◌ {A = ℕ} 0 1 = cc in absurd (omega arith)
begins (y ∷ b) (x ∷ u) e =
    let s = both (eqb y x) (starts_with b u) e in
    let r = begins b u s.1 in
    (r.0, ap₂ (λ h t. h ∷ t) (eqb-true y x s.0) r.1)

starts : (u r : List ℕ) → starts_with (u ++ r) u ≡ true
starts [] r = refl
starts (x ∷ u) r = rw (eq-eqb x x refl, starts u r)

pub begins_iff : (b u : List ℕ) → (starts_with b u ≡ true) ↔ Begins u b
begins_iff b u = (begins b u, λ q. ap (λ l. starts_with l u) q.1 ∙ starts u q.0)

-- ---- of a group

module _ (u : List ℕ) where
  each_begins : (bs : List (List ℕ)) → all_start_with bs u ≡ true → Each (Begins u) bs
  each_begins [] e = tt
  each_begins (b ∷ bs) e = let s = both (starts_with b u) (all_start_with bs u) e in (begins b u s.0, each_begins bs s.1)

  all_start : (bs : List (List ℕ)) → Each (Begins u) bs → all_start_with bs u ≡ true
  all_start [] q = refl
  all_start (b ∷ bs) q = rw ((begins_iff b u).1 q.0, all_start bs q.1)

  -- either a body begins with u, or it does not
  not_begins : (b : List ℕ) → starts_with b u ≡ false → Begins u b → ⊥
  not_begins b e q = let z : true ≡ false = sym ((begins_iff b u).1 q) ∙ e in let y : ◌≡◌ {A = ℕ} 0 1 = cc in omega arith

  pick : (b : List ℕ) (t : Bool) (R : Type 0) → starts_with b u ≡ t → (t ≡ true → R) → (Begins u b → ⊥) ⊎ R
  pick b true R e r = inr (r refl)
  pick b false R e r = inl (not_begins b e)

  one_not : (bs : List (List ℕ)) → all_start_with bs u ≡ false → One (λ b. Begins u b → ⊥) bs
  one_not [] e = let z : ◌≡◌ {A = ℕ} 0 1 = cc in absurd (omega arith)
  one_not (b ∷ bs) e = pick b (starts_with b u) (One (λ b. Begins u b → ⊥) bs) refl (λ q. one_not bs (rw q at e))

  not_all : (bs : List (List ℕ)) → One (λ b. Begins u b → ⊥) bs → all_start_with bs u ≡ false
  not_all [] o = absurd o
  not_all (b ∷ bs) (inl n) = first (starts_with b u) refl
    where
      first : (t : Bool) → starts_with b u ≡ t → (starts_with b u && all_start_with bs u) ≡ false
      first true e = absurd (n (begins b u e))
      first false e = rw e
  not_all (b ∷ bs) (inr o) = rw (not_all bs o) (and-false (starts_with b u))

  agreed : (t : Bool) → cond t Agree Disagree ≡ Agree → t ≡ true
  agreed true e = refl
  agreed false e = let z : ◌≡◌ {A = ℕ} 0 1 = cc in absurd (omega arith)

  disagreed : (t : Bool) → cond t Agree Disagree ≡ Disagree → t ≡ false
  disagreed true e = let z : ◌≡◌ {A = ℕ} 0 1 = cc in absurd (omega arith)
  disagreed false e = refl

  present : (t : Bool) → cond t Agree Disagree ≡ Absent → ⊥
  present true e = let z : ◌≡◌ {A = ℕ} 0 1 = cc in omega arith
  present false e = let z : ◌≡◌ {A = ℕ} 0 1 = cc in omega arith

  -- promise: 8.1
  pub agree_iff : (bs : List (List ℕ)) → (uid_of u bs ≡ Agree) ↔ ((0 < length bs) × Each (Begins u) bs)
  agree_iff [] = (λ e. (let z : ◌≡◌ {A = ℕ} 0 1 = cc in absurd (omega arith)), λ q. absurd (omega (arith, q.0)))
  agree_iff (b ∷ bs) = (
    λ e. (omega arith, each_begins (b ∷ bs) (agreed (all_start_with (b ∷ bs) u) e)),
    λ q. ap (λ t. cond t Agree Disagree) (all_start (b ∷ bs) q.1),
  )

  -- promise: 8.1
  pub absent_iff : (bs : List (List ℕ)) → (uid_of u bs ≡ Absent) ↔ (bs ≡ [])
  absent_iff [] = (λ e. refl, λ q. refl)
  absent_iff (b ∷ bs) = (λ e. absurd (present (all_start_with (b ∷ bs) u) e), λ q. absurd (omega (arith, ap length q)))

  -- promise: 8.1
  pub disagree_iff : (bs : List (List ℕ)) → (uid_of u bs ≡ Disagree) ↔ One (λ b. Begins u b → ⊥) bs
  disagree_iff [] = (λ e. (let z : ◌≡◌ {A = ℕ} 0 1 = cc in absurd (omega arith)), λ q. absurd q)
  disagree_iff (b ∷ bs) = (
    λ e. one_not (b ∷ bs) (disagreed (all_start_with (b ∷ bs) u) e),
    λ o. ap (λ t. cond t Agree Disagree) (not_all (b ∷ bs) o),
  )
