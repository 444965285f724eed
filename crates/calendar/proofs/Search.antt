-- Laws of the search for the lowest number: what it gives is the lowest, and nothing else is.
-- Assumes nothing.
use mathlib.Core.Path.{◌≡◌, refl, ap, subst, sym, ◌∙◌}
use mathlib.Core.Bool.{Bool, true, false, cond}
use mathlib.Core.Logic.{◌⊎◌, inl, inr, ⊎_elim}
use Prim.Native.Nat.{ℕ, zero, suc, ◌≤◌, ◌<◌}
use native.Mathlib.Omega.{arith}
use native.Mathlib.Nat.{eq-or-lt_of_le}
use lib.Dec.{ltb}
use borrow.Author.Tests.{ltb-true, ltb-false}
use Rattle.std.specs.Prelude.{Option, Some, None}
use Rattle.words.proofs.Tests.{either}
use Rattle.calendar.specs.Lowest.{lowest, named, First, NonePasses, Sought}

-- one of two numbers is the smaller, or they are equal
pub split : (a b : ℕ) → (a < b) ⊎ (b ≤ a)
split a b = go (ltb a b) refl
  where
    go : (t : Bool) → ltb a b ≡ t → (a < b) ⊎ (b ≤ a)
    go true e = inl (ltb-true a b e)
    go false e = inr (ltb-false a b e)

-- a test does not both pass and fail
pub never : {t : Bool} → t ≡ true → t ≡ false → ⊥
never p q = cc

pub none_yet : (test : ℕ → Bool) → NonePasses test 0
none_yet test k l = absurd (omega arith)

-- ---- the law

lt_suc : (k n : ℕ) → k < suc n → k ≤ n
lt_suc k n l = omega arith

-- promise: no13.3
pub sought : (test : ℕ → Bool) (n : ℕ) → Sought test n (lowest test n)
unfolding lowest
sought test zero = none_yet test
sought test (suc n) = go (lowest test n) (sought test n)
  where
    go : (f : Option ℕ) → Sought test n f → Sought test (suc n) (named f Some (cond (test n) (Some n) None))
    go (Some i) s = record { below = omega arith; passes = s.passes; first = s.first }
    go None s =
        either (Sought test (suc n)) (test n)
        (λ e. record { below = omega arith; passes = e; first = s })
        (λ e k l. ⊎_elim (λ q. rw q e) (λ q. s k q) (eq-or-lt_of_le (lt_suc k n l)))

-- promise: no13.3
pub unique : (test : ℕ → Bool) (n : ℕ) (f g : Option ℕ) → Sought test n f → Sought test n g → f ≡ g
unique test n (Some i) (Some j) s t =
    ⊎_elim (λ l. absurd (never s.passes (t.first i l)))
    (λ l. ⊎_elim (λ e. ap Some (sym e)) (λ q. absurd (never t.passes (s.first j q))) (eq-or-lt_of_le l))
    (split i j)
unique test n (Some i) None s t = absurd (never s.passes (t i s.below))
unique test n None (Some j) s t = absurd (never t.passes (s j t.below))
unique test n None None s t = refl

-- so whatever is sought is what is found
pub is : (test : ℕ → Bool) (n : ℕ) (f : Option ℕ) → Sought test n f → lowest test n ≡ f
is test n f s = unique test n (lowest test n) f (sought test n) s

pub found : (test : ℕ → Bool) (n i : ℕ) → lowest test n ≡ Some i → First test n i
found test n i e = subst (Sought test n) e (sought test n)

pub nothing : (test : ℕ → Bool) (n : ℕ) → lowest test n ≡ None → NonePasses test n
nothing test n e = subst (Sought test n) e (sought test n)

lower : (k i n : ℕ) → k < i → i < n → k < n
lower k i n a b = omega arith

-- tests that agree below the bound find the same
pub agree : (test other : ℕ → Bool) (n : ℕ) → ((k : ℕ) → k < n → test k ≡ other k) → lowest test n ≡ lowest other n
agree test other n h = is test n (lowest other n) (go (lowest other n) (sought other n))
  where
    go : (f : Option ℕ) → Sought other n f → Sought test n f
    go (Some i) s = record { below = s.below; passes = h i s.below ∙ s.passes; first = λ k l. h k (lower k i n l s.below) ∙ s.first k l }
    go None s = λ k l. h k l ∙ s k l

-- what holds of a number that is found, and where none is, holds
pub either_way : {A : Type 0} (P : A → Type 0) (test : ℕ → Bool) (n : ℕ) {f : ℕ → A} {other : A}
    → ((k : ℕ) → First test n k → P (f k)) → (NonePasses test n → P other) → P (named (lowest test n) f other)
either_way P test n {f} {other} p q = go (lowest test n) (sought test n)
  where
    go : (s : Option ℕ) → Sought test n s → P (named s f other)
    go (Some k) s = p k s
    go None s = q s
