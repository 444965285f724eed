-- The count of unanswered polls along the register's steps: 8 when new, one more with each poll up to 8, none after an answer.
-- Assumes nothing.
use mathlib.Core.Path.{◌≡◌, refl, ap, ◌∙◌}
use mathlib.Core.Bool.{Bool, true, false, cond}
use mathlib.Core.Logic.{◌≢◌}
use Prim.Native.Nat.{ℕ, zero, suc, ◌+◌, ◌*◌, ◌/◌, ◌%◌, ◌≤◌, ◌<◌, min}
use native.Mathlib.Omega.{arith}
use lib.Dec.{eqb}
use borrow.Author.Tests.{eq-eqb, ne_eqb, eqb-true, eqb-false}
use Rattle.reach.specs.declared.Reach.{Reach}
use Rattle.reach.specs.Register.{never_of, polled_of, answered_of, trailing, unanswered_of}

-- ---- where the lowest set bit is

even : (n x t : ℕ) → x % 2 ≡ 0 → trailing n (x / 2) ≡ t → trailing (suc n) x ≡ suc t
unfolding trailing
even n x t e k = rw (eq-eqb (x % 2) 0 e, k)

pub only_0 : (n x : ℕ) → x % 2 ≡ 1 → trailing (suc n) x ≡ 0
unfolding trailing
only_0 n x e = rw (ne_eqb (x % 2) 0 (omega arith))

pub only_1 : (n x : ℕ) → x % 4 ≡ 2 → trailing (suc (suc n)) x ≡ 1
only_1 n x e = even (suc n) x 0 (omega arith) (only_0 n (x / 2) (omega arith))

pub only_2 : (n x : ℕ) → x % 8 ≡ 4 → trailing (suc (suc (suc n))) x ≡ 2
only_2 n x e = even (suc (suc n)) x 1 (omega arith) (only_1 n (x / 2) (omega arith))

pub only_3 : (n x : ℕ) → x % 16 ≡ 8 → trailing (suc (suc (suc (suc n)))) x ≡ 3
only_3 n x e = even (suc (suc (suc n))) x 2 (omega arith) (only_2 n (x / 2) (omega arith))

pub only_4 : (n x : ℕ) → x % 32 ≡ 16 → trailing (suc (suc (suc (suc (suc n))))) x ≡ 4
only_4 n x e = even (suc (suc (suc (suc n)))) x 3 (omega arith) (only_3 n (x / 2) (omega arith))

pub only_5 : (n x : ℕ) → x % 64 ≡ 32 → trailing (suc (suc (suc (suc (suc (suc n)))))) x ≡ 5
only_5 n x e = even (suc (suc (suc (suc (suc n))))) x 4 (omega arith) (only_4 n (x / 2) (omega arith))

pub only_6 : (n x : ℕ) → x % 128 ≡ 64 → trailing (suc (suc (suc (suc (suc (suc (suc n))))))) x ≡ 6
only_6 n x e = even (suc (suc (suc (suc (suc (suc n)))))) x 5 (omega arith) (only_5 n (x / 2) (omega arith))

pub only_7 : (n x : ℕ) → x % 256 ≡ 128 → trailing (suc (suc (suc (suc (suc (suc (suc (suc n)))))))) x ≡ 7
only_7 n x e = even (suc (suc (suc (suc (suc (suc (suc n))))))) x 6 (omega arith) (only_6 n (x / 2) (omega arith))

-- none of the eight bits is set
pub none_of_8 : trailing 8 0 ≡ 8
unfolding trailing
none_of_8 = refl

-- what the comparisons of the code find, for `grind`
module _ (x : ℕ) where
  pub at_0 : x % 2 ≢ 0 → trailing 8 x ≡ 0
  at_0 h = only_0 7 x (omega arith)

  pub at_1 : x % 2 ≡ 0 → x % 4 ≢ 0 → trailing 8 x ≡ 1
  at_1 e h = only_1 6 x (omega arith)

  pub at_2 : x % 4 ≡ 0 → x % 8 ≢ 0 → trailing 8 x ≡ 2
  at_2 e h = only_2 5 x (omega arith)

  pub at_3 : x % 8 ≡ 0 → x % 16 ≢ 0 → trailing 8 x ≡ 3
  at_3 e h = only_3 4 x (omega arith)

  pub at_4 : x % 16 ≡ 0 → x % 32 ≢ 0 → trailing 8 x ≡ 4
  at_4 e h = only_4 3 x (omega arith)

  pub at_5 : x % 32 ≡ 0 → x % 64 ≢ 0 → trailing 8 x ≡ 5
  at_5 e h = only_5 2 x (omega arith)

  pub at_6 : x % 64 ≡ 0 → x % 128 ≢ 0 → trailing 8 x ≡ 6
  at_6 e h = only_6 1 x (omega arith)

  pub at_7 : x % 128 ≡ 0 → x < 256 → x ≢ 0 → trailing 8 x ≡ 7
  at_7 e b h = only_7 0 x (omega arith)

pub ruleset lowest = (at_0, at_1, at_2, at_3, at_4, at_5, at_6, at_7, none_of_8)

-- ---- a poll

-- of two numbers whose lowest bits are equal, the second counted in one bit more
same_bit : (n x y : ℕ) → y % 2 ≡ x % 2 → trailing n (y / 2) ≡ min (trailing (suc n) (x / 2)) n → trailing (suc n) y ≡ min (trailing (suc (suc n)) x) (suc n)
unfolding trailing
same_bit n x y e k = rw e (by (eqb (x % 2) 0) (trailing n (y / 2)) (trailing (suc n) (x / 2)) k)
  where
    by : (b : Bool) (t u : ℕ) → t ≡ min u n → cond b (suc t) 0 ≡ min (cond b (suc u) 0) (suc n)
    by true t u q = omega arith
    by false t u q = omega arith

-- what stands above the bits that are counted does not count
low_0 : (y t : ℕ) → trailing 0 y ≡ min t 0
unfolding trailing
low_0 y t = omega arith

low_1 : (x : ℕ) → trailing 1 (x % 2) ≡ min (trailing 2 x) 1
low_1 x = same_bit 0 x (x % 2) (omega arith) (low_0 _ _)

low_2 : (x : ℕ) → trailing 2 (x % 4) ≡ min (trailing 3 x) 2
low_2 x = let h : x % 4 / 2 ≡ x / 2 % 2 = omega arith in same_bit 1 x (x % 4) (omega arith) (ap (trailing 1) h ∙ low_1 (x / 2))

low_3 : (x : ℕ) → trailing 3 (x % 8) ≡ min (trailing 4 x) 3
low_3 x = let h : x % 8 / 2 ≡ x / 2 % 4 = omega arith in same_bit 2 x (x % 8) (omega arith) (ap (trailing 2) h ∙ low_2 (x / 2))

low_4 : (x : ℕ) → trailing 4 (x % 16) ≡ min (trailing 5 x) 4
low_4 x = let h : x % 16 / 2 ≡ x / 2 % 8 = omega arith in same_bit 3 x (x % 16) (omega arith) (ap (trailing 3) h ∙ low_3 (x / 2))

low_5 : (x : ℕ) → trailing 5 (x % 32) ≡ min (trailing 6 x) 5
low_5 x = let h : x % 32 / 2 ≡ x / 2 % 16 = omega arith in same_bit 4 x (x % 32) (omega arith) (ap (trailing 4) h ∙ low_4 (x / 2))

low_6 : (x : ℕ) → trailing 6 (x % 64) ≡ min (trailing 7 x) 6
low_6 x = let h : x % 64 / 2 ≡ x / 2 % 32 = omega arith in same_bit 5 x (x % 64) (omega arith) (ap (trailing 5) h ∙ low_5 (x / 2))

low_7 : (x : ℕ) → trailing 7 (x % 128) ≡ min (trailing 8 x) 7
low_7 x = let h : x % 128 / 2 ≡ x / 2 % 64 = omega arith in same_bit 6 x (x % 128) (omega arith) (ap (trailing 6) h ∙ low_6 (x / 2))

-- ---- the laws

-- from 0 to 8
at_most : (n x : ℕ) → trailing n x ≤ n
unfolding trailing
at_most zero x = omega arith
at_most (suc n) x = by (eqb (x % 2) 0) (trailing n (x / 2)) (at_most n (x / 2))
  where
    by : (b : Bool) (t : ℕ) → t ≤ n → cond b (suc t) 0 ≤ suc n
    by true t h = omega arith
    by false t h = omega arith

-- promise: 2.3 (8 at most), no8.1 (at most 8)
pub most_unanswered : (r : Reach) → unanswered_of r ≤ 8
most_unanswered r = at_most 8 r.0

-- 8 when new
-- promise: 2.3, no8.2
pub never_unanswered : unanswered_of never_of ≡ 8
unfolding trailing
never_unanswered = refl

-- a poll adds one, up to 8
-- promise: 2.3, no8.3
pub polled_unanswered : (r : Reach) → unanswered_of (polled_of r) ≡ min (unanswered_of r + 1) 8
polled_unanswered r =
    let x = r.0 in
    let h : (x * 2) % 256 / 2 ≡ x % 128 = omega arith in
    even 7 ((x * 2) % 256) (min (trailing 8 x) 7) (omega arith) (ap (trailing 7) h ∙ low_7 x) ∙ omega arith

-- an answer leaves none
-- promise: 2.3, no8.4
pub answered_unanswered : (r : Reach) → unanswered_of (answered_of r) ≡ 0
answered_unanswered r = by (eqb (r.0 % 2) 0) refl
  where
    by : (b : Bool) → eqb (r.0 % 2) 0 ≡ b → trailing 8 (cond b (r.0 + 1) r.0) ≡ 0
    by true e = let k = eqb-true (r.0 % 2) 0 e in only_0 7 (r.0 + 1) (omega arith)
    by false e = let k = eqb-false (r.0 % 2) 0 e in only_0 7 r.0 (omega arith)
