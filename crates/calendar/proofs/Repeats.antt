-- Laws of an entry: a repeat that is not refused is a number of minutes from 1 to 1440; a day that nothing was added to has no polls.
-- Assumes nothing.
use mathlib.Core.Path.{◌≡◌, refl}
use mathlib.Core.Bool.{true, false, not}
use mathlib.Core.Logic.{⊎_elim}
use Prim.Native.Nat.{ℕ, zero, suc, ◌%◌, ◌≤◌, ◌<◌}
use native.Mathlib.Omega.{arith}
use native.Mathlib.Nat.{mod-eq_of_lt, eq-zero-or-pos}
use lib.Dec.{eqb}
use lib.ListN.{get_or, replicate}
use borrow.Author.Tests.{eqb-true, eqb-false, not-true, not-false}
use Rattle.words.proofs.Tests.{both}
use Rattle.calendar.specs.Calendar.{divides_day}
use Rattle.calendar.proofs.Search.{split}

pub zero_at : (n m : ℕ) → ◌≡◌ {A = ℕ} (get_or (replicate n 0) m 0) 0
zero_at zero m = refl
zero_at (suc n) zero = refl
zero_at (suc n) (suc m) = zero_at n m

-- what it is for a repeat to divide the day
pub divides : (repeat : ℕ) → divides_day repeat ≡ true → (0 < repeat) × (1440 % repeat ≡ 0)
divides repeat e =
    let b = both (not (eqb repeat 0)) (eqb (1440 % repeat) 0) e in (
      ⊎_elim (λ z. absurd (eqb-false repeat 0 (not-true (eqb repeat 0) b.0) z)) (λ l. l) (eq-zero-or-pos repeat),
      eqb-true (1440 % repeat) 0 b.1,
    )

no_rest : (x : ℕ) → x ≡ 0 → x ≡ 1440 → ⊥
no_rest x a b = omega arith

pub not_long : (repeat : ℕ) → 0 < repeat → 1440 % repeat ≡ 0 → repeat ≤ 1440
not_long repeat p e = ⊎_elim (λ l. absurd (no_rest (1440 % repeat) e (mod-eq_of_lt l))) (λ l. l) (split 1440 repeat)

pub good : (repeat : ℕ) → not (divides_day repeat) ≡ false → (0 < repeat) × (repeat ≤ 1440)
good repeat e = let d = divides repeat (not-false (divides_day repeat) e) in (d.0, not_long repeat d.0 d.1)

pub not_zero : (n : ℕ) → 0 < n → n ≡ 0 → ⊥
not_zero n l z = omega arith
