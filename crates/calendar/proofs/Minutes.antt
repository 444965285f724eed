-- Laws of the minutes of an entry: the first is its start, and each is followed by the one a repeat later, with none between.
-- Assumes nothing.
use mathlib.Core.Path.{◌≡◌, ◌∙◌}
use mathlib.Core.Bool.{false, true}
use mathlib.Core.Logic.{⊎_elim}
use Prim.Native.Nat.{ℕ, ◌+◌, ◌-◌, ◌%◌, ◌<◌}
use native.Mathlib.Omega.{arith}
use native.Mathlib.Nat.{mod-eq_of_lt, add-mod, add-mod_right, mod-eq-sub-mod}
use borrow.Author.Tests.{eq-eqb, ne_eqb}
use Rattle.calendar.specs.Calendar.{polls}
use Rattle.calendar.proofs.Search.{split}

module _ (start repeat : ℕ) (h : start < repeat) where
  -- promise: no13.2
  pub first : start % repeat ≡ start
  first = mod-eq_of_lt h

  -- promise: no13.2
  pub next : (m : ℕ) → m % repeat ≡ start → (m + repeat) % repeat ≡ start
  next m e = add-mod_right m repeat ∙ e

  -- minute m + d has another remainder than m
  differs : (m d : ℕ) → m % repeat ≡ start → 0 < d → d < repeat → (m + d) % repeat ≡ start → ⊥
  differs m d e a b q =
      let d-is : d % repeat ≡ d = mod-eq_of_lt b in
      let s : (start + d) % repeat ≡ start = rw (add-mod, e, d-is) at q in
      ⊎_elim
      (λ l. let z : (start + d) % repeat ≡ start + d = mod-eq_of_lt l in omega arith)
      (λ l. let y : (start + d) % repeat ≡ (start + d - repeat) % repeat = mod-eq-sub-mod l in
      let z : (start + d - repeat) % repeat ≡ start + d - repeat = mod-eq_of_lt (omega arith) in omega arith)
      (split (start + d) repeat)

  -- promise: no13.2
  pub none_between : (m j : ℕ) → m % repeat ≡ start → m < j → j < m + repeat → polls start repeat j ≡ false
  none_between m j e a b =
      ne_eqb (j % repeat) start
      (λ q. let j-is : j ≡ m + (j - m) = omega arith in differs m (j - m) e (omega arith) (omega arith) (rw j-is at q))

pub polled : (start repeat m : ℕ) → m % repeat ≡ start → polls start repeat m ≡ true
polled start repeat m e = eq-eqb (m % repeat) start e
