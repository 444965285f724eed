-- Laws of a day's loads: they have the polls of the first k entries, minute by minute, and an entry more makes them those of k + 1.
-- Assumes nothing.
use mathlib.Core.Path.{◌≡◌, ◌∙◌}
use mathlib.Core.List.{List}
use mathlib.Core.Logic.{⊎_elim}
use Prim.Native.Nat.{ℕ, zero, suc, ◌+◌, ◌≤◌, ◌<◌}
use native.Mathlib.Omega.{arith}
use native.Mathlib.Numerals.{add-one}
use lib.ListN.{length, get_or, get_or-eq_default}
use Rattle.words.proofs.Tests.{either}
use Rattle.calendar.specs.Calendar.{start_of, repeat_of, polls, load}
use Rattle.calendar.specs.Loads.{one_more}
use Rattle.calendar.proofs.Search.{split}

pub record Loaded (starts repeats loads : List ℕ) (k : ℕ) : Type 0 where
  pub long : length loads ≡ 1440
  pub counted : (m : ℕ) → m < 1440 → get_or loads m 0 ≡ load starts repeats k m

-- no more polls than entries
pub at_most : (starts repeats : List ℕ) (k m : ℕ) → load starts repeats k m ≤ k
unfolding load
at_most starts repeats zero m = omega arith
at_most starts repeats (suc k) m =
    let h = at_most starts repeats k m in
    either (λ x. x ≤ suc k) (polls (start_of starts k) (repeat_of repeats k) m) (λ e. omega arith) (λ e. omega arith)

module _ (starts repeats loads : List ℕ) where
  pub of_none : length loads ≡ 1440 → ((m : ℕ) → get_or loads m 0 ≡ 0) → Loaded starts repeats loads 0
  unfolding load
  of_none e h = record { long = e; counted = λ m l. h m }

  module _ (k : ℕ) (i : Loaded starts repeats loads k) where
    -- so there is room for a poll more in a byte
    pub small : k < 255 → (m : ℕ) → get_or loads m 0 < 255
    small q m =
        ⊎_elim (λ l. omega (arith, i.counted m l, at_most starts repeats k m))
        (λ l. omega (arith, get_or-eq_default loads 0 {n = m} (omega (arith, i.long))))
        (split m 1440)

    pub of_more : (start repeat : ℕ) → start ≡ start_of starts k → repeat ≡ repeat_of repeats k → (after : List ℕ)
        → length after ≡ length loads
        → ((m : ℕ) → m < 1440 → get_or after m 0 ≡ one_more start repeat loads m) → Loaded starts repeats after (k + 1)
    unfolding load
    of_more start repeat s r after e h = record { long = e ∙ i.long; counted = λ m l. h m l ∙ rw (i.counted m l, s, r, add-one) }
