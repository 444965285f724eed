-- Laws of the loop that adds an entry's polls to a day's loads.
-- Assumes nothing.
use mathlib.Core.Path.{◌≡◌, sym, subst, ◌∙◌}
use mathlib.Core.List.{List}
use mathlib.Core.Logic.{⊎_elim}
use Prim.Native.Nat.{ℕ, ◌+◌, ◌%◌, ◌≤◌, ◌<◌}
use native.Mathlib.Omega.{arith}
use native.Mathlib.Numerals.{add-one}
use native.Mathlib.Nat.{eq-or-lt_of_le}
use lib.ListN.{length, get_or, set, length-set}
use lib.Seq.{get_or-set_same, get_or-set_other}
use Rattle.words.proofs.Tests.{when, unless}
use Rattle.calendar.specs.Loads.{one_more}
use Rattle.calendar.proofs.Search.{split}
use Rattle.calendar.proofs.Minutes.{next, none_between, polled}

-- the minutes before m have their polls, those from m on are as they were
pub record Adding (start repeat : ℕ) (before after : List ℕ) (m : ℕ) : Type 0 where
  pub long : length after ≡ length before
  pub phase : m % repeat ≡ start
  pub done : (j : ℕ) → j < m → j < 1440 → get_or after j 0 ≡ one_more start repeat before j
  pub ahead : (j : ℕ) → m ≤ j → get_or after j 0 ≡ get_or before j 0

module _ (start repeat : ℕ) (h : start < repeat) (before : List ℕ) where
  module _ (after : List ℕ) (m : ℕ) (i : Adding start repeat before after m) (inside : m < length before) where
    here : get_or (set after m (get_or after m 0 + 1)) m 0 ≡ one_more start repeat before m
    here =
        get_or-set_same after m (get_or after m 0 + 1) 0 (omega (arith, i.long))
        ∙ add-one (get_or after m 0)
        ∙ rw (i.ahead m (omega arith)) (sym (when _ _ (polled start repeat m i.phase)))

    elsewhere : (j : ℕ) → (j ≡ m → ⊥) → get_or (set after m (get_or after m 0 + 1)) j 0 ≡ get_or after j 0
    elsewhere j n = get_or-set_other after m j (get_or after m 0 + 1) 0 n

    pub step : Adding start repeat before (set after m (get_or after m 0 + 1)) (m + repeat)
    step = record {
      long = length-set after m (get_or after m 0 + 1) ∙ i.long;
      phase = next start repeat h m i.phase;
      done = λ j l k.
          ⊎_elim
          (λ a. elsewhere j (λ e. omega arith) ∙ i.done j a k)
          (λ a. ⊎_elim
          (λ e. subst (λ (x : ℕ). get_or (set after m (get_or after m 0 + 1)) x 0 ≡ one_more start repeat before x) e here)
          (λ b. elsewhere j (λ e. omega arith) ∙ i.ahead j a ∙ sym (unless _ _ (none_between start repeat h m j i.phase b l)))
          (eq-or-lt_of_le a))
          (split j m);
      ahead = λ j l. elsewhere j (λ e. omega arith) ∙ i.ahead j (omega arith);
    }
