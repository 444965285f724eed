-- Laws of the loop that asks whether each minute of an entry takes one poll more.
-- Assumes nothing.
use mathlib.Core.Path.{◌≡◌, ap, ◌∙◌, subst}
use mathlib.Core.Bool.{true, false}
use mathlib.Core.List.{List}
use mathlib.Core.Logic.{⊎_elim}
use Prim.Native.Nat.{ℕ, ◌+◌, ◌%◌, ◌≤◌, ◌<◌}
use native.Mathlib.Omega.{arith}
use native.Mathlib.Nat.{eq-or-lt_of_le}
use lib.Dec.{leb}
use lib.ListN.{get_or}
use borrow.Author.Tests.{le-leb, lt-leb}
use Rattle.std.specs.Prelude.{Some, None}
use Rattle.words.proofs.Tests.{passes, fails}
use Rattle.calendar.specs.Lowest.{NonePasses, is_nothing}
use Rattle.calendar.specs.Loads.{taken, free}
use Rattle.calendar.proofs.Search.{split, is}
use Rattle.calendar.proofs.Minutes.{next, none_between, polled}

-- m is a minute of the entry, or the one behind its last, and none before it is taken
pub record Passing (cap : ℕ) (loads : List ℕ) (start repeat m : ℕ) : Type 0 where
  pub phase : m % repeat ≡ start
  pub clear : NonePasses (taken cap loads start repeat) m

module _ (cap : ℕ) (loads : List ℕ) (start repeat : ℕ) (h : start < repeat) where
  module _ (m : ℕ) (i : Passing cap loads start repeat m) where
    taken_here : taken cap loads start repeat m ≡ leb cap (get_or loads m 0)
    taken_here = passes (leb cap (get_or loads m 0)) (polled start repeat m i.phase)

    pub step : get_or loads m 0 < cap → Passing cap loads start repeat (m + repeat)
    step q = record {
      phase = next start repeat h m i.phase;
      clear = λ j l.
          ⊎_elim (λ a. i.clear j a)
          (λ a. ⊎_elim
          (λ e. subst (λ (x : ℕ). taken cap loads start repeat x ≡ false) e (taken_here ∙ lt-leb cap (get_or loads m 0) q))
          (λ b. fails (leb cap (get_or loads j 0)) (none_between start repeat h m j i.phase b l))
          (eq-or-lt_of_le a))
          (split j m);
    }

    pub is_taken : cap ≤ get_or loads m 0 → m < 1440 → free cap loads repeat start ≡ false
    is_taken q l =
        ap is_nothing
        (is (taken cap loads start repeat) 1440 (Some m) (record { below = l; passes = taken_here ∙ le-leb cap (get_or loads m 0) q; first = i.clear }))

    pub is_free : 1440 ≤ m → free cap loads repeat start ≡ true
    is_free l = ap is_nothing (is (taken cap loads start repeat) 1440 None (λ j k. i.clear j (omega arith)))
