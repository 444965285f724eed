-- RULES, No. 13: a start fits behind those placed exactly if the check accepts those placed with it.
-- Assumes nothing.
use mathlib.Core.Path.{◌≡◌, refl, sym, ap}
use mathlib.Core.Bool.{true, false, not}
use mathlib.Core.List.{List, [], ◌∷◌, ◌++◌}
use mathlib.Core.Logic.{◌↔◌, ⊎_elim}
use Prim.Native.Nat.{ℕ, zero, suc, ◌%◌, ◌≤◌, ◌<◌}
use native.Mathlib.Omega.{arith}
use native.Mathlib.Nat.{eq-or-lt_of_le}
use borrow.Author.Tests.{ltb-false, le-ltb, eqb-true, eqb-false, not-true, not-false}
use lib.Dec.{eqb}
use lib.ListN.{length, take, length-append, get_or-append}
use lib.Seq.{get_or_at, get_or-take, length-take-le}
use Rattle.std.specs.Prelude.{None, Ok}
use Rattle.words.proofs.Tests.{both}
use Rattle.calendar.specs.Lowest.{is_nothing}
use Rattle.calendar.specs.Calendar.{entries_of, start_of, repeat_of, divides_day, load, over, check_of}
use Rattle.calendar.specs.Plan.{fits}
use Rattle.calendar.specs.Numbers as N
use Rattle.calendar.specs.PlanNumbers as M
use Rattle.calendar.proofs.Search.{nothing, is}
use Rattle.calendar.proofs.Placing.{is_nothing_true}
use Rattle.calendar.proofs.Plans as plans
use Rattle.calendar.proofs.Numbers.{accepts}

-- only the repeats of the entries that count are read
same_repeats : (starts a b : List ℕ) (k m : ℕ) → ((j : ℕ) → j < k → repeat_of a j ≡ repeat_of b j) → load starts a k m ≡ load starts b k m
unfolding load
same_repeats starts a b zero m h = refl
same_repeats starts a b (suc k) m h = rw (h k (omega arith), same_repeats starts a b k m (λ j l. h j (omega arith)))

divided : (n : ℕ) → not (divides_day n) ≡ false → (0 < n) × (1440 % n ≡ 0)
divided n e =
    let p = both (not (eqb n 0)) (eqb (1440 % n) 0) (not-false (divides_day n) e) in
    (positive n (eqb-false n 0 (not-true (eqb n 0) p.0)), eqb-true (1440 % n) 0 p.1)
  where
    positive : (n : ℕ) → (n ≡ 0 → ⊥) → 0 < n
    positive n h = omega arith

module _ (cap : ℕ) (repeats placed : List ℕ) (start : ℕ) (d : M.Divided cap repeats) (p : M.Placed cap repeats placed)
    (more : length placed < length repeats) (early : start < repeat_of repeats (length placed)) where
  -- those placed, with the start, and the repeats of as many entries
  abbrev starts : List ℕ
  starts = placed ++ start ∷ []

  abbrev those : List ℕ
  those = take (suc (length placed)) repeats

  starts_long : length starts ≡ suc (length placed)
  starts_long = omega (arith, length-append placed (start ∷ []))

  those_long : length those ≡ suc (length placed)
  those_long = length-take-le (suc (length placed)) repeats (omega arith)

  count : entries_of starts those ≡ suc (length placed)
  count = omega (arith, starts_long, those_long)

  repeat_is : (k : ℕ) → k < suc (length placed) → repeat_of those k ≡ repeat_of repeats k
  repeat_is k h = get_or-take (suc (length placed)) repeats k 0 h

  load_is : (m : ℕ) → load starts those (suc (length placed)) m ≡ load starts repeats (suc (length placed)) m
  load_is m = same_repeats starts those repeats (suc (length placed)) m repeat_is

  start_is : (k : ℕ) → k < suc (length placed) → start_of starts k < repeat_of repeats k
  start_is k h =
      ⊎_elim
      (λ e. rw (get_or_at placed start [] 1440 k (sym e), e) early)
      (λ l. rw (get_or-append placed (start ∷ []) 1440 k l) (plans.each cap repeats placed p k l).below)
      (eq-or-lt_of_le (before_last (length placed) k h))
    where
      before_last : (n k : ℕ) → k < suc n → k ≤ n
      before_last n k l = omega arith

  fine : ((m : ℕ) → m < 1440 → load starts repeats (suc (length placed)) m ≤ cap) → N.Fine cap starts those
  fine u =
      record {
        few = omega (arith, count, ltb-false 64 (length repeats) d.few);
        divide = λ k l. rw (repeat_is k (rw count at l)) (divided (repeat_of repeats k) (d.divide k (omega (arith, count))));
        early = λ k l. rw (repeat_is k (rw count at l)) (start_is k (rw count at l));
        under = λ m l. rw (count, load_is m) (u m l);
      }

  pub fits_exactly : (fits cap repeats placed start ≡ true) ↔ (check_of cap starts those ≡ Ok tt)
  fits_exactly = (into, from)
    where
      into : fits cap repeats placed start ≡ true → check_of cap starts those ≡ Ok tt
      into e =
          let none = nothing (over cap starts repeats (suc (length placed))) 1440 (is_nothing_true _ e) in
          (accepts cap starts those).1 (fine (λ m l. ltb-false cap (load starts repeats (suc (length placed)) m) (none m l)))

      from : check_of cap starts those ≡ Ok tt → fits cap repeats placed start ≡ true
      from e =
          let f = (accepts cap starts those).0 e in
          ap is_nothing
          (is (over cap starts repeats (suc (length placed))) 1440 None
          (λ m l. le-ltb cap (load starts repeats (suc (length placed)) m) (rw (count, load_is m) at (f.under m l))))
