-- Each number of the check is given exactly under its rule (specs/Numbers.antt), and a calendar is accepted exactly if it is as RULES has it.
-- Assumes nothing.
use mathlib.Core.Path.{◌≡◌, refl, ap, subst, ◌∙◌}
use mathlib.Core.Bool.{not}
use mathlib.Core.List.{List}
use mathlib.Core.Logic.{◌↔◌}
use Prim.Native.Nat.{ℕ}
use lib.Dec.{ltb}
use borrow.Author.Tests.{ltb-false, leb-false, le-ltb, lt-leb, eq-eqb, ne_eqb, not-false}
use Rattle.std.specs.Prelude.{Some, None, Result, Ok}
use Rattle.words.proofs.Tests.{either, passes}
use Rattle.calendar.specs.declared.CheckRefusal.{CheckRefusal}
use Rattle.calendar.specs.Calendar.{entries_of, repeat_of, start_of, divides_day, bad_repeat, late_start, load, over, check_of, number_of}
use Rattle.calendar.specs.Numbers as N
use Rattle.calendar.specs.Numbers.{too_many, bad_repeat_lem, late_start_lem, over_cap, accepted}
use Rattle.calendar.proofs.Search.{is, either_way}
use Rattle.calendar.proofs.Repeats.{divides, not_zero}

module _ (cap : ℕ) (starts repeats : List ℕ) where
  abbrev Given : ℕ → Result (Unit {0}) CheckRefusal → Type 0
  Given = N.Given cap starts repeats

  abbrev Told : Result (Unit {0}) CheckRefusal → Type 0
  Told r = Given (number_of r) r

  -- what is given is given under the rule of its number
  -- promise: no13.3
  pub given : Told (check_of cap starts repeats)
  unfolding check_of
  given =
      either Told (ltb 64 (entries_of starts repeats)) too_many
      (λ f. either_way Told (bad_repeat repeats) (entries_of starts repeats) (λ k b. bad_repeat_lem k f b)
      (λ b. let d : N.Divided cap starts repeats = record { few = f; divide = b } in
      either_way Told (late_start starts repeats) (entries_of starts repeats) (λ k l. late_start_lem k d l)
      (λ l. let e : N.Early cap starts repeats = record { divided = d; early = l } in
      either_way Told (over cap starts repeats (entries_of starts repeats)) 1440 (λ m o. over_cap m e o) (λ o. accepted e o))))

  -- where a number's rule holds, that rule's answer is given
  -- promise: no13.3
  pub only : {n : ℕ} {r : Result (Unit {0}) CheckRefusal} → Given n r → check_of cap starts repeats ≡ r
  unfolding check_of
  only (too_many h) = rw h
  only (bad_repeat_lem k f b) = rw (f, is (bad_repeat repeats) (entries_of starts repeats) (Some k) b)
  only (late_start_lem k d l) = rw (
    d.few,
    is (bad_repeat repeats) (entries_of starts repeats) None d.divide,
    is (late_start starts repeats)
        (entries_of starts repeats) (Some k) l,
  )
  only (over_cap m e o) =
      rw (
        e.divided.few,
        is (bad_repeat repeats) (entries_of starts repeats) None e.divided.divide,
        is (late_start starts repeats) (entries_of starts repeats) None e.early,
        is (over cap starts repeats (entries_of starts repeats)) 1440 (Some m) o,
      )
  only (accepted e o) =
      rw (
        e.divided.few,
        is (bad_repeat repeats) (entries_of starts repeats) None e.divided.divide,
        is (late_start starts repeats) (entries_of starts repeats) None e.early,
        is (over cap starts repeats (entries_of starts repeats)) 1440 None o,
      )

  numbered : {n : ℕ} {r : Result (Unit {0}) CheckRefusal} → Given n r → number_of r ≡ n
  numbered (too_many h) = refl
  numbered (bad_repeat_lem k f b) = refl
  numbered (late_start_lem k d l) = refl
  numbered (over_cap m e o) = refl
  numbered (accepted e o) = refl

  -- so a number is given if and only if its rule holds
  -- promise: no13.3
  pub number : (n : ℕ) → (number_of (check_of cap starts repeats) ≡ n) ↔ ((r : Result (Unit {0}) CheckRefusal) × Given n r)
  number n = (
    λ e. (check_of cap starts repeats, subst (λ (k : ℕ). Given k (check_of cap starts repeats)) e given),
    λ g. ap number_of (only g.1) ∙ numbered g.1,
  )

  -- ---- accepted exactly if up to 64 entries, each repeat dividing 1440, each start below its repeat, no minute with more polls than the cap

  fine_of : {n : ℕ} {r : Result (Unit {0}) CheckRefusal} → Given n r → r ≡ Ok tt → N.Fine cap starts repeats
  fine_of (accepted e o) q = record {
    few = ltb-false 64 (entries_of starts repeats) e.divided.few;
    divide = λ k l. divides (repeat_of repeats k) (not-false (divides_day (repeat_of repeats k)) (e.divided.divide k l));
    early = λ k l. leb-false (repeat_of repeats k) (start_of starts k) (e.early k l);
    under = λ m l. ltb-false cap (load starts repeats (entries_of starts repeats) m) (o m l);
  }
  fine_of (too_many h) q = cc
  fine_of (bad_repeat_lem k f b) q = cc
  fine_of (late_start_lem k d l) q = cc
  fine_of (over_cap m e o) q = cc

  of_fine : N.Fine cap starts repeats → Given 0 (Ok tt)
  of_fine f =
      accepted
      (record {
        divided = record {
          few = le-ltb 64 (entries_of starts repeats) f.few;
          divide = λ k l.
              let d = f.divide k l in
              ap not (passes _ (ap not (ne_eqb (repeat_of repeats k) 0 (λ z. not_zero (repeat_of repeats k) d.0 z))) ∙ eq-eqb _ 0 d.1);
        };
        early = λ k l. lt-leb (repeat_of repeats k) (start_of starts k) (f.early k l);
      })
      (λ m l. le-ltb cap (load starts repeats (entries_of starts repeats) m) (f.under m l))

  -- promise: no13.4
  pub accepts : (check_of cap starts repeats ≡ Ok tt) ↔ N.Fine cap starts repeats
  accepts = (λ e. fine_of given e, λ f. only (of_fine f))
