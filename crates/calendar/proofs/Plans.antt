-- What the planner promises: what it gives is accepted by the check, its 80 and 81 are the check's, and where it refuses nothing is written.
-- The example of RULES' words "even where another plan exists" is computed.
-- Assumes nothing.
use mathlib.Core.Path.{◌≡◌, refl, sym, subst}
use mathlib.Core.Bool.{true, false}
use mathlib.Core.List.{List, [], ◌∷◌, ◌++◌}
use mathlib.Core.Logic.{◌↔◌, ⊎_elim}
use Prim.Native.Nat.{ℕ, suc, ◌+◌, ◌≤◌, ◌<◌}
use native.Mathlib.Omega.{arith}
use native.Mathlib.Nat.{eq-or-lt_of_le}
use lib.Dec.{ltb}
use lib.ListN.{length, take, drop, get_or-append, get_or-eq_default, length-append}
use lib.Seq.{get_or_at, take_at, take-append-le}
use borrow.Author.Tests.{le-ltb, lt-leb}
use Rattle.std.specs.Prelude.{Result, Ok, Err}
use Rattle.calendar.specs.declared.CheckRefusal.{CheckRefusal}
use Rattle.calendar.specs.declared.CheckRefusal.TheVariants as C
use Rattle.calendar.specs.declared.PlanRefusal.{PlanRefusal}
use Rattle.calendar.specs.declared.PlanRefusal.TheVariants as P
use Rattle.calendar.specs.Lowest.{NonePasses, First}
use Rattle.calendar.specs.Calendar.{entries_of, start_of, repeat_of, bad_repeat, load, over, check_of}
use Rattle.calendar.specs.Plan.{fits, plan_from, plan_of, left_in, starts_in, buffer_of, plan_number_of}
use Rattle.calendar.specs.Numbers as N
use Rattle.calendar.specs.PlanNumbers as M
use Rattle.calendar.specs.PlanNumbers.{none, next}
use Rattle.calendar.proofs.Search.{split, nothing}
use Rattle.calendar.proofs.Repeats.{not_long}
use Rattle.calendar.proofs.Placing.{is_nothing_true}
use Rattle.calendar.proofs.Numbers as check
use Rattle.calendar.proofs.PlanNumbers as plan

no_polls : (cap : ℕ) (repeats : List ℕ) (m : ℕ) → over cap [] repeats 0 m ≡ false
unfolding load
no_polls cap repeats m = le-ltb cap 0 (omega arith)

module _ (cap : ℕ) (repeats : List ℕ) where
  -- ---- each start is below its repeat and the earliest that fits behind those before, and no minute is over the cap

  before_last : (n k : ℕ) → k < n + 1 → k ≤ n
  before_last n k l = omega arith

  -- promise: no13.5
  pub each : (starts : List ℕ) → M.Placed cap repeats starts → (k : ℕ) → k < length starts →
      First (fits cap repeats (take k starts)) (repeat_of repeats k) (start_of starts k)
  each [] none k l = absurd (omega arith)
  each _ (next placed start p f) k l =
      ⊎_elim
      (λ e.
      let s : start_of (placed ++ start ∷ []) k ≡ start = get_or_at placed start [] 1440 k (sym e) in
      let t : take k (placed ++ start ∷ []) ≡ placed = take_at placed (start ∷ []) k (sym e) in
      rw (s, t, e) f)
      (λ h.
      let s : start_of (placed ++ start ∷ []) k ≡ start_of placed k = get_or-append placed (start ∷ []) 1440 k h in
      let t : take k (placed ++ start ∷ []) ≡ take k placed = take-append-le k placed (start ∷ []) (omega arith) in
      rw (s, t) (each placed p k h))
      (eq-or-lt_of_le (before_last (length placed) k (rw length-append at l)))

  pub under : (starts : List ℕ) → M.Placed cap repeats starts → NonePasses (over cap starts repeats (length starts)) 1440
  under [] none m l = no_polls cap repeats m
  under _ (next placed start p f) m l =
      let e : length (placed ++ start ∷ []) ≡ suc (length placed) = omega (arith, length-append placed (start ∷ [])) in
      rw e (nothing (over cap (placed ++ start ∷ []) repeats (suc (length placed))) 1440 (is_nothing_true _ f.passes) m l)

  pub accepted_plan : (starts : List ℕ) → M.Divided cap repeats → M.Placed cap repeats starts → length starts ≡ length repeats →
      check_of cap starts repeats ≡ Ok tt
  accepted_plan starts d p e =
      let n : entries_of starts repeats ≡ length repeats = omega arith in
      check.only cap starts repeats
      (N.accepted
      (record {
        divided = record { few = rw n d.few; divide = rw n d.divide };
        early = rw n (λ k l. lt-leb (repeat_of repeats k) (start_of starts k) (each starts p k (omega arith)).below);
      })
      (rw (n, sym e) (under starts p)))

  -- ---- over the buffer that the planner leaves

  -- a plan that is given: the starts of all entries
  pub record Whole : Type 0 where
    pub starts : List ℕ
    pub divided : M.Divided cap repeats
    pub placed : M.Placed cap repeats starts
    pub long : length starts ≡ length repeats

  module _ (out : List ℕ) where
    whole_of : {n : ℕ} {r : Result (Unit {0}) PlanRefusal} → M.Given cap repeats (length out) n r → r ≡ Ok tt → Whole
    whole_of (M.planned starts d p e l) q = record { starts = starts; divided = d; placed = p; long = e }
    whole_of (M.too_many h) q = cc
    whole_of (M.bad_repeat_lem k f b) q = cc
    whole_of (M.no_fit placed d p l h) q = cc
    whole_of (M.no_room starts d p e l) q = cc

    module _ (e : plan_of cap repeats (length out) ≡ Ok tt) where
      pub plan_given : Whole
      plan_given = whole_of (plan.given cap repeats (length out)) e

      buffer_is : buffer_of cap repeats out ≡ plan_given.starts ++ drop (length plan_given.starts) out
      unfolding buffer_of
      buffer_is = rw (e, plan.whole_plan cap repeats (length out) plan_given.starts plan_given.placed plan_given.long)

      -- THE LAW: what it gives is accepted
      -- promise: no13.8
      pub given_is_accepted : check_of cap (take (length repeats) (buffer_of cap repeats out)) repeats ≡ Ok tt
      given_is_accepted =
          let w = plan_given in
          let t : take (length repeats) (buffer_of cap repeats out) ≡ w.starts =
          rw buffer_is (take_at w.starts (drop (length w.starts) out) (length repeats) w.long) in
          rw t (accepted_plan w.starts w.divided w.placed w.long)

    -- where it refuses, nothing is written
    -- promise: no13.9
    pub refused_untouched : (plan_number_of (plan_of cap repeats (length out)) ≡ 0 → ⊥) → buffer_of cap repeats out ≡ out
    unfolding buffer_of
    refused_untouched h = go (plan_of cap repeats (length out)) h
      where
        go : (r : Result (Unit {0}) PlanRefusal) → (plan_number_of r ≡ 0 → ⊥)
            → left_in (starts_in (plan_from cap repeats (length repeats) [])) out r ≡ out
        go (Ok tt) h = absurd (h refl)
        go (Err e) h = refl

  -- ---- 80 and 81 are the check's, whatever starts stand beside the repeats

  module _ (starts : List ℕ) (same : length starts ≡ length repeats) (room : ℕ) where
    count : entries_of starts repeats ≡ length repeats
    count = omega arith

    check_80 : {n : ℕ} {r : Result (Unit {0}) CheckRefusal} → N.Given cap starts repeats n r → r ≡ Err C.TooMany → ltb 64 (length repeats) ≡ true
    check_80 (N.too_many h) q = rw count at h
    check_80 (N.bad_repeat_lem k f b) q = cc
    check_80 (N.late_start_lem k d l) q = cc
    check_80 (N.over_cap m e o) q = cc
    check_80 (N.accepted e o) q = cc

    plan_80 : {n : ℕ} {r : Result (Unit {0}) PlanRefusal} → M.Given cap repeats room n r → r ≡ Err P.TooMany → ltb 64 (length repeats) ≡ true
    plan_80 (M.too_many h) q = h
    plan_80 (M.bad_repeat_lem k f b) q = cc
    plan_80 (M.no_fit placed d p l h) q = cc
    plan_80 (M.no_room starts d p e l) q = cc
    plan_80 (M.planned starts d p e l) q = cc

    -- promise: no13.6
    pub same_80 : (check_of cap starts repeats ≡ Err C.TooMany) ↔ (plan_of cap repeats room ≡ Err P.TooMany)
    same_80 = (
      λ e. plan.only cap repeats room (M.too_many (check_80 (check.given cap starts repeats) e)),
      λ e. check.only cap starts repeats (N.too_many (rw count (plan_80 (plan.given cap repeats room) e))),
    )

    abbrev Bad : ℕ → Type 0
    Bad k = (ltb 64 (length repeats) ≡ false) × First (bad_repeat repeats) (length repeats) k

    check_81 : (k : ℕ) {n : ℕ} {r : Result (Unit {0}) CheckRefusal} → N.Given cap starts repeats n r → r ≡ Err (C.BadRepeat k) → Bad k
    check_81 k (N.bad_repeat_lem j f b) q = let s : j ≡ k = cc in subst Bad s (rw count at f, rw count at b)
    check_81 k (N.too_many h) q = cc
    check_81 k (N.late_start_lem j d l) q = cc
    check_81 k (N.over_cap m e o) q = cc
    check_81 k (N.accepted e o) q = cc

    plan_81 : (k : ℕ) {n : ℕ} {r : Result (Unit {0}) PlanRefusal} → M.Given cap repeats room n r → r ≡ Err (P.BadRepeat k) → Bad k
    plan_81 k (M.bad_repeat_lem j f b) q = let s : j ≡ k = cc in subst Bad s (f, b)
    plan_81 k (M.too_many h) q = cc
    plan_81 k (M.no_fit placed d p l h) q = cc
    plan_81 k (M.no_room starts d p e l) q = cc
    plan_81 k (M.planned starts d p e l) q = cc

    -- promise: no13.6
    pub same_81 : (k : ℕ) → (check_of cap starts repeats ≡ Err (C.BadRepeat k)) ↔ (plan_of cap repeats room ≡ Err (P.BadRepeat k))
    same_81 k = (
      λ e. let b = check_81 k (check.given cap starts repeats) e in plan.only cap repeats room (M.bad_repeat_lem k b.0 b.1),
      λ e. let b = plan_81 k (plan.given cap repeats room) e in check.only cap starts repeats (N.bad_repeat_lem k (rw count b.0) (rw count b.1)),
    )

-- ---- lists of unequal length are never accepted
-- promise: no13.1 (lists of unequal length are never accepted)
pub unequal : (cap : ℕ) (starts repeats : List ℕ) → check_of cap starts repeats ≡ Ok tt → length starts ≡ length repeats
unequal cap starts repeats e =
    let f = (check.accepts cap starts repeats).0 e in
    ⊎_elim
    (λ l.
    let k = length starts in
    let s : start_of starts k ≡ 1440 = get_or-eq_default starts 1440 {n = k} (omega arith) in
    let r = not_long (repeat_of repeats k) (f.divide k (omega arith)).0 (f.divide k (omega arith)).1 in
    absurd (omega (arith, f.early k (omega arith))))
    (λ l. ⊎_elim
    (λ q. sym q)
    (λ q.
    let k = length repeats in
    let r : repeat_of repeats k ≡ 0 = get_or-eq_default repeats 0 {n = k} (omega arith) in
    absurd (omega (arith, f.early k (omega arith))))
    (eq-or-lt_of_le l))
    (split (length starts) (length repeats))
