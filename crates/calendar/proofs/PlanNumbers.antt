-- Each number of the planner is given exactly under its rule (specs/PlanNumbers.antt).
-- Assumes nothing.
use mathlib.Core.Path.{◌≡◌, refl, ap, subst, ◌∙◌}
use mathlib.Core.List.{List, [], ◌∷◌, ◌++◌}
use mathlib.Core.Logic.{◌↔◌}
use Prim.Native.Nat.{ℕ, zero, suc, ◌+◌, ◌-◌, ◌≤◌, ◌<◌}
use native.Mathlib.Omega.{arith}
use lib.Dec.{ltb}
use lib.ListN.{length, length-append}
use borrow.Author.Tests.{lt-ltb, le-ltb, ltb-true, ltb-false}
use Rattle.std.specs.Prelude.{Some, None, Result}
use Rattle.words.proofs.Tests.{either}
use Rattle.calendar.specs.declared.PlanRefusal.{PlanRefusal}
use Rattle.calendar.specs.Lowest.{NonePasses}
use Rattle.calendar.specs.Calendar.{repeat_of, bad_repeat}
use Rattle.calendar.specs.Plan.{Plan, whole, stuck, fits, earliest_of, plan_from, answer_to, plan_of, plan_number_of}
use Rattle.calendar.specs.PlanNumbers as N
use Rattle.calendar.specs.PlanNumbers.{none, next, too_many, bad_repeat_lem, no_fit, no_room, planned}
use Rattle.calendar.proofs.Search.{is, either_way}
use Rattle.calendar.proofs.Placing.{plan_on, plan_stuck, plan_whole}

one_longer : (placed : List ℕ) (start : ℕ) → length (placed ++ start ∷ []) ≡ length placed + 1
one_longer placed start = length-append placed (start ∷ [])

module _ (cap : ℕ) (repeats : List ℕ) where
  abbrev Placed : List ℕ → Type 0
  Placed = N.Placed cap repeats

  -- ---- a plan goes as the starts are placed

  -- promise: no13.5
  pub along : (n : ℕ) (placed : List ℕ) → Placed placed → length placed ≤ n →
      plan_from cap repeats n [] ≡ plan_from cap repeats (n - length placed) placed
  unfolding earliest_of
  along n [] none l = let z : n - 0 ≡ n = omega arith in rw z
  along n _ (next placed start p f) l =
      let len = one_longer placed start in
      rw len
      (along n placed p (omega arith)
      ∙ plan_on cap repeats placed n (length placed) (omega arith) start (is (fits cap repeats placed) (repeat_of repeats (length placed)) (Some start) f))

  -- what a plan is: all the entries are placed, or those before the one for which none fits
  pub data Made (n : ℕ) : Plan → Type 0 where
    all : (starts : List ℕ) → Placed starts → length starts ≡ n → Made n (whole starts)
    some : (placed : List ℕ) → Placed placed → length placed < n → NonePasses (fits cap repeats placed) (repeat_of repeats (length placed)) →
        Made n (stuck (length placed))

  -- promise: no13.5
  pub made : (j : ℕ) (placed : List ℕ) → Placed placed → Made (length placed + j) (plan_from cap repeats j placed)
  unfolding plan_from earliest_of
  made zero placed p = all placed p (omega arith)
  made (suc j) placed p =
      either_way (Made (length placed + suc j)) (fits cap repeats placed) (repeat_of repeats (length placed))
      (λ start f.
      let e : length (placed ++ start ∷ []) + j ≡ length placed + suc j = omega (arith, one_longer placed start) in
      subst (λ (n : ℕ). Made n (plan_from cap repeats j (placed ++ start ∷ []))) e (made j (placed ++ start ∷ []) (next placed start p f)))
      (λ h. some placed p (omega arith) h)

  pub made_whole : Made (length repeats) (plan_from cap repeats (length repeats) [])
  made_whole = let z : 0 + length repeats ≡ length repeats = omega arith in
      subst (λ (n : ℕ). Made n (plan_from cap repeats (length repeats) [])) z (made (length repeats) [] none)

  module _ (room : ℕ) where
    abbrev Given : ℕ → Result (Unit {0}) PlanRefusal → Type 0
    Given = N.Given cap repeats room

    abbrev Told : Result (Unit {0}) PlanRefusal → Type 0
    Told r = Given (plan_number_of r) r

    placed_told : N.Divided cap repeats → (p : Plan) → Made (length repeats) p → Told (answer_to p room)
    placed_told d _ (all starts p e) =
        either Told (ltb room (length starts))
        (λ h. no_room starts d p e (omega (arith, ltb-true room (length starts) h)))
        (λ h. planned starts d p e (omega (arith, ltb-false room (length starts) h)))
    placed_told d _ (some placed p l h) = no_fit placed d p l h

    -- what is given is given under the rule of its number
    -- promise: no13.6
    pub given : Told (plan_of cap repeats room)
    unfolding plan_of
    given =
        either Told (ltb 64 (length repeats)) too_many
        (λ f. either_way Told (bad_repeat repeats) (length repeats) (λ k b. bad_repeat_lem k f b)
        (λ b. placed_told (record { few = f; divide = b }) (plan_from cap repeats (length repeats) []) made_whole))

    pub whole_plan : (starts : List ℕ) → Placed starts → length starts ≡ length repeats → plan_from cap repeats (length repeats) [] ≡ whole starts
    whole_plan starts p e = along (length repeats) starts p (omega arith) ∙ plan_whole cap repeats starts (length repeats) (length starts) (omega arith)

    -- where a number's rule holds, that rule's answer is given
    -- promise: no13.6
    pub only : {n : ℕ} {r : Result (Unit {0}) PlanRefusal} → Given n r → plan_of cap repeats room ≡ r
    unfolding plan_of earliest_of
    only (too_many h) = rw h
    only (bad_repeat_lem k f b) = rw (f, is (bad_repeat repeats) (length repeats) (Some k) b)
    only (no_fit placed d p l h) =
        rw (
          d.few,
          is (bad_repeat repeats) (length repeats) None d.divide,
          along (length repeats) placed p (omega arith)
              ∙ plan_stuck cap repeats placed (length repeats) (length placed) l (is (fits cap repeats placed) (repeat_of repeats (length placed)) None h),
        )
    only (no_room starts d p e l) =
        rw (d.few, is (bad_repeat repeats) (length repeats) None d.divide, whole_plan starts p e, lt-ltb room (length starts) (omega arith))
    only (planned starts d p e l) =
        rw (d.few, is (bad_repeat repeats) (length repeats) None d.divide, whole_plan starts p e, le-ltb room (length starts) (omega arith))

    numbered : {n : ℕ} {r : Result (Unit {0}) PlanRefusal} → Given n r → plan_number_of r ≡ n
    numbered (too_many h) = refl
    numbered (bad_repeat_lem k f b) = refl
    numbered (no_fit placed d p l h) = refl
    numbered (no_room starts d p e l) = refl
    numbered (planned starts d p e l) = refl

    -- so a number is given if and only if its rule holds
    -- promise: no13.6
    pub number : (n : ℕ) → (plan_number_of (plan_of cap repeats room) ≡ n) ↔ ((r : Result (Unit {0}) PlanRefusal) × Given n r)
    number n = (
      λ e. (plan_of cap repeats room, subst (λ (k : ℕ). Given k (plan_of cap repeats room)) e given),
      λ g. ap plan_number_of (only g.1) ∙ numbered g.1,
    )
