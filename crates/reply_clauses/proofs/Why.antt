-- RULES, No. 3: each old 3 is exactly one of the new, each new one was a 3, and where a request is live none of them holds.
-- Assumes nothing.
use mathlib.Core.Path.{◌≡◌, refl, sym, ap, ◌∙◌}
use mathlib.Core.Bool.{Bool, true, false, not, ◌&&◌, ◌||◌, false≢true}
use Prim.Native.Nat.{ℕ}
use lib.Dec.{ltb, leb}
use borrow.Author.Tests.{ltb-true, ltb-false, lt-leb, le-leb}
use Rattle.association.specs.declared.Pending.{Pending}
use Rattle.reply_clauses.specs.After.{live, never_sent, already_measured, expired}
use Rattle.reply_clauses.specs.Why.{OnlyOne, first, second, third, ToldApart}

-- of a request that is present or not, answered or not, late or not
one_of : (present answered late : Bool) → (not present || late) ≡ true → OnlyOne (not present && not answered) (not present && answered) (present && late)
one_of true answered true e = third
one_of true answered false e = absurd (false≢true e)
one_of false true late e = second
one_of false false late e = first

was_absent : (present other late : Bool) → (not present && other) ≡ true → (not present || late) ≡ true
was_absent true other late e = absurd (false≢true e)
was_absent false other late e = refl

was_late : (present late : Bool) → (present && late) ≡ true → (not present || late) ≡ true
was_late true late e = e
was_late false late e = refl

-- promise: no3.4
pub told_apart : (q : Pending) (time : ℕ) → ToldApart q time
told_apart q time =
    record {
      exactly_one = one_of q.present q.answered (ltb q.deadline time);
      never_sent_was = was_absent q.present (not q.answered) (ltb q.deadline time);
      already_measured_was = was_absent q.present q.answered (ltb q.deadline time);
      expired_was = was_late q.present (ltb q.deadline time);
    }

-- a deadline is not passed exactly if it is not before now
not_late : (deadline time : ℕ) → leb time deadline ≡ not (ltb deadline time)
not_late deadline time = by (ltb deadline time) refl
  where
    by : (b : Bool) → ltb deadline time ≡ b → leb time deadline ≡ not b
    by true e = lt-leb _ _ (ltb-true deadline time e)
    by false e = le-leb _ _ (ltb-false deadline time e)

-- each of the three is given past those before it
measured_alone : (present answered : Bool) → (not present && answered) ≡ true → (not present && not answered) ≡ false
measured_alone true answered e = refl
measured_alone false answered e = ap not e

pub measured_only : (q : Pending) → already_measured q ≡ true → never_sent q ≡ false
measured_only q e = measured_alone q.present q.answered e

expired_alone : (present answered late : Bool) → (present && late) ≡ true →
    ((not present && not answered) ≡ false) × ((not present && answered) ≡ false)
expired_alone true answered late e = (refl, refl)
expired_alone false answered late e = absurd (false≢true e)

pub expired_only : (q : Pending) (time : ℕ) → expired q time ≡ true → (never_sent q ≡ false) × (already_measured q ≡ false)
expired_only q time e = expired_alone q.present q.answered (ltb q.deadline time) e

-- what the three tests leave is a live request
left_live : (present answered late : Bool) → (not present && not answered) ≡ false → (not present && answered) ≡ false →
    (present && late) ≡ false →
    (present && not late) ≡ true
left_live true answered late e f g = ap not g
left_live false true late e f g = sym f
left_live false false late e f g = sym e

pub passed_live : (q : Pending) (time : ℕ) → never_sent q ≡ false → already_measured q ≡ false → expired q time ≡ false → live q time ≡ true
passed_live q time e f g =
    ap (λ (b : Bool). q.present && b) (not_late q.deadline time) ∙ left_live q.present q.answered (ltb q.deadline time) e f g

-- and where a request is live, each of them is passed
pub record Passed (q : Pending) (time : ℕ) : Type 0 where
  pub sent : never_sent q ≡ false
  pub unmeasured : already_measured q ≡ false
  pub in_time : expired q time ≡ false

live_left : (present answered late : Bool) → (present && not late) ≡ true →
    ((not present && not answered) ≡ false) × ((not present && answered) ≡ false) × ((present && late) ≡ false)
live_left true answered true e = (refl, refl, sym e)
live_left true answered false e = (refl, refl, refl)
live_left false answered late e = absurd (false≢true e)

pub live_passed : (q : Pending) (time : ℕ) → live q time ≡ true → Passed q time
live_passed q time e =
    let k = live_left q.present q.answered (ltb q.deadline time) (ap (λ (b : Bool). q.present && b) (sym (not_late q.deadline time)) ∙ e) in
    record { sent = k.0; unmeasured = k.1; in_time = k.2 }
