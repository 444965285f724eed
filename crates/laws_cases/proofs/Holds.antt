-- Every claim of the starred table holds, a line for each row: each is computed from the definitions; the nine cookies are any nine, and the calls any that
-- come so far.
-- Assumes nothing.
use mathlib.Core.Path.{◌≡◌, refl, sym, ◌∙◌}
use mathlib.Core.Bool.{Bool, true, false, cond}
use Prim.Native.Nat.{ℕ, min, ◌-◌, ◌^◌}
use lib.Dec.{eqb}
use lib.IntN.{pos}
use borrow.Author.Tests.{eqb-true}
use Rattle.reach.specs.Register.{trailing}
use Rattle.cookiestash.proofs.Cookies.{nine, nine_in_four}
use Rattle.association.specs.Record.{no_pending}
use Rattle.timer_rules.specs.declared.TimerAnswer.TheVariants.{CookieTooLarge}
use Rattle.timer_rules.specs.declared.Decision.{Decision}
use Rattle.timer_rules.specs.Answer.{number_of}
use Rattle.timer_rules.specs.Poll.{asked_of, tried_of, pending_of}
use Rattle.timer_rules.specs.Decide.{decide_nts, decide_of}
use Rattle.reply_rules.specs.Judge.{judge_of}
use Rattle.laws_cases.specs.All.{All, end, ◌&◌}
use Rattle.laws_cases.specs.Table.{asked_by, asks, live_at, late_at, unasked, measured, Right, table}

-- where nothing is asked for, one decision, and else another
chosen : (asked : ℕ) (x y : Decision) → (number_of x.answer ≡ 24) × (asked_by x.answer ≡ 0) → (number_of y.answer ≡ 20) × (asked_by y.answer ≡ asked) →
    (number_of (cond (eqb asked 0) x y).answer ≡ cond (eqb asked 0) 24 20) × (asked_by (cond (eqb asked 0) x y).answer ≡ asked)
chosen asked x y p q = by (eqb asked 0) refl
  where
    by : (t : Bool) → eqb asked 0 ≡ t → (number_of (cond t x y).answer ≡ cond t 24 20) × (asked_by (cond t x y).answer ≡ asked)
    by true e = (p.0, p.1 ∙ sym (eqb-true asked 0 e))
    by false e = q

-- a timer that takes a cookie, whatever else it is given
asking : (gap len : ℕ) → let asked = asked_of (min gap 8) len in Right (asks gap len (cond (eqb asked 0) 24 20) asked)
unfolding decide_of decide_nts
asking gap len g s v i room k =
    rw (k.whole, k.roomy, k.going, k.nts, k.gap_is, k.oldest_is)
    (chosen (asked_of (min gap 8) len) (record { answer = CookieTooLarge; state = tried_of s; takes = true }) _ (refl, refl) (refl, refl))

-- a reply, whatever else it says
in_time : Right (live_at 1000 5000 6000)
unfolding pending_of
in_time nts i e = rw e

too_late : Right (late_at 1000 5000 6001 14)
unfolding pending_of judge_of
too_late g s i r t h e q w = rw (h.listed, h.expected, q, w, e)

nothing_asked : (answered : Bool) → Right (unasked answered (cond answered 13 12))
unfolding no_pending judge_of
nothing_asked true g s r t h q = rw (h.listed, h.expected, q)
nothing_asked false g s r t h q = rw (h.listed, h.expected, q)

over_the_era : Right (measured (2 ^ 64 - 4) 2 4 6 (pos 8) (pos 2) 1)
over_the_era = (refl, refl, refl)

pub table_holds : All Right table
unfolding trailing
table_holds =
    nine
    & nine_in_four
    & refl
    & refl
    & refl
    & asking 8 724
    & asking 8 725
    & asking 8 90
    & asking 8 91
    & asking 1 0
    & in_time
    & too_late
    & nothing_asked false
    & nothing_asked true
    & refl
    & refl
    & refl
    & refl
    & refl
    & over_the_era
    & refl
    & refl
    & refl
    & end
