-- Each public function's contract determines its result and what it leaves in the lent buffer: any two that it allows are equal.
-- Assumes nothing.
use mathlib.Core.Path.{◌∙◌, sym}
use Rattle.words.specs.Determined.{Determined, DeterminedLent}
use Rattle.calendar.proofs.CheckRefusalRefusal.number.Reads as checknumber
use Rattle.calendar.proofs.PlanRefusalRefusal.number.Reads as plannumber
use Rattle.calendar.proofs.check.Reads as check
use Rattle.calendar.proofs.plan.Reads as plan

pub check_number_determined : Determined checknumber.Post
check_number_determined κs a y z e f p q = p ∙ sym q

pub plan_number_determined : Determined plannumber.Post
plan_number_determined κs a y z e f p q = p ∙ sym q

pub check_determined : Determined check.Post
check_determined κs a y z e f p q = p ∙ sym q

pub plan_determined : DeterminedLent plan.Post (λ κs e. e.1.1.0.now)
plan_determined κs a y z e f p q = (p.0 ∙ sym q.0, p.1 ∙ sym q.1)
