-- The numbers that are told are those of the calls behind them, and a refusal leaves the buffer as it was.
-- Assumes nothing.
use mathlib.Core.Path.{◌≡◌, refl, sym, ◌∙◌}
use mathlib.Core.List.{List}
use Prim.Native.Nat.{ℕ}
use lib.ListN.{length}
use Rattle.std.specs.Prelude.{Result, Ok, Err}
use Rattle.calendar.specs.declared.CheckRefusal.{CheckRefusal}
use Rattle.calendar.specs.declared.CheckRefusal.TheVariants as C
use Rattle.calendar.specs.declared.PlanRefusal.{PlanRefusal}
use Rattle.calendar.specs.declared.PlanRefusal.TheVariants as P
use Rattle.salvage.specs.declared.Salvaged.{Salvaged}
use Rattle.salvage.specs.declared.SalvageRefusal.{SalvageRefusal}
use Rattle.salvage.specs.declared.SalvageRefusal.TheVariants as S
use Rattle.calendar.specs.Calendar.{number_of}
use Rattle.calendar.specs.Plan as plan
use Rattle.calendar.proofs.Plans.{refused_untouched}
use Rattle.handover_compare.specs.declared.CompareRefusal.{CompareRefusal}
use Rattle.handover_compare.specs.declared.CompareRefusal.TheVariants.{WrongMark, WrongLength, NoAssociation, ShortBuffer}
use Rattle.handover_compare.specs.Answer.{compare_number}
use Rattle.salvage.specs.Salvage as salvage
use Rattle.salvage.proofs.Answers.{refused_exactly, refused_buffer}
use Rattle.exports_values.specs.Told.{salvaged_as, checked_as, planned_as, compared_as}

-- ---- the numbers

-- promise: exports.11
pub salvage_number : (r : Result Salvaged SalvageRefusal) → (salvaged_as r).number ≡ salvage.number_of r
salvage_number (Ok s) = refl
salvage_number (Err S.ShortBuffer) = refl

-- promise: exports.11
pub check_number : (r : Result (Unit {0}) CheckRefusal) → (checked_as r).number ≡ number_of r
check_number (Ok _) = refl
check_number (Err C.TooMany) = refl
check_number (Err (C.BadRepeat k)) = refl
check_number (Err (C.LateStart k)) = refl
check_number (Err (C.OverCap m)) = refl

-- promise: exports.11
pub plan_number : (r : Result (Unit {0}) PlanRefusal) → (planned_as r).number ≡ plan.plan_number_of r
plan_number (Ok _) = refl
plan_number (Err P.TooMany) = refl
plan_number (Err (P.BadRepeat k)) = refl
plan_number (Err (P.NoFit k)) = refl
plan_number (Err P.NoRoom) = refl

-- promise: exports.11 (the number is that of RULES, in all four)
pub compare_number_lem : (x : Result ℕ CompareRefusal) → (compared_as x).number ≡ compare_number x
compare_number_lem (Ok n) = refl
compare_number_lem (Err (WrongMark s)) = refl
compare_number_lem (Err (WrongLength s)) = refl
compare_number_lem (Err (NoAssociation s)) = refl
compare_number_lem (Err ShortBuffer) = refl

-- ---- what is refused leaves the buffer as it was

-- promise: exports.11
pub salvage_refused : (l out : List ℕ) → (salvaged_as (salvage.salvage_of l (length out))).number ≡ 70 → salvage.buffer_of l out ≡ out
salvage_refused l out e = refused_buffer l out ((refused_exactly l (length out)).0 (sym (salvage_number (salvage.salvage_of l (length out))) ∙ e))

-- promise: exports.11 (both: a rejection leaves the buffer)
pub plan_refused : (cap : ℕ) (repeats out : List ℕ) → ((planned_as (plan.plan_of cap repeats (length out))).number ≡ 0 → ⊥) →
    plan.buffer_of cap repeats out ≡ out
plan_refused cap repeats out z = refused_untouched cap repeats out (λ e. z (plan_number (plan.plan_of cap repeats (length out)) ∙ e))
