-- Each public function's contract determines its result: any two that it allows are equal.
-- Assumes nothing.
use denote.RattleType.{RattleType}
use denote.Param.Laws.{Laws}
use mathlib.Core.Path.{◌∙◌, sym}
use mir.Syntax.{Dict}
use Rattle.answers.specs.declared.Refusal.{Ghosts}
use Rattle.words.specs.Determined.{Determined}
use Rattle.exports_values.proofs.unpack_settings.Reads as unpack-settings
use Rattle.exports_values.proofs.CSettingsFromSettings.from.Reads as pack-settings
use Rattle.exports_values.proofs.CStateFromState.from.Reads as pack-state
use Rattle.exports_values.proofs.CTimerAnswerFromTimerAnswer.from.Reads as timer-answer
use Rattle.exports_values.proofs.CReplyAnswerFromMeasurement.from.Reads as measured
use Rattle.exports_values.proofs.CReplyAnswerFromReplyAnswer.from.Reads as reply-answer
use Rattle.exports_values.proofs.decoded_form.Reads as decoded-form
use Rattle.exports_values.proofs.new_answer.Reads as new-answer
use Rattle.exports_values.proofs.bloom_in.Reads as bloom-in
use Rattle.exports_values.proofs.CWrittenFromResultUsize.from.Reads as written
use Rattle.exports_values.proofs.send_in.Reads as send-in
use Rattle.exports_values.proofs.CLoadAnswerFromResultLoaded.from.Reads as loaded
use Rattle.exports_values.proofs.CFieldFromStep.from.Reads as field
use Rattle.exports_values.proofs.tools.CSalvagedFromResultSalvagedSalvageRefusal.from.Reads as salvage
use Rattle.exports_values.proofs.tools.CCalendarAnswerFromResultUnitCheckRefusal.from.Reads as check
use Rattle.exports_values.proofs.tools.CCalendarAnswerFromResultUnitPlanRefusal.from.Reads as plan
use Rattle.exports_values.proofs.tools.CComparedFromResultUsizeCompareRefusal.from.Reads as compare

pub unpack_settings_determined : Determined unpack-settings.Post
unpack_settings_determined κs a y z e f p q = p ∙ sym q

pub pack_settings_determined : Determined pack-settings.Post
pack_settings_determined κs a y z e f p q = p ∙ sym q

pub pack_state_determined : Determined pack-state.Post
pack_state_determined κs a y z e f p q = p ∙ sym q

pub timer_answer_determined : Determined timer-answer.Post
timer_answer_determined κs a y z e f p q = p ∙ sym q

pub measured_determined : Determined measured.Post
measured_determined κs a y z e f p q = p ∙ sym q

pub reply_answer_determined : Determined reply-answer.Post
reply_answer_determined κs a y z e f p q = p ∙ sym q

pub decoded_form_determined : Determined decoded-form.Post
decoded_form_determined κs a y z e f p q = p ∙ sym q

pub new_answer_determined : Determined new-answer.Post
new_answer_determined κs a y z e f p q = p ∙ sym q

pub bloom_in_determined : Determined bloom-in.Post
bloom_in_determined κs a y z e f p q = p ∙ sym q

-- for any refusal
pub written_determined : (E : RattleType) (e : Laws E) (refusal : Ghosts E.Denot) (d : Dict) → Determined (written.Post E e refusal d)
written_determined E e refusal d κs a y z f g p q = p ∙ sym q

pub send_in_determined : Determined send-in.Post
send_in_determined κs a y z e f p q = p ∙ sym q

pub loaded_determined : (E : RattleType) (e : Laws E) (refusal : Ghosts E.Denot) (d : Dict) → Determined (loaded.Post E e refusal d)
loaded_determined E e refusal d κs a y z f g p q = p ∙ sym q

pub field_determined : Determined field.Post
field_determined κs a y z e f p q = p ∙ sym q

pub salvage_determined : Determined salvage.Post
salvage_determined κs a y z e f p q = p ∙ sym q

pub check_determined : Determined check.Post
check_determined κs a y z e f p q = p ∙ sym q

pub plan_determined : Determined plan.Post
plan_determined κs a y z e f p q = p ∙ sym q

pub compare_determined : Determined compare.Post
compare_determined κs a y z e f p q = p ∙ sym q
