-- Each exported function's contract determines its result and each byte of what is lent to be written: any two that it allows are equal.
-- Assumes nothing.
use mathlib.Core.Path.{sym, ap, ◌∙◌}
use mathlib.Core.List.{List}
use Prim.Native.Nat.{ℕ}
use Rattle.words.specs.Determined.{Determined, DeterminedLent}
use Rattle.exports.specs.Calls.{Made, Timed, Replied, Saved, Loaded}
use Rattle.exports.proofs.reckonstile_revision.Reads as revision
use Rattle.exports.proofs.reckonstile_blank.Reads as blank
use Rattle.exports.proofs.reckonstile_new.Reads as new
use Rattle.exports.proofs.reckonstile_metered.Reads as metered
use Rattle.exports.proofs.reckonstile_profile.Reads as profile
use Rattle.exports.proofs.reckonstile_timer.Reads as timer
use Rattle.exports.proofs.reckonstile_reply.Reads as reply
use Rattle.exports.proofs.reckonstile_reply_decoded.Reads as reply-decoded
use Rattle.exports.proofs.reckonstile_accept.Reads as accept
use Rattle.exports.proofs.reckonstile_save.Reads as save
use Rattle.exports.proofs.reckonstile_load.Reads as load
use Rattle.exports.proofs.reckonstile_look.Reads as look
use Rattle.exports.proofs.reckonstile_collect.Reads as collect
use Rattle.exports.proofs.reckonstile_write_request.Reads as write-request
use Rattle.exports.proofs.reckonstile_field_at.Reads as field_at
use Rattle.exports.proofs.reckonstile_salvage.Reads as salvage
use Rattle.exports.proofs.reckonstile_compare.Reads as compare
use Rattle.exports.proofs.reckonstile_check_calendar.Reads as check-calendar
use Rattle.exports.proofs.reckonstile_plan_calendar.Reads as plan-calendar

pub revision_determined : Determined revision.Post
revision_determined κs a y z e f p q = p ∙ sym q

pub blank_determined : DeterminedLent blank.Post (λ κs e. e.0.now)
blank_determined κs a y z e f p q = (p.0 ∙ sym q.0, p.1 ∙ sym q.1)

pub new_determined : DeterminedLent new.Post (λ κs e. e.0.now)
new_determined κs a y z e f p q = let e = p ∙ sym q in (ap (λ (t : Made). t.answer) e, ap (λ (t : Made). t.bytes) e)

pub metered_determined : DeterminedLent metered.Post (λ κs e. e.0.now)
metered_determined κs a y z e f p q = let e = p ∙ sym q in (ap (λ (t : Made). t.answer) e, ap (λ (t : Made). t.bytes) e)

pub profile_determined : Determined profile.Post
profile_determined κs a y z e f p q = p ∙ sym q

pub timer_determined : DeterminedLent {S = List ℕ × List ℕ} timer.Post (λ κs e. (e.0.now, e.1.1.1.1.1.0.now))
timer_determined κs a y z e f p q = let e = p ∙ sym q in (ap (λ (t : Timed). t.answer) e, ap (λ (t : Timed). (t.bytes, t.left)) e)

pub reply_determined : DeterminedLent reply.Post (λ κs e. e.0.now)
reply_determined κs a y z e f p q = let e = p ∙ sym q in (ap (λ (t : Replied). t.answer) e, ap (λ (t : Replied). t.bytes) e)

pub reply_decoded_determined : DeterminedLent reply-decoded.Post (λ κs e. e.0.now)
reply_decoded_determined κs a y z e f p q = let e = p ∙ sym q in (ap (λ (t : Replied). t.answer) e, ap (λ (t : Replied). t.bytes) e)

pub accept_determined : Determined accept.Post
accept_determined κs a y z e f p q = p ∙ sym q

pub save_determined : DeterminedLent {S = List ℕ × List ℕ} save.Post (λ κs e. (e.0.now, e.1.0.now))
save_determined κs a y z e f p q = let e = p ∙ sym q in (ap (λ (t : Saved). t.answer) e, ap (λ (t : Saved). (t.bytes, t.left)) e)

pub load_determined : DeterminedLent load.Post (λ κs e. e.0.now)
load_determined κs a y z e f p q = let e = p ∙ sym q in (ap (λ (t : Loaded). t.answer) e, ap (λ (t : Loaded). t.bytes) e)

pub look_determined : Determined look.Post
look_determined κs a y z e f p q = p ∙ sym q

pub collect_determined : DeterminedLent collect.Post (λ κs e. e.1.0.now)
collect_determined κs a y z e f p q = (p.0 ∙ sym q.0, p.1 ∙ sym q.1)

pub write_request_determined : DeterminedLent write-request.Post (λ κs e. e.1.1.1.1.1.1.1.0.now)
write_request_determined κs a y z e f p q = (p.0 ∙ sym q.0, p.1 ∙ sym q.1)

pub field_at_determined : Determined field_at.Post
field_at_determined κs a y z e f p q = p ∙ sym q

pub salvage_determined : DeterminedLent salvage.Post (λ κs e. e.1.0.now)
salvage_determined κs a y z e f p q = (p.0 ∙ sym q.0, p.1 ∙ sym q.1)

pub compare_determined : DeterminedLent compare.Post (λ κs e. e.1.1.0.now)
compare_determined κs a y z e f p q = (p.0 ∙ sym q.0, p.1 ∙ sym q.1)

pub check_calendar_determined : Determined check-calendar.Post
check_calendar_determined κs a y z e f p q = p ∙ sym q

pub plan_calendar_determined : DeterminedLent plan-calendar.Post (λ κs e. e.1.1.0.now)
plan_calendar_determined κs a y z e f p q = (p.0 ∙ sym q.0, p.1 ∙ sym q.1)
