-- Each public function's contract determines its result: any two that it allows are equal.
-- Assumes nothing.
use mathlib.Core.Path.{◌∙◌, sym}
use Rattle.words.specs.Determined.{Determined}
use Rattle.reply_clauses.proofs.never_sent.Reads as never_sent
use Rattle.reply_clauses.proofs.already_measured.Reads as already_measured
use Rattle.reply_clauses.proofs.expired.Reads as expired
use Rattle.reply_clauses.proofs.answers.Reads as answers
use Rattle.reply_clauses.proofs.denies.Reads as denies
use Rattle.reply_clauses.proofs.stepped.Reads as stepped
use Rattle.reply_clauses.proofs.after_rate_kiss.Reads as after-rate-kiss
use Rattle.reply_clauses.proofs.after_denial.Reads as after-denial
use Rattle.reply_clauses.proofs.after_measured.Reads as after-measured
use Rattle.reply_clauses.proofs.measured.Reads as measured

pub never_sent_determined : Determined never_sent.Post
never_sent_determined κs a y z e f p q = p ∙ sym q

pub already_measured_determined : Determined already_measured.Post
already_measured_determined κs a y z e f p q = p ∙ sym q

pub expired_determined : Determined expired.Post
expired_determined κs a y z e f p q = p ∙ sym q

pub answers_determined : Determined answers.Post
answers_determined κs a y z e f p q = p ∙ sym q

pub denies_determined : Determined denies.Post
denies_determined κs a y z e f p q = p ∙ sym q

pub stepped_determined : Determined stepped.Post
stepped_determined κs a y z e f p q = p ∙ sym q

pub after_rate_kiss_determined : Determined after-rate-kiss.Post
after_rate_kiss_determined κs a y z e f p q = p ∙ sym q

pub after_denial_determined : Determined after-denial.Post
after_denial_determined κs a y z e f p q = p ∙ sym q

pub after_measured_determined : Determined after-measured.Post
after_measured_determined κs a y z e f p q = p ∙ sym q

pub measured_determined : Determined measured.Post
measured_determined κs a y z e f p q = p ∙ sym q
