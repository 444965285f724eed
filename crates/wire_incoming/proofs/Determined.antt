-- Each public function's contract determines its result: any two that it allows are equal.
-- Assumes nothing.
use mathlib.Core.Path.{◌∙◌, sym}
use Rattle.words.specs.Determined.{Determined}
use Rattle.wire_incoming.proofs.NtpLeapIndicator.code.Reads as code
use Rattle.wire_incoming.proofs.NtpLeapIndicatorFromLeap.from.Reads as indicator-from-leap
use Rattle.wire_incoming.proofs.NtpLeapIndicatorTryFromU8.try_from.Reads as try-from
use Rattle.wire_incoming.proofs.read_reply.Reads as read-reply
use Rattle.wire_incoming.proofs.DecodedReply.value.Reads as value

pub code_determined : Determined code.Post
code_determined κs a y z e f p q = p ∙ sym q

pub try_from_determined : Determined try-from.Post
try_from_determined κs a y z e f p q = p ∙ sym q

pub read_reply_determined : Determined read-reply.Post
read_reply_determined κs a y z e f p q = p ∙ sym q

pub value_determined : Determined value.Post
value_determined κs a y z e f p q = p ∙ sym q

pub indicator_from_leap_determined : Determined indicator-from-leap.Post
indicator_from_leap_determined κs a y z e f p q = p ∙ sym q
