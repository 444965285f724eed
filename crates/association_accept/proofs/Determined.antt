-- Each public function's contract determines its result: any two that it allows are equal.
-- Assumes nothing.
use mathlib.Core.Path.{◌∙◌, sym}
use Rattle.words.specs.Determined.{Determined}
use Rattle.association_accept.proofs.AcceptRefusalRefusal.number.Reads as number
use Rattle.association_accept.proofs.accept_seen.Reads as accept-seen
use Rattle.association_accept.proofs.accept.Reads as accept

pub number_determined : Determined number.Post
number_determined κs a y z e f p q = p ∙ sym q

pub accept_determined : Determined accept.Post
accept_determined κs a y z e f p q = p ∙ sym q

pub accept_seen_determined : Determined accept-seen.Post
accept_seen_determined κs a y z e f p q = p ∙ sym q
