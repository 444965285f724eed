-- Each public function's contract determines its result: any two that it allows are equal.
-- Assumes nothing.
use mathlib.Core.Path.{◌∙◌, sym}
use Rattle.words.specs.Determined.{Determined}
use Rattle.association_metered.proofs.ProfileRefusalRefusal.number.Reads as number
use Rattle.association_metered.proofs.profile.Reads as profile
use Rattle.association_metered.proofs.metered.Reads as metered

pub number_determined : Determined number.Post
number_determined κs a y z e f p q = p ∙ sym q

pub profile_determined : Determined profile.Post
profile_determined κs a y z e f p q = p ∙ sym q

pub metered_determined : Determined metered.Post
metered_determined κs a y z e f p q = p ∙ sym q
