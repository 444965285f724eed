-- Without NTSN the untrusted group makes no difference to the match, and for NTSN it counts (RULES, part 8).
-- Assumes nothing.
use mathlib.Core.Path.{◌≡◌, refl}
use mathlib.Core.Bool.{true, false}
use Rattle.wire_groups.specs.declared.Uid.{Uid}
use Rattle.wire_groups.specs.declared.Uid.TheVariants.{Absent, Agree}
use Rattle.wire_groups.specs.Matching.{uid_matches}

pub untrusted_idle : (authenticated encrypted u v : Uid) → uid_matches authenticated encrypted u false ≡ uid_matches authenticated encrypted v false
unfolding uid_matches
untrusted_idle authenticated encrypted u v = refl

-- an uid that only the untrusted group has
pub untrusted_heard : (uid_matches Absent Absent Agree true ≡ true) × (uid_matches Absent Absent Absent true ≡ false)
unfolding uid_matches
untrusted_heard = (refl, refl)
