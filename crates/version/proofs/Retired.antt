-- The retired kind (RULES, No. 14): no step and no fallback leads to it from another, and what is settled is not of it.
-- On no other kind does the step look at whether a reply is an upgrade reply.
-- Assumes nothing.
use mathlib.Core.Path.{◌≡◌, refl, sym}
use mathlib.Core.Bool.{Bool, true, false, cond, false≢true}
use Prim.Native.Nat.{ℕ}
use lib.Dec.{leb}
use Rattle.version.specs.declared.ProtocolVersion.{ProtocolVersion}
use Rattle.version.specs.declared.ProtocolVersion.TheVariants.{V4, Upgrading, Upgraded, V5}
use Rattle.version.specs.Upgrade.{upgrading, settled, stepped, fallen_back}

-- promise: no14.6
pub stepped_stays : (k : ProtocolVersion) (upgrade : Bool) → upgrading k ≡ false → upgrading (stepped k upgrade) ≡ false
stepped_stays V4 upgrade e = refl
stepped_stays (Upgrading tries) upgrade e = absurd (false≢true (sym e))
stepped_stays Upgraded upgrade e = refl
stepped_stays V5 upgrade e = refl

-- promise: 4.3 (of every kind but upgrading the step is the same for a plain reply and an upgrade reply)
pub stepped_plain : (k : ProtocolVersion) (upgrade : Bool) → upgrading k ≡ false → stepped k upgrade ≡ stepped k false
stepped_plain V4 upgrade e = refl
stepped_plain (Upgrading tries) upgrade e = absurd (false≢true (sym e))
stepped_plain Upgraded upgrade e = refl
stepped_plain V5 upgrade e = refl

-- promise: no14.6
pub fallen_stays : (k : ProtocolVersion) (unanswered : ℕ) → upgrading k ≡ false → upgrading (fallen_back k unanswered) ≡ false
fallen_stays V4 unanswered e = refl
fallen_stays (Upgrading tries) unanswered e = absurd (false≢true (sym e))
fallen_stays Upgraded unanswered e = by (leb 2 unanswered)
  where
    by : (b : Bool) → upgrading (cond b V4 Upgraded) ≡ false
    by true = refl
    by false = refl
fallen_stays V5 unanswered e = refl

-- promise: no14.6 (these of one step)
pub settled_stays : (k : ProtocolVersion) → upgrading (settled k) ≡ false
settled_stays V4 = refl
settled_stays (Upgrading tries) = refl
settled_stays Upgraded = refl
settled_stays V5 = refl

-- all but the retired kind is settled already
-- promise no14.5: The upgraded state loads unchanged and keeps its fallback, which is that of part 4.
pub settled_same : (k : ProtocolVersion) → upgrading k ≡ false → settled k ≡ k
settled_same V4 e = refl
settled_same (Upgrading tries) e = absurd (false≢true (sym e))
settled_same Upgraded e = refl
settled_same V5 e = refl
