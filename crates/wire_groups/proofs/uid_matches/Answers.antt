-- `wire_groups::uid_matches` meets its contract: the untrusted group counts for NTSN only, and the last of the three decides.
-- Assumes nothing.
use Rattle.std.proofs.Common.{◌≡◌, ◌∙◌, refl, sym, ap, cond, Bool}
use mathlib.Core.Path.{ap₂}
use Rattle.wire_groups.specs.declared.Uid.{Uid}
use Rattle.wire_groups.specs.declared.Uid.TheVariants.{Absent}
use Rattle.wire_groups.specs.Matching.{uid_matches}
use Rattle.wire_groups.proofs.Weighed.{later, is_agree, is_other, last_decides}
use Rattle.wire_groups.proofs.uid_matches.Goals as goal
use Rattle.wire_groups.proofs.uid_matches.Goals.{then-ntsn, else-ntsn}

-- whether the last of the three groups agrees
decided : (a b heard : Uid) (ntsn : Bool) (untrusted : Uid) → heard ≡ cond ntsn untrusted Absent →
    is_agree (later (later a b) heard) ≡ uid_matches a b untrusted ntsn
unfolding uid_matches
decided a b heard ntsn untrusted is = ap (λ u. is_agree (later (later a b) u)) is ∙ last_decides a b (cond ntsn untrusted Absent)

pub returns-in-Agree : goal.returns-in-Agree
returns-in-Agree c =
    let a = c.args in
    let heard : c.if-ntsn.untrusted ≡ cond a.ntsn a.untrusted Absent =
    elim c.if-ntsn.branch [ then-ntsn w ↦ rw w.if-ntsn.true w.untrusted-is | else-ntsn w ↦ rw w.if-ntsn.false w.untrusted-is ] in
    sym (ap is_agree c.in-Agree.is) ∙ ap is_agree (c.max-2.ensures ∙ ap₂ later c.max.ensures refl) ∙ decided _ _ _ _ _ heard

pub returns-in_default : goal.returns-in_default
returns-in_default c =
    let a = c.args in
    let heard : c.if-ntsn.untrusted ≡ cond a.ntsn a.untrusted Absent =
    elim c.if-ntsn.branch [ then-ntsn w ↦ rw w.if-ntsn.true w.untrusted-is | else-ntsn w ↦ rw w.if-ntsn.false w.untrusted-is ] in
    is_other _ c.in_default.not-Agree ∙ ap is_agree (c.max-2.ensures ∙ ap₂ later c.max.ensures refl) ∙ decided _ _ _ _ _ heard
