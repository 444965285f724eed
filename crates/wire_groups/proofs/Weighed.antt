-- Of groups taken together the last in their order decides: where it is the agreeing one, none disagrees and one agrees.
-- Assumes nothing.
use Rattle.std.proofs.Common.{◌≡◌, refl, Bool, false, [], ◌∷◌}
use Rattle.std.specs.Ordering.{ord_max}
use denote.Enum.Bare.{sameb}
use Rattle.wire_groups.specs.contracts.Uid.{the_type}
use Rattle.wire_groups.specs.contracts.UidOrd.TheImpl.{cmp-value}
use Rattle.wire_groups.specs.declared.Uid.{Uid}
use Rattle.wire_groups.specs.declared.Uid.TheVariants.{Absent, Agree, Disagree}
use Rattle.wire_groups.specs.Matching.{groups_match}

abbrev pub later : Uid → Uid → Uid
later = ord_max cmp-value.it

abbrev pub is_agree : Uid → Bool
is_agree g = sameb the_type g Agree

pub is_other : (g : Uid) → (g ≡ Agree → ⊥) → false ≡ is_agree g
is_other Absent other = refl
is_other Agree other = absurd (other refl)
is_other Disagree other = refl

pub last_decides : (a b c : Uid) → is_agree (later (later a b) c) ≡ groups_match (a ∷ b ∷ c ∷ [])
last_decides Absent Absent = elim [ Absent ↦ refl | Agree ↦ refl | Disagree ↦ refl ]
last_decides Absent Agree = elim [ Absent ↦ refl | Agree ↦ refl | Disagree ↦ refl ]
last_decides Absent Disagree = elim [ Absent ↦ refl | Agree ↦ refl | Disagree ↦ refl ]
last_decides Agree Absent = elim [ Absent ↦ refl | Agree ↦ refl | Disagree ↦ refl ]
last_decides Agree Agree = elim [ Absent ↦ refl | Agree ↦ refl | Disagree ↦ refl ]
last_decides Agree Disagree = elim [ Absent ↦ refl | Agree ↦ refl | Disagree ↦ refl ]
last_decides Disagree Absent = elim [ Absent ↦ refl | Agree ↦ refl | Disagree ↦ refl ]
last_decides Disagree Agree = elim [ Absent ↦ refl | Agree ↦ refl | Disagree ↦ refl ]
last_decides Disagree Disagree = elim [ Absent ↦ refl | Agree ↦ refl | Disagree ↦ refl ]
