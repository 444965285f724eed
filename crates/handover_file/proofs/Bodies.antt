-- Record by record: what one that is there, or a fault, makes of what the whole file is cut into.
-- Assumes nothing.
use Prim.Native.Nat.{ℕ}
use mathlib.Core.Path.{◌≡◌, ap, ◌∙◌}
use mathlib.Core.List.{List, [], ◌∷◌}
use Rattle.handover_file.specs.Sections.{Shape, Cut, bodies, before}
use Rattle.handover_file.specs.declared.cut.Section.TheVariants.{Stash, Effort, Version, Polls, Source}
use Rattle.handover_file.specs.declared.cut.Fault.{Fault}
use Rattle.handover_file.specs.declared.cut.Fault.TheVariants.{Misplaced, Missized}
use Rattle.handover_file.specs.Steps.{shape_of, fault_of}

-- the records after each one
abbrev pub after_polls : List Shape
after_polls = shape_of Source ∷ []

abbrev pub after_version : List Shape
after_version = shape_of Polls ∷ after_polls

abbrev pub after_effort : List Shape
after_effort = shape_of Version ∷ after_version

abbrev pub after_stash : List Shape
after_stash = shape_of Effort ∷ after_effort

abbrev pub after_settings : List Shape
after_settings = shape_of Stash ∷ after_stash

-- a fault is the file's, whatever stands before it
pub stops : (b : List ℕ) {c d : Cut} (e : Fault) → c ≡ before b d → d ≡ fault_of e → c ≡ fault_of e
stops b Misplaced p q = p ∙ ap (before b) q
stops b Missized p q = p ∙ ap (before b) q

pub goes : (b : List ℕ) {c d : Cut} (bs : List (List ℕ)) → c ≡ before b d → d ≡ bodies bs → c ≡ bodies (b ∷ bs)
goes b bs p q = p ∙ ap (before b) q
