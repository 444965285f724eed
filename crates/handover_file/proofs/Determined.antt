-- Each public function's contract determines its result: any two that it allows are equal; of a result that holds references, what they refer to.
-- Assumes nothing.
use mathlib.Core.Path.{◌≡◌, ◌∙◌, sym}
use mathlib.Core.List.{[], ◌∷◌}
use Rattle.std.specs.Prelude.{Result, Ok, Err, MatchResult}
use Rattle.words.specs.Determined.{Determined, DeterminedContents}
use Rattle.handover_file.specs.declared.cut.Bodies.{Bodies}
use Rattle.handover_file.specs.declared.cut.Fault.{Fault}
use Rattle.handover_file.specs.Sections.{Cut, bodies}
use Rattle.handover_file.specs.Steps.{fault_of}
use Rattle.handover_file.specs.Given.{cookies_left}
use Rattle.handover_file.proofs.SaveRefusalRefusal.number.Reads as save-number
use Rattle.handover_file.proofs.LoadRefusalRefusal.number.Reads as load-number
use Rattle.handover_file.proofs.LoadRefusalFromFault.from.Reads as refusal-from-fault
use Rattle.handover_file.proofs.says_retired.Reads as says-retired
use Rattle.handover_file.proofs.cut.Section.mark.Reads as mark
use Rattle.handover_file.proofs.cut.held_at.Reads as held_at
use Rattle.handover_file.proofs.cut.Cookies.new.Reads as new
use Rattle.handover_file.proofs.cut.bodies_of.Reads as bodies_of
use Rattle.handover_file.proofs.cut.cut.Reads as cut

pub save_number_determined : Determined save-number.Post
save_number_determined κs a y z e f p q = p ∙ sym q

pub load_number_determined : Determined load-number.Post
load_number_determined κs a y z e f p q = p ∙ sym q

pub refusal_from_fault_determined : Determined refusal-from-fault.Post
refusal_from_fault_determined κs a y z e f p q = p ∙ sym q

pub says_retired_determined : Determined says-retired.Post
says_retired_determined κs a y z e f p q = p ∙ sym q

pub mark_determined : Determined mark.Post
mark_determined κs a y z e f p q = p ∙ sym q

pub held_at_determined : Determined held_at.Post
held_at_determined κs a y z e f p q = p ∙ sym q

pub cut_determined : Determined cut.Post
cut_determined κs a y z e f p q = p ∙ sym q

-- what an iterator is to its reader: the cookies to come
pub new_determined : DeterminedContents new.Post (λ κs it. cookies_left it)
new_determined κs a y z e f p q = p ∙ sym q

-- what the bodies are to their reader: the bytes of each
abbrev pub read : Result Bodies Fault → Cut
read (Ok b) = bodies (b.settings.now ∷ b.stash.now ∷ b.effort.now ∷ b.version.now ∷ b.polls.now ∷ b.source.now ∷ [])
read (Err e) = fault_of e

read_is : (c : Cut) (r : Result Bodies Fault) → MatchResult r (λ b. c ≡ read (Ok b)) (λ e. c ≡ fault_of e) → c ≡ read r
read_is c (Ok b) e = e
read_is c (Err d) e = e

pub bodies_of_determined : DeterminedContents bodies_of.Post (λ κs r. read r)
bodies_of_determined κs a y z e f p q = sym (read_is _ y p) ∙ read_is _ z q
