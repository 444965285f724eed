-- Each public function's contract determines its result and each byte of the record: any two that it allows are equal.
-- Assumes nothing.
use mathlib.Core.Path.{refl, sym, ap, ◌∙◌}
use denote.RattleType.{RattleType}
use denote.Param.Laws.{Laws}
use mir.Syntax.{Dict}
use Rattle.words.specs.Determined.{Determined, DeterminedLent}
use Rattle.answers.specs.declared.Refusal.{Ghosts}
use Rattle.std.specs.Prelude.{Result}
use Rattle.association.specs.declared.NewRefusal.{NewRefusal}
use Rattle.association_metered.specs.declared.ProfileRefusal.{ProfileRefusal}
use Rattle.record_new.specs.declared.InBytes.{InBytes}
use Rattle.record_new.specs.declared.Made.{Made}
use Rattle.record_new.specs.New.{Call}
use Rattle.record_new.proofs.InBytesRefusal.number.Reads as number
use Rattle.record_new.proofs.new.Reads as new
use Rattle.record_new.proofs.metered.Reads as metered
use Rattle.record_new.proofs.blank.Reads as blank

pub number_determined : (E : RattleType) (e : Laws E) (refusal : Ghosts E.Denot) (d : Dict) → Determined (number.Post E e refusal d)
number_determined E e refusal d κs a y z f g p q = p ∙ sym q

-- what a call returns, of all that it gives
abbrev returned : {E : Type 0} → Call (Result (Unit {0}) (InBytes E)) → Made E
returned t = record { answer = t.answer; dropped = t.dropped }

pub new_determined : DeterminedLent new.Post (λ κs e. e.0.now)
new_determined κs a y z e f p q =
    let s = p ∙ sym q in (ap returned s, ap (λ (t : Call (Result (Unit {0}) (InBytes NewRefusal))). t.bytes) s)

pub metered_determined : DeterminedLent metered.Post (λ κs e. e.0.now)
metered_determined κs a y z e f p q =
    let s = p ∙ sym q in (ap returned s, ap (λ (t : Call (Result (Unit {0}) (InBytes ProfileRefusal))). t.bytes) s)

pub blank_determined : DeterminedLent blank.Post (λ κs e. e.0.now)
blank_determined κs a y z e f p q = (refl, p ∙ sym q)
