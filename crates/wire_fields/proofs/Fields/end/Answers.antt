-- `Fields::end` meets its contract: no field is left where the loop ends.
-- Assumes nothing.
use Rattle.std.proofs.Common.{◌≡◌, sym, ◌∙◌, false, Option, Some, None}
use Rattle.std.specs.Prelude.{is_some, MatchOption}
use Rattle.wire_fields.specs.Fields.{walk_left, fields_left}
use Rattle.wire_fields.proofs.Left.{end_end, end_other}
use Rattle.wire_fields.proofs.Fields.end.Goals as goal

nothing : {A P : Type 0} (o : Option A) (Q : A → Type 0) → is_some o ≡ false → MatchOption o P Q → P
nothing (Some x) Q e m = cc
nothing None Q e m = m

pub returns-in-End : goal.returns-in-End
unfolding walk_left
returns-in-End c =
    let it = c.next.new.self in
    sym (end_end it.bytes.now it.at _ _ it.form.head (sym c.field_at.ensures ∙ c.in-End.is)) ∙ c.next.ensures.steps.1 ∙ c.loop.invariant

pub returns-in_default : goal.returns-in_default
unfolding walk_left fields_left
returns-in_default c =
    let it = c.next.new.self in
    let none = nothing c.next.result _ (sym c.is_some.ensures ∙ c.loop-test.false) c.next.ensures.steps.0 in
    sym (end_other it.bytes.now it.at _ _ it.form.head _ (sym c.field_at.ensures) c.in_default.not-End none.1) ∙ c.next.ensures.steps.1 ∙ c.loop.invariant
