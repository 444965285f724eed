-- `wire_groups::uid_among` meets its contract. The invariant: what was seen and what lies ahead say together what all say.
-- Assumes nothing.
use Rattle.std.proofs.Common.{◌≡◌, refl, sym, ap, ◌∙◌, ◌∷◌}
use Rattle.wire_fields.specs.Fields.{shown, fields_left}
use Rattle.wire_groups.specs.Matching.{uids_within, starts_with}
use Rattle.wire_groups.proofs.Prefix.{starts_same}
use Rattle.wire_groups.proofs.Groups.{uid_after, uids_first, after_agrees, after_disagrees}
use Rattle.wire_groups.proofs.uid_among.Goals as goal
use Rattle.wire_groups.proofs.uid_among.Goals.{After-starts_with}

-- the body of the turn's field is the first of those ahead
first : (s : After-starts_with) →
    let a = s.args in
    uids_within a.from a.to (fields_left s.loop-field.field-iterator) ≡ s.in-Some.field.body.now ∷ uids_within a.from a.to (fields_left s.next.new.self)
first s =
    let a = s.args in
    ap (uids_within a.from a.to) s.in-Some.ensures.steps.0
    ∙ uids_first a.from a.to (shown s.in-Some.field) (fields_left s.next.new.self) s.if-from-field.true s.if-field-to.true s.if-field-eq-UID_KIND.true

says : (s : After-starts_with) → starts_with s.in-Some.field.body.now s.args.uid ≡ s.starts_with.result
says s = sym (starts_same s.in-Some.field.body.now s.args.uid) ∙ sym s.starts_with.ensures.value

pub returns-then-not-starts_with : goal.returns-then-not-starts_with
returns-then-not-starts_with c =
    let l = c.loop-field in
    let s = (goal.at.returns-then-not-starts_with c).After-starts_with in
    sym (ap (uid_after l.seen _) (first s) ∙ after_disagrees _ _ _ l.seen (says s ∙ c.if-not-starts_with.true)) ∙ l.invariant.1

pub loop-field-preserved-then-field-eq-UID_KIND : goal.loop-field-preserved-then-field-eq-UID_KIND
loop-field-preserved-then-field-eq-UID_KIND c =
    let l = c.loop-field in
    let s = (goal.at.loop-field-preserved-then-field-eq-UID_KIND c).After-starts_with in
    let agrees = says s ∙ c.if-not-starts_with.false in
    (refl, sym (ap (uid_after l.seen _) (first s) ∙ after_agrees _ _ _ l.seen l.invariant.0 agrees) ∙ l.invariant.1)
