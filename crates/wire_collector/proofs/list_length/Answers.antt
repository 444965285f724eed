-- `wire_collector::list_length` meets its contract. The invariant: what is counted and what lies ahead make the whole.
-- Assumes nothing.
use Rattle.std.proofs.Common.{◌≡◌, ◌+◌, ap, ◌∙◌, length, length-append, arith}
use Rattle.words.specs.Put.{record_of}
use Rattle.words.proofs.Put.{record_long}
use Rattle.wire_fields.specs.Fields.{shown, fields_left}
use Rattle.wire_collector.proofs.Records.{list_left, left_start, left_cookie, list_short}
use Rattle.wire_collector.proofs.list_length.Goals as goal
use Rattle.wire_collector.proofs.list_length.Goals.{Then-field-eq-COOKIE_KIND}

-- the turn's cookie is counted with its record's head
counted : (k : Then-field-eq-COOKIE_KIND) →
    length (list_left (fields_left k.loop-field.field-iterator)) ≡ 4 + length k.in-Some.field.body.now + length (list_left (fields_left k.next.new.self))
counted k =
    let rest = fields_left k.next.new.self in
    let e = ap list_left k.in-Some.ensures.steps.0 ∙ left_cookie (shown k.in-Some.field) rest k.if-field-eq-COOKIE_KIND.true in
    omega (arith, ap length e, length-append (record_of 0xC00E k.in-Some.field.body.now) (list_left rest), record_long 0xC00E k.in-Some.field.body.now)

pub loop-field-init : goal.loop-field-init
loop-field-init c =
    let it = c.decrypted-field-items in
    omega (arith, ap length (left_start c.args.decrypted.now _ (ap fields_left c.into_iter-field-iterator.ensures.into_iter_gives ∙ it.ensures.fields)))

pub overflow_add-long-then-field-eq-COOKIE_KIND : goal.overflow_add-long-then-field-eq-COOKIE_KIND
overflow_add-long-then-field-eq-COOKIE_KIND c =
    omega (
      arith,
      c.loop-field.invariant,
      counted (goal.at.overflow_add-long-then-field-eq-COOKIE_KIND c).Then-field-eq-COOKIE_KIND,
      list_short c.args.decrypted.now,
    )

pub loop-field-preserved-then-field-eq-COOKIE_KIND : goal.loop-field-preserved-then-field-eq-COOKIE_KIND
loop-field-preserved-then-field-eq-COOKIE_KIND c =
    omega (arith, c.loop-field.invariant, counted (goal.at.loop-field-preserved-then-field-eq-COOKIE_KIND c).Then-field-eq-COOKIE_KIND)
