-- `Fields::next` meets its contract: it gives the field at its place, and moves to where that ends.
-- Assumes nothing.
use Rattle.std.proofs.Common.{◌≡◌, refl, sym, ap, ◌∙◌, ◌-◌, [], ◌∷◌, length, take, drop, arith, rules}
use Rattle.words.specs.Bytes.{part}
use Rattle.wire_fields.specs.Field.{step_at}
use Rattle.wire_fields.specs.declared.Step.TheVariants.{Field}
use Rattle.wire_fields.specs.Walk.{walk_of}
use Rattle.wire_fields.specs.Fields.{fields_in, walk_left, fields_left}
use Rattle.wire_fields.proofs.Walks.{Placed, placed}
use Rattle.wire_fields.proofs.Left.{left_field, end_field, left_stop}
use Rattle.wire_fields.proofs.FieldsIterator.next.Goals as goal
use Rattle.wire_fields.proofs.FieldsIterator.next.Goals.{In-Field}

-- what stands at the iterator's place is the field that the pattern bound
step : (k : In-Field) → let it = k.args.self.now in
    step_at it.bytes.now it.at it.form.least it.form.tail ≡ Field k.in-Field.kind k.in-Field.start k.in-Field.len k.in-Field.next
step k = sym k.field_at.ensures ∙ k.in-Field.is

here : (k : In-Field) → let it = k.args.self.now in Placed it.bytes.now it.at it.form.least k.in-Field.start k.in-Field.len k.in-Field.next
here k = let it = k.args.self.now in placed _ _ _ _ it.form.head _ _ _ _ (step k)

pub returns-in_default : goal.returns-in_default
unfolding fields_left walk_left
returns-in_default c =
    let it = c.args.self.now in
    let none : fields_left it ≡ [] = left_stop it.bytes.now it.at _ _ it.form.head _ (sym c.field_at.ensures) c.in_default.not-Field in
    record { steps = ((none, none), refl); goes = search rules }

pub slice_bounds-body-count : goal.slice_bounds-body-count
slice_bounds-body-count c = let w = here (goal.at.slice_bounds-body-count c).In-Field in omega arith

pub slice_bounds-body-start : goal.slice_bounds-body-start
slice_bounds-body-start c = let w = here (goal.at.slice_bounds-body-start c).In-Field in omega arith

pub slice_bounds-body-end : goal.slice_bounds-body-end
slice_bounds-body-end c = let w = here (goal.at.slice_bounds-body-end c).In-Field in omega arith

pub returns-clause-steps : goal.returns-clause-steps
unfolding fields_left walk_left part
returns-clause-steps c =
    let k = (goal.at.returns-clause-steps c).In-Field in
    let it = c.args.self.now in
    let p = it.bytes.now in
    let w = here k in
    let start = c.in-Field.start in
    let rest = fields_in p (walk_of p c.in-Field.next it.form.least it.form.tail) in
    let long : c.in-Field.len ≡ c.in-Field.next - start = omega arith in (
      left_field p it.at _ _ it.form.head _ _ _ _ (step k)
          ∙ ap (λ n. record { at = it.at; kind = c.in-Field.kind; body = take n (drop start p) } ∷ rest) long,
      sym (end_field p it.at _ _ it.form.head _ _ _ _ (step k)),
    )

pub returns-clause-goes : goal.returns-clause-goes
unfolding fields_left walk_left
returns-clause-goes c =
    let it = c.args.self.now in
    let shorter = ap length (left_field it.bytes.now it.at _ _ it.form.head _ _ _ _ (step (goal.at.returns-clause-goes c).In-Field)) in
    search rules
