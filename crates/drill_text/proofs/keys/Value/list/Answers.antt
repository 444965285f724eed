-- `drill_text::keys::Value::list` meets its contract: the parts are those between the commas, and each is parsed.
-- Assumes nothing.
use Rattle.std.proofs.Common.{◌≡◌, ◌∙◌, inl, inr, sym, ap, length, arith, rules, Some, None, Err, subst, vec_len, eqb, length-drop, take_all, ◌≤◌}
use Rattle.std.specs.List.{AllZip}
use Rattle.std.specs.Fn.{FnReturnsAt}
use Rattle.std.proofs.lemmas.List.Splits.{length-slice_split}
use Rattle.std.proofs.lemmas.Slice.Zip.{all_zipped_more}
use Rattle.drill_text.specs.declared.fault.Fault.TheVariants.{Bad}
use Rattle.drill_text.specs.Reads.{parts_of}
use Rattle.drill_text.proofs.Bytes.{value_had, value_lacked}
use Rattle.drill_text.proofs.Lists.{list_fine, list_bad, any_at}
use Rattle.drill_text.proofs.Splits.{left_parts, part_taken, next_of}
use Rattle.drill_text.proofs.keys.Value.list.Goals as goal

pub returns-then-len-most : goal.returns-then-len-most
returns-then-len-most g c =
    let i = c.loop-rest.invariant in
    let text = c.in_ok-text.text in
    let had = value_had c.args.self.text _ text c.in_ok-text.ensures in
    let here = sym i.left ∙ ap left_parts c.in-Some.is in
    let one = length-slice_split (λ b. eqb b 44) c.in-Some.left.now in
    let long = length-drop (vec_len c.loop-rest.items) (parts_of text.now) in
    list_bad _ (FnReturnsAt g.P.Fn c.args.parse) c.args.self.key text c.args.most c.args.self.text had (sym c.eq.ensures
    ∙ c.if-eq.false) (inl (omega (arith, ap length here)))

pub returns-in_err-ok_or : goal.returns-in_err-ok_or
returns-in_err-ok_or g c =
    let i = c.loop-rest.invariant in
    let text = c.in_ok-text.text in
    let had = value_had c.args.self.text _ text c.in_ok-text.ensures in
    let part = c.first_part.result.0.now in
    let taken = part_taken c.in-Some.left.now part c.first_part.result.1 c.first_part.ensures in
    let next = next_of (parts_of text.now) (vec_len c.loop-rest.items) part _ (sym i.left ∙ ap left_parts c.in-Some.is ∙ taken.0) in
    let none = value_lacked c.parse.result _ c.in_err-ok_or.field-0.0 c.in_err-ok_or.ensures.value in
    let parsed : FnReturnsAt g.P.Fn c.args.parse part c.parse.result = search rules in
    let gave = rw (sym none) at parsed in
    let bad : c.from_residual-in_err-ok_or.result ≡ Err (Bad c.args.self.key) = search rules in
    rw bad (list_bad _ (FnReturnsAt g.P.Fn c.args.parse) c.args.self.key text c.args.most c.args.self.text had (sym c.eq.ensures ∙ c.if-eq.false)
    (inr (any_at (λ part. FnReturnsAt g.P.Fn c.args.parse part None) _ _ part next.0 next.3 gave)))

pub loop-rest-preserved : goal.loop-rest-preserved
loop-rest-preserved g c =
    let i = c.loop-rest.invariant in
    let part = c.first_part.result.0.now in
    let taken = part_taken c.in-Some.left.now part c.first_part.result.1 c.first_part.ensures in
    let next = next_of (parts_of c.in_ok-text.text.now) (vec_len c.loop-rest.items) part _ (sym i.left ∙ ap left_parts c.in-Some.is ∙ taken.0) in
    let found = value_had c.parse.result _ c.in_ok-ok_or.field-0 c.in_ok-ok_or.ensures.value in
    let parsed : FnReturnsAt g.P.Fn c.args.parse part c.parse.result = search rules in
    let gave = rw found at parsed in
    record {
      few = omega (arith, c.in_ok-push.ensures.len, c.len.ensures);
      left = rw c.in_ok-push.ensures.len (sym next.1);
      parsed = rw (c.in_ok-push.ensures.len, next.2, c.in_ok-push.ensures.items)
          (all_zipped_more (λ part item. FnReturnsAt g.P.Fn c.args.parse part (Some item)) _ _ part c.in_ok-ok_or.field-0 i.parsed gave);
    }

pub returns : goal.returns
returns g c =
    let i = c.loop-rest.invariant in
    let text = c.in_ok-text.text in
    let had = value_had c.args.self.text _ text c.in_ok-text.ensures in
    let count = vec_len c.loop-rest.items in
    let all = parts_of text.now in
    let none = sym i.left ∙ ap left_parts c.in_default.is in
    let within : length all ≤ count = omega (arith, ap length none, length-drop count all) in
    list_fine (FnReturnsAt g.P.Fn c.args.parse) c.args.self.key text c.args.most c.args.self.text c.loop-rest.items had (sym c.eq.ensures
    ∙ c.if-eq.false) (omega arith)
    (subst (λ parts. AllZip (λ part item. FnReturnsAt g.P.Fn c.args.parse part (Some item)) parts c.loop-rest.items.items) (take_all count all within) i.parsed)
