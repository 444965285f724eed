-- `drill_text::keys::Value::bytes` meets its contract: bytes are read from the digits, two after two.
-- Assumes nothing.
use Rattle.std.proofs.Common.{◌≡◌, ◌∙◌, ◌<◌, ◌%◌, ◌≢◌, ◌⊎◌, inl, inr, sym, ap, length, arith, rules, eqb-true, Some, None, Err, subst, ◌/◌}
use Rattle.std.specs.Slice.Iter.{chunks_exact_rest}
use Rattle.std.proofs.lemmas.Grind.{common_steps}
use Rattle.std.proofs.lemmas.Bool.{eqb-false}
use Rattle.drill_text.specs.declared.fault.Fault.TheVariants.{Bad}
use Rattle.drill_text.specs.Values.{bytes_of, hexadecimal_of}
use Rattle.drill_text.proofs.Bytes.{SoFar, byte_read, no_byte_read, all_read, bytes_within, bad_bytes, fine_bytes, miscounted, value_had, value_lacked}
use Rattle.drill_text.proofs.keys.Value.bytes.Goals as goal
use Rattle.drill_text.proofs.keys.Value.bytes.Goals.{then-is_empty-via-then-is_empty, then-is_empty-via-else-is_empty+then-text-ne0}
use Rattle.drill_text.proofs.keys.Value.bytes.Goals.{then-is_empty-via-else-is_empty+else-text-ne0+then-most-text}

pub returns-then-is_empty : goal.returns-then-is_empty
returns-then-is_empty c =
    let text = c.in_ok-text.text in
    let had = value_had c.args.self.text _ text c.in_ok-text.ensures in
    let count : (length text.now ≡ 0) ⊎ (length text.now % 2 ≢ 0) ⊎ (c.args.most < length text.now / 2) =
    elim c.then-is_empty.branch [
      | then-is_empty-via-then-is_empty w ↦ inl (eqb-true (length text.now) 0 (sym c.is_empty.ensures ∙ w.if-is_empty.true))
      | then-is_empty-via-else-is_empty+then-text-ne0 w ↦ inr (inl w.if-text-ne0.true)
      | then-is_empty-via-else-is_empty+else-text-ne0+then-most-text w ↦ inr (inr w.if-most-text.true)
    ] in
    inr (bad_bytes c.args.self.key text c.args.most c.args.self.text had (sym c.eq.ensures ∙ c.if-eq.false) (miscounted c.args.most text.now count))

pub returns-in_err-ok_or : goal.returns-in_err-ok_or
returns-in_err-ok_or c =
    let i = c.loop-digits.invariant in
    let s = c.in-Some.ensures.steps in
    let text = c.in_ok-text.text in
    let had = value_had c.args.self.text _ text c.in_ok-text.ensures in
    let some = eqb-false (length text.now) 0 (sym c.is_empty.ensures ∙ c.if-is_empty.false) in
    let all : chunks_exact_rest c.into_iter-digits-iterator.result ≡ text.now = cc in
    let none : None ≡ hexadecimal_of 2 c.in-Some.digits.now = value_lacked c.byte.result _ c.in_err-ok_or.field-0.0 c.in_err-ok_or.ensures.value
    ∙ c.byte.ensures in
    let read = no_byte_read (chunks_exact_rest c.into_iter-digits-iterator.result) c.loop-digits.bytes.items _ c.in-Some.digits.now _ i.read s.1.0 (s.1.1
    ∙ i.two) none in
    let bad : c.from_residual-in_err-ok_or.result ≡ Err (Bad c.args.self.key) = search rules in
    rw bad (inr (bad_bytes c.args.self.key text c.args.most c.args.self.text had (sym c.eq.ensures ∙ c.if-eq.false)
    (bytes_within c.args.most text.now some (omega arith) ∙ ap bytes_of (sym all) ∙ read)))

pub loop-digits-preserved : goal.loop-digits-preserved
loop-digits-preserved c =
    let i = c.loop-digits.invariant in
    let s = c.in-Some.ensures.steps in
    let long = ap length s.1.0 in
    let next = chunks_exact_rest c.next.new.self in
    let byte : Some c.in_ok-ok_or.field-0 ≡ hexadecimal_of 2 c.in-Some.digits.now =
    sym (value_had c.byte.result _ c.in_ok-ok_or.field-0 c.in_ok-ok_or.ensures.value) ∙ c.byte.ensures in
    let read = byte_read (chunks_exact_rest c.into_iter-digits-iterator.result) c.loop-digits.bytes.items _ c.in-Some.digits.now next c.in_ok-ok_or.field-0
    i.read s.1.0 (s.1.1 ∙ i.two) byte in
    record {
      two = s.0 ∙ i.two;
      left = grind (arith, common_steps, c.in_ok-push.ensures.len);
      read =
          subst (λ bs. SoFar (chunks_exact_rest c.into_iter-digits-iterator.result) bs next) (sym c.in_ok-push.ensures.items) read;
    }

pub returns-in_err-push : goal.returns-in_err-push
returns-in_err-push c = search rules

pub returns : goal.returns
returns c =
    let i = c.loop-digits.invariant in
    let s = c.in-None.ensures.steps in
    let text = c.in_ok-text.text in
    let had = value_had c.args.self.text _ text c.in_ok-text.ensures in
    let all : chunks_exact_rest c.into_iter-digits-iterator.result ≡ text.now = cc in
    let some = eqb-false (length text.now) 0 (sym c.is_empty.ensures ∙ c.if-is_empty.false) in
    let left : length (chunks_exact_rest c.loop-digits.digits-iterator) ≡ 0 = omega (arith, ap length all) in
    let read = all_read (chunks_exact_rest c.into_iter-digits-iterator.result) c.loop-digits.bytes.items (chunks_exact_rest c.loop-digits.digits-iterator)
    i.read left in
    fine_bytes c.args.self.key text c.args.most c.args.self.text c.loop-digits.bytes.items had (sym c.eq.ensures ∙ c.if-eq.false)
    (bytes_within c.args.most text.now some (omega arith) ∙ ap bytes_of (sym all) ∙ read)
