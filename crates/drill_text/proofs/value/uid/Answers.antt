-- `drill_text::value::uid` meets its contract: 32 bytes are read from 64 digits, two after two.
-- Assumes nothing.
use Rattle.std.proofs.Common.{◌≡◌, ◌∙◌, sym, ap, length, take, arith, refl, Some, subst, take_all}
use Rattle.std.specs.Iterator.Adapters.{enumerate_source, enumerate_count}
use Rattle.std.specs.Slice.Iter.{chunks_exact_rest}
use Rattle.std.proofs.lemmas.Grind.{common_steps}
use Rattle.drill_text.proofs.Bytes.{SoFar, nothing_read, byte_read, no_byte_read, byte_written, all_read, uid_read}
use Rattle.drill_text.proofs.value.uid.Goals as goal

pub loop-i-init : goal.loop-i-init
loop-i-init c =
    let source : chunks_exact_rest (enumerate_source c.into_iter-i-iterator.result) ≡ c.args.text.now = cc in
    let count : enumerate_count c.into_iter-i-iterator.result ≡ 0 = cc in
    record { two = cc; left = omega (arith, ap length source); room = refl; read = rw (source, count) (nothing_read c.args.text.now) }

pub returns-in_err-uid : goal.returns-in_err-uid
returns-in_err-uid c =
    let i = c.loop-i.invariant in
    let s = c.in-Some.ensures.steps in
    let none = no_byte_read c.args.text.now _ _ c.in-Some.digits.now _ i.read s.0.1.0 (s.0.1.1 ∙ i.two) c.in_err-uid.ensures in
    c.from_residual.ensures ∙ sym (uid_read c.args.text.now (sym c.eq.ensures ∙ c.if-eq.false) c.if-text.false ∙ none)

pub loop-i-preserved : goal.loop-i-preserved
loop-i-preserved c =
    let i = c.loop-i.invariant in
    let s = c.in-Some.ensures.steps in
    let long = ap length s.0.1.0 in
    let count = enumerate_count c.loop-i.i-iterator in
    let next = chunks_exact_rest (enumerate_source c.next.new.self) in
    let read = byte_read c.args.text.now _ _ c.in-Some.digits.now next c.in_ok-uid.field-0 i.read s.0.1.0 (s.0.1.1 ∙ i.two) c.in_ok-uid.ensures in
    let written = byte_written c.loop-i.uid count c.in-Some.i (enumerate_count c.next.new.self) c.in_ok-uid.field-0 s.1 s.2 (grind (arith, common_steps)) in
    record {
      two = s.0.0 ∙ i.two;
      left = grind (arith, common_steps);
      room = grind (arith, common_steps);
      read =
          subst (λ bs. SoFar c.args.text.now bs next) written read;
    }

pub returns : goal.returns
returns c =
    let i = c.loop-i.invariant in
    let s = c.in-None.ensures.steps in
    let text = c.args.text.now in
    let count = enumerate_count c.loop-i.i-iterator in
    let read = all_read text (take count c.loop-i.uid) (chunks_exact_rest (enumerate_source c.loop-i.i-iterator)) i.read (omega arith) in
    ap Some (sym (take_all count c.loop-i.uid (omega arith)))
    ∙ sym (uid_read text (sym c.eq.ensures ∙ c.if-eq.false) c.if-text.false ∙ read)
