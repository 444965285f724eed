-- `wire_collector::collect` meets its contract. The invariant: the first bytes of the list are in the buffer, and its rest is still to come.
-- Assumes nothing.
use Rattle.std.proofs.Common.{◌≡◌, ◌≤◌, refl, sym, ap, ◌∙◌, true, length, length-drop, arith}
use lib.Seq.{take-length}
use Rattle.std.specs.Prelude.{is_some}
use borrow.Author.Tests.{le-leb, lt-leb}
use Rattle.words.proofs.Put.{laid_put}
use Rattle.wire_fields.specs.Walk.{decrypted_walk, whole}
use Rattle.wire_fields.specs.Fields.{shown, fields_left}
use Rattle.wire_fields.proofs.Left.{whole_ends}
use Rattle.wire_collector.specs.Collector.{list_in, collect_of, buffer_of}
use Rattle.wire_collector.proofs.Records.{list_left, left_start, left_cookie, fits, advance}
use Rattle.wire_collector.proofs.collect.Goals as goal
use Rattle.wire_collector.proofs.collect.Goals.{Else-is_none, At-loop-field}

-- what was passed before the loop: that the walk ends, and that the list fits
ended : (b : Else-is_none) → whole (decrypted_walk b.args.decrypted.now) ≡ true
ended b = whole_ends (decrypted_walk b.args.decrypted.now) ∙ ap is_some (sym b.decrypted_walk.ensures) ∙ b.if-is_none.ensures

room : (l : At-loop-field) → length (list_in l.args.decrypted.now) ≤ length l.args.out.now
room l = omega (arith, l.if-out-list_length.false, l.list_length.ensures)

pub returns-then-is_none : goal.returns-then-is_none
unfolding collect_of buffer_of
returns-then-is_none c =
    let o = whole_ends (decrypted_walk c.args.decrypted.now) ∙ ap is_some (sym c.decrypted_walk.ensures) ∙ c.if-is_none.ensures in
    (rw o, rw o)

pub returns-then-out-list_length : goal.returns-then-out-list_length
unfolding collect_of buffer_of
returns-then-out-list_length c =
    let a = c.args in
    let l = lt-leb (length (list_in a.decrypted.now)) (length a.out.now) (omega arith) in
    let w = ended (goal.at.returns-then-out-list_length c).Else-is_none in
    (rw (w, l), rw (w, l))

pub loop-field-init : goal.loop-field-init
loop-field-init c =
    let it = c.decrypted-field-items in
    record {
      upto = omega arith;
      left = sym (left_start c.args.decrypted.now _ (ap fields_left c.into_iter-field-iterator.ensures.into_iter_gives ∙ it.ensures.fields));
      buffer = refl;
      long = refl;
    }

pub loop-field-preserved-then-field-eq-COOKIE_KIND : goal.loop-field-preserved-then-field-eq-COOKIE_KIND
loop-field-preserved-then-field-eq-COOKIE_KIND c =
    let k = goal.at.loop-field-preserved-then-field-eq-COOKIE_KIND c in
    let rest = fields_left c.next.new.self in
    let e = ap list_left c.in-Some.ensures.steps.0 ∙ left_cookie (shown c.in-Some.field) rest c.if-field-eq-COOKIE_KIND.true in
    let i = rw e at c.loop-field.invariant in
    let r = c.lay_record-to in
    advance _ _ _ _ _ _ i r.new.out r.result (laid_put _ _ _ r.ensures (fits _ _ _ _ _ _ i (room k.At-loop-field))) r.auto.out

pub returns : goal.returns
unfolding collect_of buffer_of
returns c =
    let i = c.loop-field.invariant in
    let k = goal.at.returns c in
    let p = c.args.decrypted.now in
    let n : c.loop-field.to ≡ length (list_in p) =
    omega (arith, i.upto, simp length-drop at (ap length (i.left ∙ ap list_left c.in-None.ensures.steps.0.0))) in
    let r = le-leb (length (list_in p)) (length c.args.out.now) (room k.At-loop-field) in
    let w = ended k.Else-is_none in
    (rw (w, r, n), i.buffer ∙ rw (w, r, n, take-length))
