-- `salvage::salvage` meets its contract. The invariant: what is reported and written so far, and that the rest is what the walk from here on reports.
-- Assumes nothing.
use borrow.Author.Tests.{le-ltb, lt-ltb}
use native.Mathlib.Omega.{arith}
use mathlib.Core.Path.{◌≡◌, ap, ◌∙◌}
use Prim.Native.Nat.{◌+◌, ◌<◌}
use lib.ListN.{length}
use Rattle.std.specs.Prelude.{Some, None, Ok}
use Rattle.words.specs.Bytes.{part}
use Rattle.words.proofs.Put.{laid_put}
use Rattle.salvage.specs.Walk.{record_at}
use Rattle.salvage.specs.Salvage.{salvage_of, buffer_of}
use Rattle.salvage.proofs.Walks.{is_kept}
use Rattle.salvage.proofs.Along.{start, fits, keep, skip, begin_told, begin_untold, reported, whole_buffer}
use Rattle.salvage.proofs.salvage.Goals as goal
use Rattle.salvage.proofs.salvage.Goals.{In-Kept, In-Skipped, then-not-in_gap, then-report-lt-PLACES, else-report-lt-PLACES, else-not-in_gap}

-- the record that the step keeps
kept_here : (c : In-Kept) → let at = c.loop-step.step-iterator.at in
    (at < length c.args.list.now) × (record_at c.args.list.now at ≡ Some c.in-Kept.end) × (c.in-Kept.start ≡ at) × (c.next.new.self.at ≡ c.in-Kept.end)
    × (c.next.new.self.list.now ≡ c.args.list.now)
kept_here c =
    let same = c.loop-step.invariant.same in
    let step = rw c.in-Kept.is at c.in-Some.ensures.steps in
    (rw same at step.1.0, rw same at step.1.1.1, step.1.1.0, step.1.1.2, step.0 ∙ same)

-- the byte that the step skips
skipped_here : (c : In-Skipped) → let at = c.loop-step.step-iterator.at in
    (at < length c.args.list.now) × (record_at c.args.list.now at ≡ None) × (c.in-Skipped.at ≡ at) × (c.next.new.self.at ≡ at + 1)
    × (c.next.new.self.list.now ≡ c.args.list.now)
skipped_here c =
    let same = c.loop-step.invariant.same in
    let step = rw c.in-Skipped.is at c.in-Some.ensures.steps in
    (rw same at step.1.0, rw same at step.1.1.1, step.1.1.0, step.1.1.2, step.0 ∙ same)

pub returns-then-out-list : goal.returns-then-out-list
unfolding salvage_of buffer_of
returns-then-out-list c =
    let short = lt-ltb (length c.args.out.now) (length c.args.list.now) c.if-out-list.true in
    (rw short, rw short)

pub loop-step-init : goal.loop-step-init
loop-step-init c =
    let first = c.into_iter-step-iterator.ensures.into_iter_gives in
    record { same = rw first; along = rw first (start c.args.list.now c.args.out.now) }

pub slice_bounds-lay-end : goal.slice_bounds-lay-end
slice_bounds-lay-end c = let k = is_kept _ _ _ (kept_here (goal.at.slice_bounds-lay-end c).In-Kept).1 in omega (arith, k.within)

pub loop-step-preserved-in-Kept : goal.loop-step-preserved-in-Kept
unfolding part
loop-step-preserved-in-Kept c =
    let k = kept_here (goal.at.loop-step-preserved-in-Kept c).In-Kept in
    let i = c.loop-step.invariant.along in
    record {
      same = k.4;
      along = rw k.3
          (keep _ _ _ _ _ _ _ _ _ _ i _ k.0 k.1 c.lay.new.out c.lay.result
          (laid_put _ _ _ (rw k.2 at c.lay.ensures) (fits _ _ _ _ _ _ _ _ _ _ i _ k.0 k.1 (omega arith))) c.lay.auto.out);
    }

pub loop-step-preserved : goal.loop-step-preserved
loop-step-preserved c =
    let k = skipped_here (goal.at.loop-step-preserved c).In-Skipped in
    let i = c.loop-step.invariant.along in
    record {
      same = k.4;
      along = rw k.3
          (elim c.if-not-in_gap.branch [
            | then-not-in_gap w ↦ elim w.if-report-lt-PLACES.branch [
              | then-report-lt-PLACES v ↦
                  rw (w.report-is, v.report-is, k.2)
                  (begin_told _ _ _ _ _ _ _ _ _ _ i k.0 k.1 w.if-not-in_gap.true v.if-report-lt-PLACES.true)
              | else-report-lt-PLACES v ↦
                  rw (w.report-is, v.report-is)
                  (begin_untold _ _ _ _ _ _ _ _ _ _ i k.0 k.1 w.if-not-in_gap.true v.if-report-lt-PLACES.false)
            ]
            | else-not-in_gap w ↦ rw w.report-is (skip _ _ _ _ _ _ _ _ _ _ i k.0 k.1 w.if-not-in_gap.false)
          ]);
    }

pub returns : goal.returns
unfolding salvage_of buffer_of
returns c =
    let i = c.loop-step.invariant.along in
    let room = le-ltb (length c.args.out.now) (length c.args.list.now) c.if-out-list.false in
    let done = rw c.loop-step.invariant.same at c.in-None.ensures.steps.1.0 in
    (rw room (ap Ok (reported _ _ _ _ _ _ _ _ _ _ i done)), rw room (whole_buffer _ _ _ _ _ _ _ _ _ _ i done))
