-- `walker::body_at` meets its contract.
-- Assumes nothing.
use Rattle.std.proofs.Common.{refl, ◌+◌, ◌≤◌, ◌<◌, length, arith}
use borrow.Author.Tests.{le-leb, lt-leb}
use native.Mathlib.Nat.{add-sub_cancel_left}
use Rattle.words.specs.Bytes.{part}
use Rattle.wire_fields.specs.Walker.{body_of, body_from}
use Rattle.wire_fields.proofs.walker.body_at.Goals as goal
use Rattle.wire_fields.proofs.walker.body_at.Goals.{else-start-p-via-then-start-p+else-len-p, else-start-p-via-else-start-p}

pub returns-then-len-p : goal.returns-then-len-p
unfolding body_of body_from part
returns-then-len-p c =
    let a = c.args in
    let h : a.start + a.len ≤ length a.p.now = omega arith in
    let e = le-leb _ _ h in
    record { bytes = simp (e, add-sub_cancel_left); block = refl; offset = simp e (omega arith) }

pub returns-else-start-p : goal.returns-else-start-p
unfolding body_of body_from
returns-else-start-p c =
    let a = c.args in
    let h : length a.p.now < a.start + a.len =
    elim c.else-start-p.branch [
      | else-start-p-via-then-start-p+else-len-p w ↦ omega arith
      | else-start-p-via-else-start-p w ↦ omega arith
    ] in
    let e = lt-leb _ _ h in
    record { bytes = simp e; block = refl; offset = simp e (omega arith) }
