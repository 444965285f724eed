use lib.ListN.{length, length-take}
use native.Mathlib.Omega.{arith}
use mathlib.Core.Path.{sym, ◌∙◌}
use Rattle.cookiestash.proofs.Stored.{stored_bounds}
use Rattle.record_stash.proofs.Stores.{out_by_lem, long_by, put_by}
use Rattle.record_stash.proofs.store.Goals as goal
use Rattle.record_stash.proofs.store.Goals.{then-not-in_range-via-then-not-in_range, then-not-in_range-via-else-not-in_range+then-cookie-gt-MAX_LENGTH}

pub returns-then-not-in_range : goal.returns-then-not-in_range
returns-then-not-in_range c =
    let args = c.args in
    elim c.then-not-in_range.branch [
      | then-not-in_range-via-then-not-in_range w ↦
          out_by_lem args.capacity args.b.now args.cookie.now c.requires
          (rw (c.from-cap.ensures, c.from.ensures, c.from-2.ensures) at (sym c.in_range.ensures ∙ w.if-not-in_range.true))
      | then-not-in_range-via-else-not-in_range+then-cookie-gt-MAX_LENGTH w ↦
          long_by args.capacity args.b.now args.cookie.now c.requires
          (rw (c.from-cap.ensures, c.from.ensures, c.from-2.ensures) at (sym c.in_range.ensures ∙ w.if-not-in_range.false))
          w.if-cookie-gt-MAX_LENGTH.true
    ]

pub slice_bounds-kept-end : goal.slice_bounds-kept-end
slice_bounds-kept-end c =
    let args = c.args in
    let stored_bytes = c.stored_bytes-n in
    let s = stored_bounds (length args.cookie.now) in omega (arith, s, stored_bytes.ensures, length-take stored_bytes.result args.cookie.now)

pub put-requires : goal.put-requires
put-requires c =
    let pre = c.requires in
    let args = c.args in
    let in_range_lem = c.in_range in
    let if1 = c.if-not-in_range in (
      rw c.from-cap.ensures pre,
      rw c.from-cap.ensures (rw (c.from-cap.ensures, c.from.ensures, c.from-2.ensures) at (sym in_range_lem.ensures ∙ if1.false)),
    )

pub invariant_of-kept : goal.invariant_of-kept
invariant_of-kept c =
    let n = c.stored_bytes-n in
    let cookie = c.args.cookie.now in
    omega (arith, stored_bounds (length cookie), n.ensures, length-take n.result cookie)

pub returns : goal.returns
returns c =
    let pre = c.requires in
    let args = c.args in
    let in_range_lem = c.in_range in
    let if1 = c.if-not-in_range in
    let if2 = c.if-cookie-gt-MAX_LENGTH in
    let falls = c.falls-fallen in
    let stored_bytes = c.stored_bytes-n in
    put_by args.capacity args.b.now args.cookie.now pre
    (rw (c.from-cap.ensures, c.from.ensures, c.from-2.ensures) at (sym in_range_lem.ensures ∙ if1.false)) if2.false _
    stored_bytes.ensures _ _ (rw c.from-cap.ensures at c.put.ensures) (rw c.from-cap.ensures at falls.ensures)
