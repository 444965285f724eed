use Prim.Native.Nat.{◌+◌}
use lib.ListN.{get_or}
use native.Mathlib.Omega.{arith}
use mathlib.Core.Path.{subst}
use Rattle.cookiestash.proofs.Range.{within}
use Rattle.cookiestash.proofs.Places.{wrap_lt, next_lt}
use Rattle.record_stash.specs.Slots.{kept_slot, Becomes}
use Rattle.record_stash.proofs.Stores.{room_put, full_put}
use Rattle.record_stash.proofs.put.Goals as goal

pub store_at-requires : goal.store_at-requires
store_at-requires c =
    let pre = c.requires in
    let args = c.args in
    let w = within args.cap (get_or args.b.now 27 0) (get_or args.b.now 28 0) pre.1 in
    let l = wrap_lt args.cap (get_or args.b.now 27 0 + get_or args.b.now 28 0) (omega (arith, w)) in (
      pre.0,
      omega (arith, l, rw (c.from-read.ensures, c.from-held.ensures) at c.wrapped-place.ensures),
      omega (arith, w, c.from-read.ensures),
      omega (arith, w, c.from-held.ensures),
    )

pub returns-then-held-cap : goal.returns-then-held-cap
returns-then-held-cap c =
    let args = c.args in
    let wrapped = c.wrapped-place in
    let if1 = c.if-held-cap in
    let store_at = c.store_at in
    subst (Becomes args.cap args.b.now store_at.new.b)
    (room_put args.cap args.b.now (kept_slot args.kept.len args.kept.bytes.now) _ (rw (c.from-read.ensures, c.from-held.ensures) at wrapped.ensures)
    (rw c.from-held.ensures at if1.true)) (rw (c.from-read.ensures, c.from-held.ensures) at store_at.ensures)

pub store_at-requires-2 : goal.store_at-requires-2
store_at-requires-2 c =
    let pre = c.requires in
    let args = c.args in
    let w = within args.cap (get_or args.b.now 27 0) (get_or args.b.now 28 0) pre.1 in
    let l = wrap_lt args.cap (get_or args.b.now 27 0 + get_or args.b.now 28 0) (omega (arith, w)) in
    let n = next_lt args.cap (get_or args.b.now 27 0) w.1 in (
      pre.0,
      omega (arith, l, rw (c.from-read.ensures, c.from-held.ensures) at c.wrapped-place.ensures),
      omega (arith, w, n, rw c.from-read.ensures at c.wrapped-next.ensures),
      omega (arith, w, c.from-held.ensures),
    )

pub returns : goal.returns
returns c =
    let args = c.args in
    let wrapped = c.wrapped-place in
    let if1 = c.if-held-cap in
    let wrapped2 = c.wrapped-next in
    let store-at2 = c.store_at-2 in
    subst (Becomes args.cap args.b.now store-at2.new.b)
    (full_put args.cap args.b.now (kept_slot args.kept.len args.kept.bytes.now) _ (rw (c.from-read.ensures, c.from-held.ensures) at wrapped.ensures)
    (rw c.from-held.ensures at if1.false) _ (rw c.from-read.ensures at wrapped2.ensures))
    (rw c.from-held.ensures at store-at2.ensures)
