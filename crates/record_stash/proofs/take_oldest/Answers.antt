use lib.ListN.{get_or}
use native.Mathlib.Omega.{arith}
use mathlib.Core.Path.{sym, ◌∙◌}
use Rattle.cookiestash.proofs.Places.{next_lt}
use Rattle.record_stash.proofs.Change.{has, taken_by, left_by}
use Rattle.record_stash.proofs.take_oldest.Goals as goal

pub store_at-requires : goal.store_at-requires
store_at-requires c =
    let args = c.args in
    let pre = c.requires in
    let has-cookie = c.has_cookie in
    let if1 = c.if-has_cookie in
    let h = has args.capacity (get_or args.b.now 27 0) (get_or args.b.now 28 0)
    (rw (c.from-cap.ensures, c.from-read.ensures, c.from-held.ensures) at (sym has-cookie.ensures ∙ if1.true)) in
    let n = next_lt args.capacity (get_or args.b.now 27 0) h.1 in
    let next = rw (c.from-cap.ensures, c.from-read.ensures) at c.wrapped-next.ensures in
    (rw c.from-cap.ensures pre, rw (c.from-cap.ensures, c.from-read.ensures) h.1, omega (arith, h, n, next), omega (arith, h, c.from-held.ensures))

pub returns-then-has_cookie : goal.returns-then-has_cookie
returns-then-has_cookie c =
    let args = c.args in
    let pre = c.requires in
    let has-cookie = c.has_cookie in
    let if1 = c.if-has_cookie in
    let give = c.give in
    let wrapped = c.wrapped-next in
    taken_by args.capacity args.b.now (pre) args.buffer.now
    (rw (c.from-cap.ensures, c.from-read.ensures, c.from-held.ensures) at (sym has-cookie.ensures ∙ if1.true)) _ _ _
    (rw (c.from-cap.ensures, c.from-read.ensures) at wrapped.ensures)
    (rw (c.from-cap.ensures, c.from-read.ensures, c.from-held.ensures) at c.store_at.ensures) (rw c.from-read.ensures at give.ensures)

pub returns-else-has_cookie : goal.returns-else-has_cookie
returns-else-has_cookie c =
    let args = c.args in
    let pre = c.requires in
    left_by args.capacity args.b.now (pre) args.buffer.now
    (rw (c.from-cap.ensures, c.from-read.ensures, c.from-held.ensures) at (sym c.has_cookie.ensures ∙ c.if-has_cookie.false))
