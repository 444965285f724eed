-- `CookieStash::store_list` meets its contract. Assumes nothing.
use Rattle.std.proofs.Common.{◌≡◌, sym, ap, ◌∙◌, arith}
use Rattle.cookielist.specs.Cookies.{cookies_given, cookies_left}
use Rattle.cookiestash.proofs.Typed.{typed_is}
use Rattle.cookiestash.proofs.StoreList.{begins, goes_on, ends, stores_none}
use Rattle.cookiestash.proofs.CookieStash.store_list.Goals as goal

pub loop-cookie-init : goal.loop-cookie-init
loop-cookie-init c =
    let a = c.args in
    let e : cookies_left c.into_iter-cookie-iterator.result ≡ cookies_given a.list.now
    = ap cookies_left c.into_iter-cookie-iterator.ensures.into_iter_gives ∙ c.new-cookie-items.ensures.cookies in
    rw (e, c.none-dropped.ensures)
    (begins a.capacity a.self a.list.now (typed_is a.self _ c.well_formed.0) (λ i. omega (arith, c.type_inv.list i)) (omega arith)
    (sym c.list_whole.ensures ∙ c.if-list_whole.true))

pub loop-cookie-preserved : goal.loop-cookie-preserved
loop-cookie-preserved c =
    let a = c.args in
    let o = rw c.in-Some.ensures.steps.0 at c.loop-cookie.invariant in
    rw (c.plus-dropped.ensures, c.store-stored.ensures) (goes_on a.capacity a.self a.list.now _ _ _ _ o)

pub returns-in-None : goal.returns-in-None
returns-in-None c =
    let a = c.args in
    let o = rw c.in-None.ensures.steps.0.0 at c.loop-cookie.invariant in
    let e = ends a.capacity a.self a.list.now _ _ o in
    λ i. record { stash = e.0 i; dropped = e.1 i }

pub returns-else-list_whole : goal.returns-else-list_whole
returns-else-list_whole c =
    let a = c.args in
    let e = stores_none a.capacity a.self a.list.now (sym c.list_whole.ensures ∙ c.if-list_whole.false) in
    λ i. record { stash = e.0 i; dropped = (c.none-dropped.ensures ∙ e.1) i }
