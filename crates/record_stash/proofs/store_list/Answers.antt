-- `store_list` meets its contract. Assumes nothing.
use Rattle.std.proofs.Common.{◌≡◌, sym, ap, ◌∙◌, arith}
use Rattle.cookielist.specs.Cookies.{cookies_given, cookies_left}
use Rattle.record_stash.proofs.Along.{broken, begins, goes_on, ends}
use Rattle.record_stash.proofs.store_list.Goals as goal

pub loop-cookie-init : goal.loop-cookie-init
loop-cookie-init c =
    let a = c.args in
    let e : cookies_left c.into_iter-cookie-iterator.result ≡ cookies_given a.list.now
    = ap cookies_left c.into_iter-cookie-iterator.ensures.into_iter_gives ∙ c.new-cookie-items.ensures.cookies in
    rw (e, c.none-dropped.ensures)
    (begins a.capacity a.b.now a.list.now c.requires (λ i. omega (arith, c.type_inv.b i)) (λ i. omega (arith, c.type_inv.list i)) (omega arith)
    (sym c.list_whole.ensures ∙ c.if-list_whole.true))

pub loop-cookie-preserved : goal.loop-cookie-preserved
loop-cookie-preserved c =
    let a = c.args in
    let o = rw c.in-Some.ensures.steps.0 at c.loop-cookie.invariant in
    rw c.plus-dropped.ensures (goes_on a.capacity a.b.now a.list.now _ _ _ _ _ _ o c.store.ensures.0 c.store.ensures.1 c.store.auto.b)

pub returns-in-None : goal.returns-in-None
returns-in-None c = let a = c.args in ends a.capacity a.b.now a.list.now _ _ (rw c.in-None.ensures.steps.0.0 at c.loop-cookie.invariant)

pub returns-else-list_whole : goal.returns-else-list_whole
returns-else-list_whole c =
    let a = c.args in rw c.none-dropped.ensures (broken a.capacity a.b.now a.list.now c.requires (sym c.list_whole.ensures ∙ c.if-list_whole.false))
