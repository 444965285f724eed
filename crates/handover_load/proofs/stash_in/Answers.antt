-- `stash_in` meets its contract. The loop's invariant: the cookies that are left, laid behind those that are there, make the stash.
-- Assumes nothing.
use mathlib.Core.Path.{sym, ap, subst, ◌∙◌}
use mathlib.Core.List.{List}
use lib.ListN.{length}
use native.Mathlib.Omega.{arith}
use Rattle.cookiestash.specs.declared.CookieStash.{CookieStash}
use Rattle.cookiestash.specs.Queue.{Cookie}
use Rattle.handover_file.specs.Cookies.{laid_in, stash_of}
use Rattle.handover_file.specs.Given.{cookies_left}
use Rattle.handover_file.proofs.Given.{left_sized}
use Rattle.handover_load.proofs.Reading.{Laying, lays_one, begun}
use Rattle.handover_load.proofs.stash_in.Goals as goal

pub loop-cookie-init : goal.loop-cookie-init
loop-cookie-init c =
    begun c.args.found.settings.capacity c.args.found.stash.now c.args.found.fits c.args.found.known _ _ _
    (ap cookies_left c.into_iter-cookie-iterator.ensures.into_iter_gives ∙ c.new-cookie-items.ensures) c.new.ensures (c.from.ensures ∙ c.place_of.ensures)

pub laid-stash-requires : goal.laid-stash-requires
laid-stash-requires c =
    let i = c.loop-cookie.invariant in
    let n = ap length c.in-Some.ensures.steps in
    (i.reads, omega (arith, i.room), left_sized _ _ _ c.in-Some.ensures.steps, i.most)

pub loop-cookie-preserved : goal.loop-cookie-preserved
loop-cookie-preserved c =
    let f = c.args.found in
    let cap = f.settings.capacity in
    subst (λ (s : CookieStash). Laying cap (cookies_left c.next.new.self) s (stash_of cap f.stash.now)) (sym c.laid-stash.ensures)
    (lays_one _ _ _ _ _ (subst (λ (cs : List Cookie). Laying cap cs c.loop-cookie.stash (stash_of cap f.stash.now))
    c.in-Some.ensures.steps c.loop-cookie.invariant))

pub returns : goal.returns
returns c = sym (ap (laid_in c.args.found.settings.capacity c.loop-cookie.stash) c.in-None.ensures.steps.0) ∙ c.loop-cookie.invariant.makes
