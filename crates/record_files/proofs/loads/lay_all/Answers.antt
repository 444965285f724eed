-- `lay_all` meets its contract. The loop's invariant: the cookies that are left, laid behind those in the rows, make the stash.
-- Assumes nothing.
use mathlib.Core.Path.{sym, ap, subst, ◌∙◌}
use mathlib.Core.List.{List}
use Rattle.cookiestash.specs.Queue.{Cookie}
use Rattle.handover_file.specs.Cookies.{stash_of}
use Rattle.handover_file.specs.Given.{cookies_left}
use Rattle.handover_file.proofs.Given.{left_sized}
use Rattle.record_files.proofs.Laid.{Along, begins, goes_on, ends}
use Rattle.record_files.proofs.loads.lay_all.Goals as goal

pub loop-cookie-init : goal.loop-cookie-init
loop-cookie-init c =
    let a = c.args in
    let p = c.requires in
    subst (λ (cs : List Cookie). Along a.found.settings.capacity cs (stash_of a.found.settings.capacity a.found.stash.now) a.b.now a.b.now)
    (sym (ap cookies_left c.into_iter-cookie-iterator.ensures.into_iter_gives ∙ c.new-cookie-items.ensures))
    (begins a.found.settings.capacity a.found.stash.now a.b.now p.0 a.found.fits a.found.known p.1)

pub loop-cookie-preserved : goal.loop-cookie-preserved
loop-cookie-preserved c =
    let a = c.args in
    let o = c.loop-cookie in
    let e = c.in-Some.ensures.steps in
    goes_on a.found.settings.capacity _ _ (stash_of a.found.settings.capacity a.found.stash.now) a.b.now o.b
    (subst (λ (cs : List Cookie). Along a.found.settings.capacity cs (stash_of a.found.settings.capacity a.found.stash.now) a.b.now o.b) e o.invariant)
    (left_sized _ _ _ e) _ c.lay.ensures c.lay.auto.b

pub returns : goal.returns
returns c =
    let a = c.args in
    let o = c.loop-cookie in
    ends a.found.settings.capacity (stash_of a.found.settings.capacity a.found.stash.now) a.b.now o.b
    (subst (λ (cs : List Cookie). Along a.found.settings.capacity cs (stash_of a.found.settings.capacity a.found.stash.now) a.b.now o.b) c.in-None.ensures.steps.0 o.invariant)
