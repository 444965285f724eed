-- `put_cookies` meets its contract. The loop's invariant: what is still to come, put where the next goes, makes the whole.
-- Assumes nothing.
use Prim.Native.Nat.{ℕ, ◌+◌}
use mathlib.Core.Path.{◌≡◌, ap, subst, ◌∙◌}
use native.Mathlib.Omega.{arith}
use Rattle.cookiestash.specs.Stash.{slot_at, wrap}
use Rattle.cookiestash.specs.Queue.{Cookie, seen}
use Rattle.handover_file.specs.Cookies.{cookie_bytes}
use Rattle.handover_file.specs.Given.{cookie_of}
use Rattle.words.specs.Put.{Put}
use Rattle.handover_save.proofs.Writing.{begins_at, fits_next, writes_age, written, place_is}
use Rattle.handover_save.proofs.put_cookies.Goals as goal
use Rattle.handover_save.proofs.put_cookies.Goals.{After-cookie}

-- the cookie of this age
kept : (g : _) (k : After-cookie g) → let a = g.S.Savable.association k.args.a.now.of.now in
    cookie_of k.cookie.result ≡ seen (slot_at a.stash.slots (wrap a.settings.capacity (a.stash.read + k.loop-age.age)))
kept g k =
    let a = g.S.Savable.association k.args.a.now.of.now in
    k.cookie.ensures
    ∙ ap (λ (i : ℕ). seen (slot_at a.stash.slots i))
    (place_is a.settings k.loop-age.age k.wrapped-place.ensures k.from-capacity.ensures k.settings.ensures k.read-read.ensures)

pub loop-age-init : goal.loop-age-init
loop-age-init g c = begins_at _ _ _ _ c.args.a.now.whole

pub put_cookie-to-requires : goal.put_cookie-to-requires
put_cookie-to-requires g c =
    let l = c.loop-age in
    let p = c.requires in
    let e = kept g (goal.at.put_cookie-to-requires g c).After-cookie in
    rw e (fits_next _ _ _ _ p _ _ _ _ l.invariant (omega (arith, c.held-age-end.ensures)))

pub loop-age-preserved : goal.loop-age-preserved
loop-age-preserved g c =
    let l = c.loop-age in
    let e = kept g (goal.at.loop-age-preserved g c).After-cookie in
    writes_age _ _ _ _ c.args.a.now.whole c.requires _ _ _ (omega (arith, c.held-age-end.ensures)) l.invariant _ _
    (subst (λ (k : Cookie). Put l.out l.to (cookie_bytes k) c.put_cookie-to.result c.put_cookie-to.new.out) e c.put_cookie-to.ensures)

pub returns : goal.returns
returns g c = written _ _ _ _ c.requires _ _ _ _ c.loop-age.invariant (omega (arith, c.held-age-end.ensures))
