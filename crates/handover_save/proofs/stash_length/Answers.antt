-- `stash_length` meets its contract. The loop's invariant: the sum so far, and what is still to come, are the whole.
-- Assumes nothing.
use Prim.Native.Nat.{ℕ}
use mathlib.Core.Path.{ap, ◌∙◌}
use native.Mathlib.Omega.{arith}
use Rattle.cookiestash.specs.Stash.{stored, slot_at}
use Rattle.handover_file.specs.Given.{cookie_of}
use Rattle.handover_save.proofs.Writing.{sum_begins_at, sum_age, place_is, seen_long}
use Rattle.handover_save.proofs.stash_length.Goals as goal

pub loop-age-init : goal.loop-age-init
loop-age-init g c = sum_begins_at _ _ c.args.a.now.whole

pub loop-age-preserved : goal.loop-age-preserved
loop-age-preserved g c =
    let a = g.S.Savable.association c.args.a.now.of.now in
    let w = c.args.a.now.whole in
    let i = c.loop-age.invariant in
    let e = place_is a.settings c.loop-age.age c.wrapped-place.ensures c.from-capacity.ensures c.settings.ensures c.read-read.ensures in
    let k = seen_long _ (cookie_of c.cookie.result) (w.each _ (omega (arith, i.places, w.room, e))) c.cookie.ensures in
    sum_age _ _ w _ _ (omega (arith, c.held-age-end.ensures)) i _ (k ∙ ap (λ (n : ℕ). stored (slot_at a.stash.slots n).len) e)
