-- `put_cookies` meets its contract. The loop's invariant: what is still to come, put where the next goes, makes the whole.
-- Assumes nothing.
use Prim.Native.Nat.{◌+◌, ◌-◌}
use Rattle.cookiestash.specs.Stash.{wrap}
use Rattle.handover_save.proofs.Writing.{Writing}
use Rattle.handover_save.proofs.put_cookies.Given as goal

abbrev pub invariant-loop-age : goal.invariant-loop-age
invariant-loop-age g l =
    let a = g.S.Savable.association l.a.of.now in
    let cap = a.settings.capacity in
    Writing cap l.initial.out l.at a.stash l.out l.to (wrap cap (a.stash.read + l.age)) (a.stash.held - l.age)
