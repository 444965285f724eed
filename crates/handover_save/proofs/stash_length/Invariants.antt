-- `stash_length` meets its contract. The loop's invariant: the sum so far, and what is still to come, are the whole.
-- Assumes nothing.
use Prim.Native.Nat.{◌+◌, ◌-◌}
use Rattle.cookiestash.specs.Stash.{wrap}
use Rattle.handover_save.proofs.Writing.{Summing}
use Rattle.handover_save.proofs.stash_length.Given as goal

abbrev pub invariant-loop-age : goal.invariant-loop-age
invariant-loop-age g l =
    let a = g.S.Savable.association l.a.of.now in
    let cap = a.settings.capacity in
    Summing cap a.stash l.sum (wrap cap (a.stash.read + l.age)) (a.stash.held - l.age)
