-- `freed` meets its contract. The loop's invariant: the lengths ahead decide. Assumes nothing.
use Prim.Native.Nat.{◌+◌, ◌-◌}
use mathlib.Core.Path.{◌≡◌}
use Rattle.cookiestash.specs.Stash.{wrap}
use Rattle.cookiestash.specs.Whole.{round_free}
use Rattle.cookiestash.proofs.freed.Given as goal

abbrev pub invariant-loop-n : goal.invariant-loop-n
invariant-loop-n l =
    round_free l.cap l.lens (wrap l.cap (l.read + l.held)) (l.cap - l.held) ≡ round_free l.cap l.lens (wrap l.cap (l.read + l.n)) (l.cap - l.n)
