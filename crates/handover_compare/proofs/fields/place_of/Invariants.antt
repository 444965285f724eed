-- `place_of` meets its contract. The invariant: the place of what lies ahead, counted from here.
-- Assumes nothing.
use Prim.Native.Nat.{◌+◌}
use mathlib.Core.Path.{◌≡◌}
use lib.ListN.{drop}
use Rattle.handover_compare.specs.Fields.{place_of}
use Rattle.handover_compare.proofs.fields.place_of.Given as goal

abbrev pub invariant-loop-i : goal.invariant-loop-i
invariant-loop-i l = place_of l.l l.r ≡ l.i + place_of (drop l.i l.l) (drop l.i l.r)
