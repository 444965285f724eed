-- `widened` meets its contract. The loop's invariant: the places passed are written.
-- Assumes nothing.
use Prim.Native.Nat.{ℕ, ◌<◌}
use mathlib.Core.Path.{◌≡◌}
use lib.ListN.{length, get_or}
use Rattle.exports_values.proofs.tools.widened.Given as goal

abbrev pub invariant-loop-i : goal.invariant-loop-i
invariant-loop-i l = (length l.wide ≡ 32) × ((k : ℕ) → k < l.i → get_or l.wide k 0 ≡ get_or l.fn.places k 0)
