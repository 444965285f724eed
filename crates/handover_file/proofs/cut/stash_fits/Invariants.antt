-- `handover_file::cut::stash_fits` meets its contract. The loop's invariant: what is read from `at` on decides.
-- Assumes nothing.
use Prim.Native.Nat.{◌≤◌, ◌-◌}
use mathlib.Core.Path.{◌≡◌}
use lib.ListN.{length, drop}
use Rattle.handover_file.specs.Cookies.{is_run, run_of, stash_fits}
use Rattle.handover_file.proofs.cut.stash_fits.Given as goal

abbrev pub invariant-loop-end : goal.invariant-loop-end
invariant-loop-end l = (l.at ≤ length l.b) × (is_run (run_of (drop l.at l.b)) ≡ stash_fits l.b)

abbrev pub decreases-loop-end : goal.decreases-loop-end
decreases-loop-end l = length l.b - l.at
