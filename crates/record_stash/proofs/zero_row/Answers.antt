-- `zero_row` meets its contract: one row is all of its first 726 bytes.
-- Assumes nothing.
use mathlib.Core.Path.{ap, ◌∙◌}
use native.Mathlib.Omega.{arith}
use lib.ListN.{length-take}
use lib.Seq.{take_all}
use Rattle.words.specs.Bytes.{zeros}
use Rattle.record_stash.proofs.zero_row.Goals as goal

pub slice_bounds-zeros_from-end : goal.slice_bounds-zeros_from-end
slice_bounds-zeros_from-end c = omega (arith, length-take 726 c.args.b.now)

pub returns-then-b-eq-ROW : goal.returns-then-b-eq-ROW
returns-then-b-eq-ROW c =
    c.zeros_from.ensures ∙ ap zeros (take_all 726 c.args.b.now (omega arith))
