-- `words::zeros_from` meets its contract. The invariant: what is gathered and what lies ahead decide as all of it does.
-- Assumes nothing.
use mathlib.Core.Path.{◌≡◌}
use mathlib.Core.Bool.{◌&&◌}
use lib.Dec.{eqb}
use lib.ListN.{drop}
use Rattle.words.specs.Bytes.{zeros}
use Rattle.words.proofs.zeros_from.Given as goal

abbrev pub invariant-loop-x : goal.invariant-loop-x
invariant-loop-x l = record { there : l.x-items ≡ drop l.from l.b; tested : zeros l.x-items ≡ eqb l.all 0 && zeros (drop l.x-index l.x-items) }
