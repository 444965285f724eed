-- `place_all` meets its contract. The invariant: the entries passed are placed, and the rest of the plan is that of the rest.
-- Assumes nothing.
use mathlib.Core.Path.{◌≡◌}
use lib.ListN.{length}
use Rattle.calendar.proofs.Placing.{Placing}
use Rattle.calendar.proofs.place_all.Given as goal

abbrev pub invariant-loop-k : goal.invariant-loop-k
invariant-loop-k l = record { long : length l.placed ≡ 64; placing : Placing l.cap l.repeats l.loads l.placed l.k }
