-- `add_all` meets its contract. The invariant: the loads are those of the entries passed.
-- Assumes nothing.
use Rattle.calendar.proofs.Loaded.{Loaded}
use Rattle.calendar.proofs.add_all.Given as goal

abbrev pub invariant-loop-k : goal.invariant-loop-k
invariant-loop-k l = Loaded l.starts l.repeats l.loads l.k
