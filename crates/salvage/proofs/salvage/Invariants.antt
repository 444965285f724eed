-- `salvage::salvage` meets its contract. The invariant: what is reported and written so far, and that the rest is what the walk from here on reports.
-- Assumes nothing.
use mathlib.Core.Path.{◌≡◌}
use Rattle.salvage.proofs.Along.{Along}
use Rattle.salvage.proofs.salvage.Given as goal

abbrev pub invariant-loop-step : goal.invariant-loop-step
invariant-loop-step l = record {
  same : l.step-iterator.list.now ≡ l.list;
  along : Along l.list l.initial.out l.out l.report.places l.step-iterator.at l.report.len l.report.kept l.report.skipped l.report.gaps l.in_gap;
}
