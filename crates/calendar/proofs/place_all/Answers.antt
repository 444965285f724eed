-- `place_all` meets its contract. The invariant: the entries passed are placed, and the rest of the plan is that of the rest.
-- Assumes nothing.
use native.Mathlib.Omega.{arith}
use mathlib.Core.Path.{sym, ◌∙◌}
use lib.ListN.{length-set}
use Rattle.calendar.proofs.Search.{found}
use Rattle.calendar.proofs.Loaded.{small}
use Rattle.calendar.proofs.Placing.{begin, stops, step, ends}
use Rattle.calendar.proofs.place_all.Goals as goal

pub loop-k-init : goal.loop-k-init
loop-k-init c = record { long = omega arith; placing = begin _ _ _ _ (omega arith) c.requires.1 }

pub returns-in_default : goal.returns-in_default
returns-in_default c =
    stops _ _ _ _ _ c.loop-k.invariant.placing (omega arith) _ c.from-repeat.ensures (omega arith) (sym c.earliest.ensures ∙ c.in_default.is)

pub overflow_cast-placed : goal.overflow_cast-placed
overflow_cast-placed c =
    let at = found _ _ _ (sym c.earliest.ensures ∙ c.in-Some.is) in
    record { fits = omega (arith, at.below, c.requires.2 c.loop-k.k c.loop-k-test.true) }

pub add-requires : goal.add-requires
add-requires c =
    let at = found _ _ _ (sym c.earliest.ensures ∙ c.in-Some.is) in
    (at.below, omega (arith, c.requires.2 c.loop-k.k c.loop-k-test.true), small _ _ _ _ c.loop-k.invariant.placing.loaded (omega arith))

pub loop-k-preserved : goal.loop-k-preserved
loop-k-preserved c = record {
  long = simp length-set c.loop-k.invariant.long;
  placing = step _ _ _ _ _ c.loop-k.invariant.placing (omega arith) _ c.from-repeat.ensures c.loop-k-test.true _
      (sym c.earliest.ensures ∙ c.in-Some.is) _ (omega arith) c.add.ensures;
}

pub returns : goal.returns
returns c = ends _ _ _ _ _ c.loop-k.invariant.placing c.loop-k-test.false
