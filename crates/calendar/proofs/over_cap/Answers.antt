-- `over_cap` meets its contract: the search finds the lowest minute above the cap.
-- Assumes nothing.
use Rattle.std.proofs.Common.{rules, tests, ap, ◌∙◌}
use lib.Dec.{ltb}
use Rattle.std.proofs.lemmas.Iterator.{YieldsList-from_slice}
use Rattle.std.proofs.lemmas.Iterator.Search.{position_from_yields_List}
use Rattle.calendar.specs.Loads.{above}
use Rattle.calendar.specs.Lowest.{lowest}
use Rattle.calendar.proofs.Searching.{lowest_from_position}
use Rattle.calendar.proofs.over_cap.Goals as goal

pub returns : goal.returns
returns c =
    position_from_yields_List (λ load. ltb c.args.cap load) _ _ _ c.position.ensures.ran (YieldsList-from_slice _ c.iter.ensures.rest) (λ x b q k. search (rules, tests))
    ∙ lowest_from_position (λ load. ltb c.args.cap load) c.args.loads.now 0
    ∙ ap (lowest (above c.args.cap c.args.loads.now)) c.told-loads
