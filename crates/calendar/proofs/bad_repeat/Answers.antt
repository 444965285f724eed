-- `bad_repeat` meets its contract: the search finds the lowest entry whose repeat does not divide the day.
-- Assumes nothing.
use Rattle.std.proofs.Common.{rules, tests}
use Rattle.calendar.proofs.Searching.{lowest_from_find}
use Rattle.calendar.proofs.bad_repeat.Goals as goal

pub returns : goal.returns
returns c = lowest_from_find _ _ _ _ _ c.find.ensures.ran (λ x q k. search (rules, tests)) (λ x q k. search (rules, tests))
