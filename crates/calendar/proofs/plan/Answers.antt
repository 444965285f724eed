-- `plan` meets its contract: what the planner's loop may ask of the entries.
-- Assumes nothing.
use mathlib.Core.Path.{sym, ◌∙◌}
use Rattle.calendar.proofs.Search.{nothing}
use Rattle.calendar.proofs.Repeats.{zero_at, good}
use Rattle.calendar.proofs.plan.Goals as goal

pub place_all-requires : goal.place_all-requires
place_all-requires c =
    let divide = nothing _ _ (sym c.bad_repeat.ensures ∙ c.in_default.is) in
    (c.if-n-gt-MOST_ENTRIES.false, zero_at 1440, λ k l. (good _ (divide k l)).1)
