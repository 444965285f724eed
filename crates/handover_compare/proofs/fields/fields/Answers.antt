-- `fields` meets its contract: the groups one behind the other.
-- Assumes nothing.
use mathlib.Core.Path.{◌∙◌}
use Rattle.handover_compare.proofs.Grouped.{grouped, from_1, from_48}
use Rattle.handover_compare.proofs.fields.fields.Goals as goal

pub returns : goal.returns
returns c =
    let l = c.args.l in
    let r = c.args.r in
    grouped l.settings l.state l.stash.now r.settings r.state r.stash.now
    c.settings_numbers.ensures c.settings_numbers-2.ensures (c.eight.ensures ∙ from_1 _ _)
    c.from.ensures c.from-2.ensures c.number.ensures
    (c.from-3.ensures ∙ c.place_of.ensures) (c.from-4.ensures ∙ c.place_of-2.ensures) c.number-2.ensures
    c.cookie_fields.ensures
    c.state_numbers.ensures c.state_numbers-2.ensures (c.eight-2.ensures ∙ from_48 _ _)
