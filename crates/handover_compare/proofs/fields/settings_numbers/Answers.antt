-- `settings_numbers` meets its contract: what each call ensures.
-- Assumes nothing.
use mathlib.Core.Path.{ap, ◌∙◌}
use mathlib.Core.List.{[], ◌∷◌}
use mir.Facts.{to_z-of_z}
use Rattle.handover_groups.proofs.Fit.{settings_fit}
use Rattle.handover_groups.proofs.OfCodes.{yes_byte}
use Rattle.handover_compare.specs.Readings.{bits64, settings_numbers}
use Rattle.handover_compare.proofs.fields.settings_numbers.Goals as goal

pub returns : goal.returns
unfolding settings_numbers
returns c =
    let s = c.args.s in
    let fit = settings_fit s _ c.well_formed.0 in
    let min = c.bits64.ensures ∙ ap bits64 (to_z-of_z fit.min) in
    let max = c.bits64-2.ensures ∙ ap bits64 (to_z-of_z fit.max) in
    let nts = c.from-2.ensures ∙ yes_byte s.nts in
    λ i. min i ∷ max i ∷ c.from.ensures i ∷ s.window ∷ s.upgrademark ∷ c.version_number.ensures i ∷ nts i ∷ c.from-3.ensures i ∷ []
