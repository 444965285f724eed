-- `state_numbers` meets its contract: what each call ensures.
-- Assumes nothing.
use mathlib.Core.Path.{ap, ◌∙◌}
use mathlib.Core.List.{[], ◌∷◌}
use mir.Facts.{to_z-of_z}
use Rattle.handover_groups.proofs.Fit.{polls_fit}
use Rattle.handover_groups.proofs.OfCodes.{yes_byte}
use Rattle.handover_compare.specs.Readings.{bits64, state_numbers}
use Rattle.handover_compare.proofs.fields.state_numbers.Goals as goal

pub returns : goal.returns
unfolding state_numbers
returns c =
    let s = c.args.s in
    let fit = polls_fit s.polls _ c.well_formed.0.1.1.1.1.0 in
    let last = c.bits64.ensures ∙ ap bits64 (to_z-of_z fit.last) in
    let remote = c.bits64-2.ensures ∙ ap bits64 (to_z-of_z fit.remote) in
    let denial = c.from-5.ensures ∙ yes_byte s.source.denial in
    λ i. c.from.ensures i ∷ c.from-2.ensures i ∷ c.version_number.ensures i ∷ last i ∷ remote i ∷ c.from-3.ensures i ∷ c.from-4.ensures i ∷ denial i ∷ []
