-- `handover_groups::settings_bytes` meets its contract: what each call ensures, laid byte by byte.
-- Assumes nothing.
use Prim.Native.Nat.{◌^◌}
use mathlib.Core.Path.{ap, ◌∙◌}
use mir.Facts.{to_z-of_z}
use Rattle.words.specs.Signed.{unsigned}
use Rattle.handover_groups.specs.Settings.{settings_bytes}
use Rattle.handover_groups.proofs.OfCodes.{yes_byte}
use Rattle.handover_groups.proofs.Fit.{settings_fit}
use Rattle.handover_groups.proofs.settings_bytes.Goals as goal

pub returns : goal.returns
unfolding settings_bytes
returns c =
    let fit = settings_fit c.args.s _ c.well_formed.0 in
    simp (
      c.i8_as_u8.ensures ∙ ap (unsigned (2 ^ 7)) (to_z-of_z fit.min),
      c.i8_as_u8-2.ensures ∙ ap (unsigned (2 ^ 7)) (to_z-of_z fit.max),
      c.copy_from_slice.ensures.after ∙ c.be64_bytes.ensures,
      c.copy_from_slice-2.ensures.after ∙ c.be64_bytes-2.ensures,
      c.copy_from_slice-3.ensures.after ∙ c.be32_bytes.ensures,
      c.kind_code.ensures,
      c.tries_code.ensures,
      c.from.ensures ∙ yes_byte c.args.s.nts,
    )
