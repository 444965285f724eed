-- `settings_of` meets its contract: field by field, what each call ensures.
-- Assumes nothing.
use Prim.Native.Nat.{◌^◌}
use mathlib.Core.Path.{ap, ◌∙◌}
use mir.Syntax.{w8}
use mir.Facts.{to_z-of_z}
use Rattle.words.specs.Signed.{signed}
use Rattle.identifiers.specs.Names.{named}
use Rattle.time_types.specs.Poll.{interval}
use Rattle.version.specs.Upgrade.{version}
use Rattle.handover_groups.specs.Codes.{yes_of, kind_of}
use Rattle.handover_groups.specs.Settings.{settings_of}
use Rattle.handover_groups.proofs.settings_of.Goals as goal

pub returns : goal.returns
unfolding settings_of
returns c =
    let min = c.u8_as_i8 in
    let max = c.u8_as_i8-2 in
    let is_min = to_z-of_z {w = w8} (record { sfits = min.type_inv }) ∙ min.ensures ∙ ap (signed (2 ^ 7)) c.byte_at.ensures in
    let is_max = to_z-of_z {w = w8} (record { sfits = max.type_inv }) ∙ max.ensures ∙ ap (signed (2 ^ 7)) c.byte_at-2.ensures in
    let is_kind = c.kind_of.ensures ∙ (λ i. kind_of (c.byte_at-4.ensures i) (c.byte_at-5.ensures i)) in
    λ i. record {
      min = interval (is_min i);
      max = interval (is_max i);
      startup = c.byte_at-3.ensures i;
      window = c.be64_at.ensures i;
      upgrademark = c.be64_at-2.ensures i;
      start = version (is_kind i);
      nts = yes_of (c.byte_at-6.ensures i);
      source = named (c.be32_at.ensures i);
      capacity = c.capacity_at.ensures i;
    }
