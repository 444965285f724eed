-- `polls_of` meets its contract.
-- Assumes nothing.
use Prim.Native.Nat.{◌^◌}
use mathlib.Core.Path.{ap, ◌∙◌}
use mir.Syntax.{w8}
use mir.Facts.{to_z-of_z}
use Rattle.words.specs.Signed.{signed}
use Rattle.time_types.specs.Poll.{interval}
use Rattle.handover_groups.specs.State.{polls_of}
use Rattle.handover_groups.proofs.polls_of.Goals as goal

pub returns : goal.returns
unfolding polls_of
returns c =
    let last = c.u8_as_i8 in
    let remote = c.u8_as_i8-2 in
    let is_last = to_z-of_z {w = w8} (record { sfits = last.type_inv }) ∙ last.ensures ∙ ap (signed (2 ^ 7)) c.byte_at.ensures in
    let is_remote = to_z-of_z {w = w8} (record { sfits = remote.type_inv }) ∙ remote.ensures ∙ ap (signed (2 ^ 7)) c.byte_at-2.ensures in
    λ i. record { last = interval (is_last i); remote = interval (is_remote i) }
