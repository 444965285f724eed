use native.Mathlib.Omega.{arith}
use mathlib.Core.Path.{refl}
use Prim.Native.Nat.{◌+◌, ◌-◌, ◌*◌}
use Rattle.record_stash.specs.Slots.{kept_slot}
use Rattle.record_stash.proofs.Change.{becomes_by, kept_fits}
use Rattle.record_stash.proofs.store_at.Goals as goal

pub returns : goal.returns
returns c =
    let args = c.args in
    let pre = c.requires in
    let at = 92 + args.place * 726 in
    becomes_by args.cap args.b.now pre.0 args.place pre.1 (kept_slot args.kept.len args.kept.bytes.now)
    (kept_fits args.kept.len args.kept.bytes.now (omega arith) args.kept.fits)
    args.read args.held at (at + 726 - at) refl (omega arith) _ c.fill_row.ensures
