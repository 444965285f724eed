-- `laid` meets its contract: the slot behind the newest.
-- Assumes nothing.
use Prim.Native.Nat.{◌+◌}
use native.Mathlib.Omega.{arith}
use borrow.Author.Tests.{lt-leb}
use Rattle.cookiestash.specs.Stash.{put_of, full}
use Rattle.cookiestash.proofs.Places.{wrap_lt}
use Rattle.handover_file.specs.Cookies.{slot_for}
use Rattle.handover_load.proofs.Reading.{kept_is}
use Rattle.handover_load.proofs.laid.Goals as goal

pub offset_bounds-stash-place : goal.offset_bounds-stash-place
offset_bounds-stash-place c = let s = c.args.stash in omega (arith, wrap_lt c.from.result (s.read + s.held) (omega arith))

pub bounds-stash-place : goal.bounds-stash-place
bounds-stash-place c = let s = c.args.stash in omega (arith, wrap_lt c.from.result (s.read + s.held) (omega arith))

pub returns : goal.returns
unfolding put_of full slot_for
returns c =
    let a = c.args in
    simp (c.wrapped-place.ensures, c.from.ensures, c.kept_bytes.ensures, kept_is a.cookie.len a.cookie.bytes.now c.requires.2, lt-leb _ _ c.requires.1)
