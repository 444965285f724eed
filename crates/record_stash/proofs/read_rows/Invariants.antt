-- `read_rows` meets its contract. The loop's invariant: the lengths so far, and what was tested and what lies ahead decide together.
-- Assumes nothing.
use Prim.Native.Nat.{◌-◌, ◌+◌, ◌*◌}
use mathlib.Core.Path.{◌≡◌}
use mathlib.Core.Bool.{◌&&◌}
use Rattle.cookiestash.specs.Whole.{all_padded}
use Rattle.cookiestash.proofs.Front.{front}
use Rattle.record_stash.specs.Rows.{slots_in}
use Rattle.record_stash.proofs.Rows.{lens}
use Rattle.record_stash.proofs.read_rows.Given as goal

abbrev pub invariant-loop-i : goal.invariant-loop-i
invariant-loop-i l = record {
  read : l.lens ≡ front 8 (lens l.b l.cap) l.i;
  tested : all_padded (slots_in l.b 92 l.cap) ≡ l.padded && all_padded (slots_in l.b (92 + l.i * 726) (l.cap - l.i));
}
