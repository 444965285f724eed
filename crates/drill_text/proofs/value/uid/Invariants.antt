-- The bytes so far are those of the digits so far.
-- Assumes nothing.
use Rattle.std.proofs.Common.{◌≡◌, ◌+◌, ◌*◌, length, take}
use Rattle.std.specs.Iterator.Adapters.{enumerate_source, enumerate_count}
use Rattle.std.specs.Slice.Iter.{chunks_exact_rest, chunks_exact_size}
use Rattle.drill_text.proofs.Bytes.{SoFar}
use Rattle.drill_text.proofs.value.uid.Given as goal

abbrev pub invariant-loop-i : goal.invariant-loop-i
invariant-loop-i l =
    let rest = chunks_exact_rest (enumerate_source l.i-iterator) in
    let count = enumerate_count l.i-iterator in
    record {
      two : chunks_exact_size (enumerate_source l.i-iterator) ≡ 2;
      left : length rest + 2 * count ≡ 64;
      room : length l.uid ≡ 32;
      read : SoFar l.fn.text (take count l.uid) rest;
    }
