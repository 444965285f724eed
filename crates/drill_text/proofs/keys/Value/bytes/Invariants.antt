-- The bytes so far are those of the digits so far.
-- Assumes nothing.
use Rattle.std.proofs.Common.{◌≡◌, ◌+◌, ◌*◌, length, vec_len}
use Rattle.std.specs.Slice.Iter.{chunks_exact_rest, chunks_exact_size}
use Rattle.drill_text.proofs.Bytes.{SoFar}
use Rattle.drill_text.proofs.keys.Value.bytes.Given as goal

abbrev pub invariant-loop-digits : goal.invariant-loop-digits
invariant-loop-digits l = record {
  two : chunks_exact_size l.digits-iterator ≡ 2;
  left : length (chunks_exact_rest l.digits-iterator) + 2 * vec_len l.bytes ≡ length (chunks_exact_rest l.initial.digits-iterator);
  read : SoFar (chunks_exact_rest l.initial.digits-iterator) l.bytes.items (chunks_exact_rest l.digits-iterator);
}
