-- Each item so far is what the parser gave of its part, and the parts that are left are the others.
-- Assumes nothing.
use Rattle.std.proofs.Common.{◌≡◌, ◌≤◌, take, drop, vec_len, Some}
use Rattle.std.specs.List.{AllZip}
use Rattle.std.specs.Fn.{FnReturnsAt}
use Rattle.drill_text.proofs.Splits.{left_parts, left_length}
use Rattle.drill_text.proofs.keys.Value.list.Given as goal

abbrev pub invariant-loop-rest : goal.invariant-loop-rest
invariant-loop-rest g l = record {
  few : vec_len l.items ≤ l.most;
  left : left_parts l.rest ≡ drop (vec_len l.items) (left_parts l.initial.rest);
  parsed : AllZip (λ part item. FnReturnsAt g.P.Fn l.parse part (Some item)) (take (vec_len l.items) (left_parts l.initial.rest)) l.items.items;
}

abbrev pub decreases-loop-rest : goal.decreases-loop-rest
decreases-loop-rest g l = left_length l.rest
