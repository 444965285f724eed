-- The words so far have no fault, and the map has their values.
-- Assumes nothing.
use Rattle.std.proofs.Common.{◌≡◌, ℕ, List, [], map, None, option_copied}
use Rattle.drill_text.specs.Lines.{fault_in, value_in}
use Rattle.drill_text.proofs.Words.{found}
use Rattle.drill_text.proofs.keys.Pairs.read.Given as goal

abbrev pub invariant-loop-word : goal.invariant-loop-word
invariant-loop-word l = record {
  fine : fault_in l.keys [] (map (λ x. x.now) l.yielded) ≡ None;
  values : (key : List ℕ) → option_copied (found l.pairs key) ≡ value_in (map (λ x. x.now) l.yielded) key;
}
