-- What the pairs of a line show: the value of a key.
-- Assumes nothing.
use Rattle.std.specs.Prelude.{ℕ, List, Option}
use Rattle.std.specs.BTreeMap.{get_by}
use Rattle.std.specs.Cmp.Lexicographic.{slice_cmp}
use Rattle.std.specs.Ordering.{nat_cmp}
use Rattle.std.specs.Borrow.{Bor}
use Rattle.drill_text.specs.declared.keys.Pairs.{Pairs}

-- promise: drill.6, drill.7
abbrev pub value_at : Pairs → List ℕ → Option (Bor (List ℕ))
value_at pairs key = get_by (λ k. slice_cmp nat_cmp key k.now) pairs.0
