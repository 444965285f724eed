-- Every claim of a table holds: a line of the proof for each row.
-- Assumes nothing.
use Rattle.std.specs.Prelude.{List, [], ◌∷◌}

infixr 40 ◌&◌
pub data All {C : Type 0} (Right : C → Type 0) : List C → Type 0 where
  end : All Right []
  ◌&◌ : {c : C} {cs : List C} → Right c → All Right cs → All Right (c ∷ cs)
