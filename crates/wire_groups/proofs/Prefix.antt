-- Bytes start with others exactly if the slice's own test says so.
-- Assumes nothing.
use Rattle.std.proofs.Common.{◌≡◌, refl, List, [], ◌∷◌, ℕ, eqb}
use Rattle.std.specs.List as std
use Rattle.words.proofs.Tests.{eqb_sym}
use Rattle.wire_groups.specs.Matching.{starts_with}

pub starts_same : (b u : List ℕ) → std.starts_with eqb b u ≡ starts_with b u
starts_same b [] = refl
starts_same [] (x ∷ u) = refl
starts_same (y ∷ b) (x ∷ u) = rw (eqb_sym x y, starts_same b u)
