-- A search of a list by equality is the definition's search of it.
-- Assumes nothing.
use mathlib.Core.Path.{◌≡◌, refl}
use mathlib.Core.List.{List, [], ◌∷◌}
use Prim.Native.Nat.{ℕ}
use Rattle.std.specs.Prelude.{◌==◌}
use Rattle.std.specs.List.{list_any}
use Rattle.association_accept.specs.Accept.{among}

pub contains_is : (id : ℕ) (l : List ℕ) → list_any (λ x. x == id) l ≡ among id l
contains_is id [] = refl
contains_is id (x ∷ l) = rw (contains_is id l)
