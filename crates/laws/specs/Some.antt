-- Some elements of a list, in order, each place used at most once (RULES, No. 14).
-- Assumes nothing.
use Rattle.std.specs.Prelude.{◌≡◌, List, [], ◌∷◌, map, ℕ, suc, ◌≤◌, ◌<◌, length, get_or}

-- by walking along the list: the element at a place is taken or passed over, and then those after it
-- promise: no14.8 (by walking along the list)
pub data SomeOf {A : Type 0} : List A → List A → Type 0 where
  none : SomeOf [] []
  take : {x : A} {xs ys : List A} → SomeOf xs ys → SomeOf (x ∷ xs) (x ∷ ys)
  pass : {y : A} {xs ys : List A} → SomeOf xs ys → SomeOf xs (y ∷ ys)

-- places, each above the one before it
-- promise: no14.8
abbrev pub Rising : ℕ → List ℕ → Type 0
Rising least [] = Unit {0}
Rising least (p ∷ ps) = (least ≤ p) × Rising (suc p) ps

-- places of a list of length n
abbrev pub Below : ℕ → List ℕ → Type 0
Below n [] = Unit {0}
Below n (p ∷ ps) = (p < n) × Below n ps

-- by the places: they rise, so none is used twice, each is within the list, and what is taken is what the list has there
-- promise: no14.8 (by places that rise)
pub record Placed {A : Type 0} (d : A) (xs ys : List A) : Type 0 where
  pub places : List ℕ
  pub rising : Rising 0 places
  pub below : Below (length ys) places
  pub there : xs ≡ map (λ p. get_or ys p d) places
