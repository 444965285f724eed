-- The lowest number below a bound that passes a test: an entry, a minute or a start, whichever is looked for.
-- Assumes nothing.
use Rattle.std.specs.Prelude.{◌≡◌, Bool, true, false, cond, ℕ, zero, suc, ◌<◌, Option, Some, None}

-- a function of the number that was found, or `other` if none was
abbrev pub named : {A : Type 0} → Option ℕ → (ℕ → A) → A → A
named (Some k) f other = f k
named None f other = other

-- below n + 1: the lowest below n or, if there is none, n if it passes
-- promise: no13.3
unfoldable pub lowest : (ℕ → Bool) → ℕ → Option ℕ
lowest test zero = None
lowest test (suc n) = named (lowest test n) Some (cond (test n) (Some n) None)

abbrev pub is_nothing : Option ℕ → Bool
is_nothing (Some k) = false
is_nothing None = true

-- ---- what it means

-- a number below the bound that passes, with none below it that does
-- promise: no13.3
pub record First (test : ℕ → Bool) (n i : ℕ) : Type 0 where
  pub below : i < n
  pub passes : test i ≡ true
  pub first : (k : ℕ) → k < i → test k ≡ false

-- none below the bound passes
-- promise: no13.3
abbrev pub NonePasses : (ℕ → Bool) → ℕ → Type 0
NonePasses test n = (k : ℕ) → k < n → test k ≡ false

abbrev pub Sought : (ℕ → Bool) → ℕ → Option ℕ → Type 0
Sought test n (Some i) = First test n i
Sought test n None = NonePasses test n
