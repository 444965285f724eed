-- Statements on the walk that the theorems of proofs/Sound.antt prove (RULES, part 7).
-- Assumes nothing.
use Rattle.std.specs.Prelude.{ℕ, ◌+◌, ◌-◌, ◌%◌, ◌≤◌, ◌≡◌, List, [], ◌∷◌, ◌⊎◌, length, Some}
use Rattle.wire_fields.specs.Field.{step_at, refusal_of}
use Rattle.wire_fields.specs.Walk.{Found, fields_of, packet_walk, walked_of}
use Rattle.wire_fields.specs.declared.Step.TheVariants.{Field}

-- every element of a list, and one of them
abbrev pub Each : {A : Type 0} → (A → Type 0) → List A → Type 0
Each P [] = Unit
Each P (x ∷ xs) = P x × Each P xs

abbrev pub One : {A : Type 0} → (A → Type 0) → List A → Type 0
One P [] = ⊥
One P (x ∷ xs) = P x ⊎ One P xs

-- fields that follow one another from an offset to an end: each starts with its head of four bytes, and the next one starts where its body ends
abbrev pub InLine : ℕ → List Found → ℕ → Type 0
InLine at [] end = at ≡ end
InLine at (f ∷ fs) end = (f.at ≡ at) × (f.start ≡ at + 4) × InLine (f.start + f.len) fs end

-- the sum of the fields' lengths, heads included
abbrev pub lengths : List Found → ℕ
lengths [] = 0
lengths (f ∷ fs) = (f.len + 4) + lengths fs

-- a field within the bytes, with a valid length
pub record Legal (p : List ℕ) (least : ℕ) (f : Found) : Type 0 where
  pub within : f.start + f.len ≤ length p
  pub multiple : (f.len + 4) % 4 ≡ 0
  pub enough : least ≤ f.len + 4

-- what holds for the fields of a walk that ends
pub record Sound (p : List ℕ) (at least tail end : ℕ) (fs : List Found) : Type 0 where
  pub line : InLine at fs end
  pub legal : Each (Legal p least) fs
  pub total : at + lengths fs ≡ end
  pub within : end ≤ length p
  pub left : length p - end ≤ tail

-- an offset that a walk reaches: where it starts, and the end of each field at such an offset
pub data Reached (p : List ℕ) (least tail : ℕ) : ℕ → ℕ → Type 0 where
  here : {at : ℕ} → Reached p least tail at at
  past : {at kind start len next to : ℕ} → step_at p at least tail ≡ Field kind start len next → Reached p least tail next to → Reached p least tail at to

-- from an offset, the walk reaches one at which it is rejected with a number
-- promise: 7.5
pub record WalkRefused (p : List ℕ) (least tail at n : ℕ) : Type 0 where
  pub place : ℕ
  pub reached : Reached p least tail at place
  pub number : refusal_of (step_at p place least tail) ≡ Some n

-- a place of a packet's walk, which ends: the first, 48; one where a field starts; or the end
pub record Place (p : List ℕ) (n : ℕ) : Type 0 where
  pub end : ℕ
  pub walked : walked_of (packet_walk p) ≡ Some end
  pub place : (n ≡ 48) ⊎ (One (λ f. f.at ≡ n) (fields_of (packet_walk p)) ⊎ (n ≡ end))
