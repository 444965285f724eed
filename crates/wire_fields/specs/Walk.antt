-- The walk over extension fields, its places, and its fields (RULES, part 7).
-- Assumes nothing.
use Rattle.std.specs.Prelude.{ℕ, zero, suc, ◌-◌, List, [], ◌∷◌, Bool, true, false, ◌&&◌, ◌||◌, cond, length, ltb, leb, eqb, Option, Some, None}
use Rattle.words.specs.Bytes.{part}
use Rattle.wire_fields.specs.Field.{step_at}
use Rattle.wire_fields.specs.declared.Step.{Step}
use Rattle.wire_fields.specs.declared.Step.TheVariants as S

-- a field of a walk: where it starts, its type, where its body starts and how long that is
pub record Found : Type 0 where
  pub at : ℕ
  pub kind : ℕ
  pub start : ℕ
  pub len : ℕ

-- a walk: fields, and then the offset where it ends, or that it is broken
pub data Walk : Type 0 where
  field : Found → Walk → Walk
  ends : ℕ → Walk
  broken : Walk

-- a step, and the walk from where its field ends; it stops at the first answer that is not a field
abbrev pub on_step : (ℕ → Walk) → ℕ → Step → Walk
on_step rest at (S.Field kind start len next) = field (record { at = at; kind = kind; start = start; len = len }) (rest next)
on_step rest at S.End = ends at
on_step rest at S.Broken = broken

-- the walk from an offset on, of n fields at most
abbrev pub walk_n : ℕ → List ℕ → ℕ → ℕ → ℕ → Walk
walk_n zero p at least tail = on_step (λ next. broken) at (step_at p at least tail)
walk_n (suc n) p at least tail = on_step (λ next. walk_n n p next least tail) at (step_at p at least tail)

-- the walk: there are no more fields than bytes, so that the bound n has no effect (`walk_turn` in proofs/Walks.antt)
-- promise 7.5: The walk stops at the first answer that is not a field. A broken one makes the packet undecodable.
unfoldable pub walk_of : List ℕ → ℕ → ℕ → ℕ → Walk
walk_of p at least tail = walk_n (length p - at) p at least tail

-- a V4 packet's walk starts after the 48 bytes of the header
abbrev pub packet_walk : List ℕ → Walk
packet_walk p = walk_of p 48 16 24

-- the walk over decrypted fields starts at their first byte
abbrev pub decrypted_walk : List ℕ → Walk
decrypted_walk p = walk_of p 0 4 0

-- where a walk ends, or none if it is broken
-- promise: 7.5
abbrev pub walked_of : Walk → Option ℕ
walked_of (field f w) = walked_of w
walked_of (ends at) = Some at
walked_of broken = None

-- the number in RULES: 1 for a broken walk; one that ends is not rejected
-- promise: 7.5
abbrev pub refusal_of : Option ℕ → Option ℕ
refusal_of (Some at) = None
refusal_of None = Some 1

-- a walk that is not broken
abbrev pub whole : Walk → Bool
whole (field f w) = whole w
whole (ends at) = true
whole broken = false

-- the places of a walk: where a field starts, and where the walk ends
abbrev pub place_in : ℕ → Walk → Bool
place_in n (field f w) = eqb f.at n || place_in n w
place_in n (ends at) = eqb at n
place_in n broken = false

-- the places that the authenticated end may be; a broken walk makes the packet undecodable
-- promise 7.6: The authenticated end is 48, or a place where a field starts, or the end of the walk.
--     edit: wire_fields/place_of_a_broken_walk, wire_fields/a_walk_starts_in_the_header, wire_incoming/v4_end_is_not_looked_at
unfoldable pub is_place : List ℕ → ℕ → Bool
is_place p n = whole (packet_walk p) && place_in n (packet_walk p)

abbrev pub fields_of : Walk → List Found
fields_of (field f w) = f ∷ fields_of w
fields_of (ends at) = []
fields_of broken = []

-- those that start at `from` or later and before `to`
abbrev pub between : ℕ → ℕ → List Found → List Found
between from to [] = []
between from to (f ∷ fs) = cond (leb from f.at && ltb f.at to) (f ∷ between from to fs) (between from to fs)

-- the bodies of the fields of a type
abbrev pub bodies_of : ℕ → List ℕ → List Found → List (List ℕ)
bodies_of kind p [] = []
bodies_of kind p (f ∷ fs) = cond (eqb f.kind kind) (part p f.start f.len ∷ bodies_of kind p fs) (bodies_of kind p fs)
