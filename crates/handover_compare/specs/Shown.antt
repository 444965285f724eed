-- Terms for the theorems on the list (RULES, No. 10): which fields are in it, in which order, and that it depends only on numbers, lengths and places.
-- Assumes nothing.
use Rattle.std.specs.Prelude.{ℕ, ◌<◌, ◌≡◌, ◌&&◌, List, [], ◌∷◌, map, ◌⊎◌, eqb, length}
use Rattle.association.specs.declared.Association.{Association}
use Rattle.handover_compare.specs.declared.fields.Field.{Field}
use Rattle.handover_compare.specs.Readings.{Reading, readings_of}
use Rattle.handover_compare.specs.Fields.{codes, fields_of, differing}

-- the field is one of them
abbrev pub Among : Field → List Field → Type 0
Among f [] = ⊥
Among f (g ∷ gs) = (f ≡ g) ⊎ Among f gs

-- every code is past c
abbrev pub Past : ℕ → List Field → Type 0
Past c [] = Unit
Past c (f ∷ fs) = (c < f.code) × Past c fs

-- each code is past those before it: no field is there twice
abbrev pub Rising : List Field → Type 0
Rising [] = Unit
Rising (f ∷ fs) = Past f.code fs × Rising fs

-- a reading without its bytes: the number, and how many bytes are stored
pub record Outline : Type 0 where
  pub number : ℕ
  pub stored : ℕ

abbrev pub outline : Reading → Outline
outline r = record { number = r.number; stored = length r.bytes }

-- a field, by outlines and a place alone
abbrev pub field_by : ℕ → Outline → Outline → ℕ → Field
field_by c l r p =
    record {
      code = c;
      left = l.number;
      right = r.number;
      place = p;
      same = eqb l.number r.number
          && (eqb l.stored r.stored && eqb p l.stored);
    }

abbrev pub fields_by : List ℕ → List Outline → List Outline → List ℕ → List Field
fields_by (c ∷ cs) (l ∷ ls) (r ∷ rs) (p ∷ ps) = field_by c l r p ∷ fields_by cs ls rs ps
fields_by [] ls rs ps = []
fields_by (c ∷ cs) [] rs ps = []
fields_by (c ∷ cs) (l ∷ ls) [] ps = []
fields_by (c ∷ cs) (l ∷ ls) (r ∷ rs) [] = []

abbrev pub outlines_of : Association → List Outline
outlines_of a = map outline (readings_of a)

abbrev pub places_of : Association → Association → List ℕ
places_of a b = map (λ f. f.place) (fields_of a b)

-- the list that outlines and places make
abbrev pub list_by : List Outline → List Outline → List ℕ → List Field
list_by ls rs ps = differing (fields_by codes ls rs ps)
