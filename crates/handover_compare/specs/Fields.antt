-- The fields in which two records differ (RULES, No. 10), in the order of the hand-over file, and the bytes that they are written in.
-- Assumes nothing.
use Rattle.std.specs.Prelude.{ℕ, suc, Bool, true, false, ◌&&◌, cond, List, [], ◌∷◌, ◌++◌, eqb}
use Rattle.words.specs.Bytes.{to_be}
use Rattle.association.specs.declared.Association.{Association}
use Rattle.handover_compare.specs.declared.fields.Field.{Field}
use Rattle.handover_compare.specs.Readings.{Reading, readings_of}

-- min, max, startup, window, upgrade mark, start version, nts, source; capacity; the reading place; the cookies by age; reach, tries, version, last, remote
-- minimum, stratum, reference identifier, denial
-- promise: no10.1
abbrev pub codes : List ℕ
codes =
    1 ∷ 2 ∷ 3 ∷ 4 ∷ 5 ∷ 6 ∷ 7 ∷ 8
    ∷ 9
    ∷ 16
    ∷ 32 ∷ 33 ∷ 34 ∷ 35 ∷ 36 ∷ 37 ∷ 38 ∷ 39
    ∷ 48 ∷ 49 ∷ 50 ∷ 51 ∷ 52 ∷ 53 ∷ 54 ∷ 55
    ∷ []

-- the place of the first byte that differs; if one list is the beginning of the other, the end of the shorter one
-- promise: no10.2
abbrev pub place_of : List ℕ → List ℕ → ℕ
place_of [] r = 0
place_of (x ∷ l) [] = 0
place_of (x ∷ l) (y ∷ r) = cond (eqb x y) (suc (place_of l r)) 0

-- promise: no10.2
abbrev pub same_bytes : List ℕ → List ℕ → Bool
same_bytes [] [] = true
same_bytes [] (y ∷ r) = false
same_bytes (x ∷ l) [] = false
same_bytes (x ∷ l) (y ∷ r) = eqb x y && same_bytes l r

unfoldable pub same_reading : Reading → Reading → Bool
same_reading l r = eqb l.number r.number && same_bytes l.bytes r.bytes

-- a field of two records: its code, both numbers, the place, and whether the readings agree
-- promise: no10.1
unfoldable pub field_of : ℕ → Reading → Reading → Field
field_of code l r = record { code = code; left = l.number; right = r.number; place = place_of l.bytes r.bytes; same = same_reading l r }

abbrev pub fields_from : List ℕ → List Reading → List Reading → List Field
fields_from (c ∷ cs) (l ∷ ls) (r ∷ rs) = field_of c l r ∷ fields_from cs ls rs
fields_from [] ls rs = []
fields_from (c ∷ cs) [] rs = []
fields_from (c ∷ cs) (l ∷ ls) [] = []

-- promise: no10.1
unfoldable pub fields_of : Association → Association → List Field
fields_of a b = fields_from codes (readings_of a) (readings_of b)

-- those that differ
abbrev pub differing : List Field → List Field
differing [] = []
differing (f ∷ fs) = cond f.same (differing fs) (f ∷ differing fs)

-- promise: no10.1
unfoldable pub list_of : Association → Association → List Field
list_of a b = differing (fields_of a b)

-- an entry of 19 bytes: code 1, left reading 8, right reading 8, place 2
-- promise: no10.1
unfoldable pub entry_bytes : Field → List ℕ
entry_bytes f = f.code ∷ (to_be 8 f.left ++ (to_be 8 f.right ++ to_be 2 f.place))

-- promise: no10.1
abbrev pub list_bytes : List Field → List ℕ
list_bytes [] = []
list_bytes (f ∷ fs) = entry_bytes f ++ list_bytes fs

-- with the records swapped: the same field, with its readings swapped
-- promise no10.4: With the files exchanged, the same fields are listed with the readings exchanged.
abbrev pub swapped : Field → Field
swapped f = record { code = f.code; left = f.right; right = f.left; place = f.place; same = f.same }
