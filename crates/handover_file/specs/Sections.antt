-- A file of records in one fixed order (RULES, No. 6), each a mark (two bytes), the length of its body (two bytes) and the body. It is read record by record:
-- the argument is the rest of the file, so that no offset is needed.
-- Assumes nothing.
use Rattle.std.specs.Prelude.{ℕ, ◌+◌, ◌-◌, ◌≤◌, ◌<◌, ◌≡◌, Bool, true, cond, List, [], ◌∷◌, ◌++◌, ltb, eqb, length, drop}
use Rattle.words.specs.Bytes.{be, part}
use Rattle.words.specs.Put.{record_of}

-- a record of the file: its mark, and the test of its body (62 if it fails)
pub record Shape : Type 0 where
  pub mark : ℕ
  pub fits : List ℕ → Bool

-- ---- the writer

-- promise: no6.1
abbrev pub joined : List Shape → List (List ℕ) → List ℕ
joined [] bs = []
joined (s ∷ ss) [] = []
joined (s ∷ ss) (b ∷ bs) = record_of s.mark b ++ joined ss bs

-- each body fits its record: its length fits two bytes, and it passes the record's test
abbrev pub Fitting : List Shape → List (List ℕ) → Type 0
Fitting [] [] = Unit
Fitting [] (b ∷ bs) = ⊥
Fitting (s ∷ ss) [] = ⊥
Fitting (s ∷ ss) (b ∷ bs) = (s.mark < 65536) × (length b ≤ 65535) × (s.fits b ≡ true) × Fitting ss bs

-- ---- the reader

-- what comes first in bytes: a body and what follows it, another mark (61), or too few bytes (62)
pub data Found : Type 0 where
  body : List ℕ → List ℕ → Found
  other : Found
  short : Found

unfoldable pub body_length : List ℕ → ℕ
body_length l = be (part l 2 2)

unfoldable pub found : ℕ → List ℕ → Found
found m l =
    cond (ltb (length l) 2) short
    (cond (eqb (be (part l 0 2)) m)
    (cond (ltb (length l) 4) short
    (cond (ltb (length l - 4) (body_length l)) short
    (body (part l 4 (body_length l)) (drop (4 + body_length l) l))))
    other)

-- what a file is read as: the bodies of its records, or the first of 61 and 62 in the file
pub data Cut : Type 0 where
  bodies : List (List ℕ) → Cut
  misplaced : Cut
  missized : Cut

abbrev pub before : List ℕ → Cut → Cut
before b (bodies bs) = bodies (b ∷ bs)
before b misplaced = misplaced
before b missized = missized

abbrev pub on_found : (List ℕ → Bool) → (List ℕ → Cut) → Found → Cut
on_found fits rest (body b l) = cond (fits b) (before b (rest l)) missized
on_found fits rest other = misplaced
on_found fits rest short = missized

-- promise no6.7: Reading a file answers the first of 61 and 62 in the file, then 63, with the blank record.
--     edit: handover_file/a_byte_left_over_is_accepted, handover_file/a_wrong_mark_is_a_wrong_length, handover_file/two_marks_are_exchanged,
--     handover_file/a_plain_file_is_said_to_be_retired, handover_load/a_wrong_mark_is_answered_as_a_length
abbrev pub cut_as : List Shape → List ℕ → Cut
cut_as [] l = cond (eqb (length l) 0) (bodies []) missized
cut_as (s ∷ ss) l = on_found s.fits (λ r. cut_as ss r) (found s.mark l)
