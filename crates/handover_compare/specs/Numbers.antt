-- RULES, No. 10: when comparing two files returns each number, and with which answer and buffer.
-- Assumes nothing.
use Rattle.std.specs.Prelude.{ℕ, ◌≤◌, ◌<◌, ◌≡◌, List, length, Result, Ok, Err}
use Rattle.handover_file.specs.Answers.{over, load_number, load_of}
use Rattle.handover_compare.specs.Fields.{list_of, list_bytes}
use Rattle.handover_compare.specs.declared.fields.Field.{Field}
use Rattle.handover_compare.specs.declared.Side.TheVariants.{Left, Right}
use Rattle.handover_compare.specs.declared.CompareRefusal.{CompareRefusal}
use Rattle.handover_compare.specs.declared.CompareRefusal.TheVariants.{WrongMark, WrongLength, NoAssociation, ShortBuffer}

module _ (f g : List ℕ) (out : List ℕ) where
  -- the list of the two loaded records
  abbrev pub list : List Field
  list = list_of (load_of f).association (load_of g).association

  -- the numbers of reading are those of the left file, or of the right one if the left one is loaded
  -- promise: no10.5
  pub data CompareGiven : ℕ → Result ℕ CompareRefusal → List ℕ → Type 0 where
    left_mark : load_number (load_of f).answer ≡ 61 → CompareGiven 61 (Err (WrongMark Left)) out
    left_length : load_number (load_of f).answer ≡ 62 → CompareGiven 62 (Err (WrongLength Left)) out
    left_none : load_number (load_of f).answer ≡ 63 → CompareGiven 63 (Err (NoAssociation Left)) out
    right_mark : load_number (load_of f).answer ≡ 0 → load_number (load_of g).answer ≡ 61 → CompareGiven 61 (Err (WrongMark Right)) out
    right_length : load_number (load_of f).answer ≡ 0 → load_number (load_of g).answer ≡ 62 → CompareGiven 62 (Err (WrongLength Right)) out
    right_none : load_number (load_of f).answer ≡ 0 → load_number (load_of g).answer ≡ 63 → CompareGiven 63 (Err (NoAssociation Right)) out
    short_buffer_lem : load_number (load_of f).answer ≡ 0 → load_number (load_of g).answer ≡ 0 → length out < length (list_bytes list) →
        CompareGiven 71 (Err ShortBuffer) out
    listed : load_number (load_of f).answer ≡ 0 → load_number (load_of g).answer ≡ 0 → length (list_bytes list) ≤ length out
        → CompareGiven 0 (Ok (length list)) (over (list_bytes list) out)
