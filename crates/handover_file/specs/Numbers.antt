-- RULES, No. 6: when the writer and the reader of the hand-over file return each number, and with which answer and record.
-- Assumes nothing.
use Rattle.std.specs.Prelude.{◌≡◌, true, false, ◌&&◌, List, ◌∷◌, ◌++◌, ℕ, ◌-◌, ◌≤◌, ◌<◌, length, Ok, Err}
use Rattle.words.specs.Bytes.{be, part}
use Rattle.association.specs.declared.Association.{Association}
use Rattle.association.specs.Record.{whole_of}
use Rattle.handover_file.specs.declared.SaveRefusal.TheVariants.{NotWhole, ShortBuffer}
use Rattle.handover_file.specs.declared.SaveOut.{SaveOut}
use Rattle.handover_file.specs.declared.LoadRefusal.TheVariants.{WrongMark, WrongLength, NoAssociation}
use Rattle.handover_file.specs.declared.LoadOut.{LoadOut}
use Rattle.handover_file.specs.Sections.{Shape, joined, Fitting, body_length}
use Rattle.handover_file.specs.File.{shapes, file_of, emptied, known, record_in, retired, settled}
use Rattle.handover_file.specs.Answers.{saved, told, loaded, refused}

-- ---- writing

module _ (a : Association) (room : ℕ) where
  -- promise: no6.6
  pub data SaveGiven : ℕ → SaveOut → Type 0 where
    not_whole : whole_of a ≡ false → SaveGiven 32 (saved (Err NotWhole) a)
    short_buffer_lem : whole_of a ≡ true → room < length (file_of a) → SaveGiven 60 (saved (Err ShortBuffer) a)
    written : whole_of a ≡ true → length (file_of a) ≤ room → SaveGiven 0 (saved (Ok (length (file_of a))) (emptied a))

-- ---- reading

-- the record s is expected at the start of l, and has the wrong length: mark, length or body is missing, or the body does not fit s
-- promise: no6.7
pub data Faulty (s : Shape) (l : List ℕ) : Type 0 where
  no_mark : length l < 2 → Faulty s l
  no_length : 2 ≤ length l → be (part l 0 2) ≡ s.mark → length l < 4 → Faulty s l
  no_body : 4 ≤ length l → be (part l 0 2) ≡ s.mark → length l - 4 < body_length l → Faulty s l
  unfit : 4 ≤ length l → be (part l 0 2) ≡ s.mark → body_length l ≤ length l - 4 → s.fits (part l 4 (body_length l)) ≡ false → Faulty s l

-- the records ss are as they should be, with these bodies, and l is what follows them
-- promise: no6.7
pub record Begins (f : List ℕ) (ss : List Shape) (bs : List (List ℕ)) (l : List ℕ) : Type 0 where
  pub fitting : Fitting ss bs
  pub file : f ≡ joined ss bs ++ l

module _ (f : List ℕ) where
  -- the first fault of the file decides between 61 and 62: all records before it are as they should be
  -- promise: no6.7
  pub data LoadGiven : ℕ → LoadOut → Type 0 where
    wrong_mark : (ss ts : List Shape) (s : Shape) (bs : List (List ℕ)) (l : List ℕ) → shapes ≡ ss ++ (s ∷ ts) → Begins f ss bs l →
        2 ≤ length l → (be (part l 0 2) ≡ s.mark → ⊥) → LoadGiven 61 (refused WrongMark)
    wrong_length : (ss ts : List Shape) (s : Shape) (bs : List (List ℕ)) (l : List ℕ) → shapes ≡ ss ++ (s ∷ ts) → Begins f ss bs l → Faulty s l →
        LoadGiven 62 (refused WrongLength)
    left_over : (bs : List (List ℕ)) (l : List ℕ) → Begins f shapes bs l → 0 < length l → LoadGiven 62 (refused WrongLength)
    no_association : (bs : List (List ℕ)) → Fitting shapes bs → f ≡ joined shapes bs → known bs && whole_of (settled (record_in bs)) ≡ false →
        LoadGiven 63 (refused NoAssociation)
    -- V4 replaces the retired kind, and the answer says whether that was there (RULES, No. 14)
    association : (bs : List (List ℕ)) → Fitting shapes bs → f ≡ joined shapes bs → known bs && whole_of (settled (record_in bs)) ≡ true →
        LoadGiven 0 (loaded (told (retired (record_in bs).settings (record_in bs).state)) (settled (record_in bs)))
