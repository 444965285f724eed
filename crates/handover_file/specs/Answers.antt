-- What the writer and the reader of the hand-over file answer (RULES, No. 6), and what the writer leaves in the lent buffer.
-- Assumes nothing.
use Rattle.std.specs.Prelude.{ℕ, Bool, false, cond, List, ◌++◌, ltb, length, drop, Result, Ok, Err}
use Rattle.association.specs.declared.Association.{Association}
use Rattle.association.specs.Record.{blank_of, whole_of}
use Rattle.handover_file.specs.declared.SaveRefusal.{SaveRefusal}
use Rattle.handover_file.specs.declared.SaveRefusal.TheVariants.{NotWhole, ShortBuffer}
use Rattle.handover_file.specs.declared.SaveOut.{SaveOut}
use Rattle.handover_file.specs.declared.Loaded.{Loaded}
use Rattle.handover_file.specs.declared.LoadRefusal.{LoadRefusal}
use Rattle.handover_file.specs.declared.LoadRefusal.TheVariants.{WrongMark, WrongLength, NoAssociation}
use Rattle.handover_file.specs.declared.LoadOut.{LoadOut}
use Rattle.handover_file.specs.declared.cut.Fault.{Fault}
use Rattle.handover_file.specs.declared.cut.Fault.TheVariants.{Misplaced, Missized}
use Rattle.handover_file.specs.Sections.{Cut, bodies, misplaced, missized, cut_as}
use Rattle.handover_file.specs.File.{shapes, file_of, emptied, known, record_in, retired, settled}

-- ---- writing

-- 0: written; 32: the record is not whole; 60: the buffer is shorter than the file
abbrev pub save_number : Result ℕ SaveRefusal → ℕ
save_number (Ok n) = 0
save_number (Err NotWhole) = 32
save_number (Err ShortBuffer) = 60

abbrev pub saved : Result ℕ SaveRefusal → Association → SaveOut
saved x a = record { answer = x; association = a }

-- in order 32, 60; a rejected call does not change the record
-- promise no6.6: Writing a file answers 32, then 60, and on these writes nothing. Bytes past the file stay.
--     edit: words/a_piece_that_ends_with_the_buffer_is_left_out, handover_save/a_short_buffer_is_answered_as_not_whole
unfoldable pub save_of : Association → ℕ → SaveOut
save_of a room =
    cond (whole_of a)
    (cond (ltb room (length (file_of a))) (saved (Err ShortBuffer) a) (saved (Ok (length (file_of a))) (emptied a)))
    (saved (Err NotWhole) a)

-- the bytes at the start of a buffer, and what follows them unchanged
abbrev pub over : List ℕ → List ℕ → List ℕ
over bytes buffer = bytes ++ drop (length bytes) buffer

-- a rejected call writes nothing
-- promise: no6.6
unfoldable pub buffer_of : Association → List ℕ → List ℕ
buffer_of a buffer = cond (whole_of a) (cond (ltb (length buffer) (length (file_of a))) buffer (over (file_of a) buffer)) buffer

-- all results of a call: its answer with the association, and what is left in the buffer
pub record Handed : Type 0 where
  pub gives : SaveOut
  pub left : List ℕ

abbrev pub handed : SaveOut → List ℕ → Handed
handed o buffer = record { gives = o; left = buffer }

abbrev pub handed_of : Association → List ℕ → Handed
handed_of a buffer = handed (save_of a (length buffer)) (buffer_of a buffer)

-- ---- reading

-- 0: loaded; 61: mark or order; 62: length, bytes missing or left over; 63: an unknown code, or an association that is not whole
abbrev pub load_number : Result Loaded LoadRefusal → ℕ
load_number (Ok l) = 0
load_number (Err WrongMark) = 61
load_number (Err WrongLength) = 62
load_number (Err NoAssociation) = 63

-- the first fault of a file: another mark is 61, too few bytes or too many are 62
abbrev pub refusal_of : Fault → LoadRefusal
refusal_of Misplaced = WrongMark
refusal_of Missized = WrongLength

-- loaded, with whether the retired kind was there
abbrev pub told : Bool → Result Loaded LoadRefusal
told said = Ok (record { retired = said })

-- whether it says that the retired kind was there
-- promise: no14.4
abbrev pub says_retired : Result Loaded LoadRefusal → Bool
says_retired (Ok l) = l.retired
says_retired (Err e) = false

abbrev pub loaded : Result Loaded LoadRefusal → Association → LoadOut
loaded x a = record { answer = x; association = a }

-- the blank record, if the file is rejected
abbrev pub refused : LoadRefusal → LoadOut
refused e = loaded (Err e) blank_of

-- what a record that was read is loaded as: V4 replaces the retired kind, and the answer says whether that was there (RULES, No. 14)
-- promise: no14.4
abbrev pub load_as : Association → LoadOut
load_as a = cond (whole_of (settled a)) (loaded (told (retired a.settings a.state)) (settled a)) (refused NoAssociation)

unfoldable pub load_in : List (List ℕ) → LoadOut
load_in bs = cond (known bs) (load_as (record_in bs)) (refused NoAssociation)

abbrev pub on_cut : Cut → LoadOut
on_cut (bodies bs) = load_in bs
on_cut misplaced = refused WrongMark
on_cut missized = refused WrongLength

-- in order: the first of 61 and 62 in the file, then 63
-- promise: no6.7, no14.4
unfoldable pub load_of : List ℕ → LoadOut
load_of f = on_cut (cut_as shapes f)
