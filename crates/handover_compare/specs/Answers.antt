-- What comparing two hand-over files answers (RULES, No. 10), and what it leaves in the lent buffer.
-- Assumes nothing.
use Rattle.std.specs.Prelude.{ℕ, cond, List, ltb, length, Result, Ok, Err}
use Rattle.association.specs.declared.Association.{Association}
use Rattle.handover_file.specs.declared.Loaded.{Loaded}
use Rattle.handover_file.specs.declared.LoadRefusal.{LoadRefusal}
use Rattle.handover_file.specs.declared.LoadRefusal.TheVariants.{WrongMark, WrongLength, NoAssociation}
use Rattle.handover_file.specs.Answers.{over, load_of}
use Rattle.handover_compare.specs.Fields.{list_of, list_bytes}
use Rattle.handover_compare.specs.declared.Side.{Side}
use Rattle.handover_compare.specs.declared.Side.TheVariants.{Left, Right}
use Rattle.handover_load.specs.Reading.{Contents}
use Rattle.handover_compare.specs.declared.CompareRefusal.{CompareRefusal}
use Rattle.handover_compare.specs.declared.CompareRefusal.TheVariants as says

-- ---- two records

-- 71 if the buffer is shorter than the list
unfoldable pub told_in : Association → Association → ℕ → Result ℕ CompareRefusal
told_in a b room = cond (ltb room (length (list_bytes (list_of a b)))) (Err says.ShortBuffer) (Ok (length (list_of a b)))

-- the list at the start of the buffer, and what follows it unchanged; with 71 nothing is written
unfoldable pub written_in : Association → Association → List ℕ → List ℕ
written_in a b out = cond (ltb (length out) (length (list_bytes (list_of a b)))) out (over (list_bytes (list_of a b)) out)

-- ---- two files

abbrev pub refused_of : Side → LoadRefusal → CompareRefusal
refused_of s WrongMark = says.WrongMark s
refused_of s WrongLength = says.WrongLength s
refused_of s NoAssociation = says.NoAssociation s

-- what is read of the file on a side
abbrev pub sided : Side → Result Contents LoadRefusal → Result Contents CompareRefusal
sided s (Ok r) = Ok r
sided s (Err e) = Err (refused_of s e)

-- a rejected file decides, with the number of reading it; a file with the retired kind counts as it is loaded (RULES, No. 14)
abbrev pub on_load : Side → Result Loaded LoadRefusal → Result ℕ CompareRefusal → Result ℕ CompareRefusal
on_load s (Ok l) x = x
on_load s (Err e) x = Err (refused_of s e)

-- and nothing is written
abbrev pub if_loaded : Result Loaded LoadRefusal → List ℕ → List ℕ → List ℕ
if_loaded (Ok l) written out = written
if_loaded (Err e) written out = out

-- the right file, when the left one is loaded
unfoldable pub right_of : Association → List ℕ → ℕ → Result ℕ CompareRefusal
right_of a g room = on_load Right (load_of g).answer (told_in a (load_of g).association room)

unfoldable pub right_out : Association → List ℕ → List ℕ → List ℕ
right_out a g out = if_loaded (load_of g).answer (written_in a (load_of g).association out) out

-- the left file first
-- promise no10.5: The comparison rejects with the numbers of No. 6, left file first, then with 71. It then writes nothing.
--     edit: handover_compare/a_short_buffer_is_filled
unfoldable pub compare_of : List ℕ → List ℕ → ℕ → Result ℕ CompareRefusal
compare_of f g room = on_load Left (load_of f).answer (right_of (load_of f).association g room)

-- promise: no10.5
unfoldable pub out_of : List ℕ → List ℕ → List ℕ → List ℕ
out_of f g out = if_loaded (load_of f).answer (right_out (load_of f).association g out) out
