-- The numbers that comparing two hand-over files answers (RULES, No. 10).
-- Assumes nothing.
use Rattle.std.specs.Prelude.{ℕ, Result, Ok, Err}
use Rattle.handover_compare.specs.declared.CompareRefusal.{CompareRefusal}
use Rattle.handover_compare.specs.declared.CompareRefusal.TheVariants.{WrongMark, WrongLength, NoAssociation, ShortBuffer}

-- 0: listed; 61, 62, 63: the numbers of reading the file on the named side; 71: the buffer is shorter than the list
abbrev pub compare_number : Result ℕ CompareRefusal → ℕ
compare_number (Ok n) = 0
compare_number (Err (WrongMark s)) = 61
compare_number (Err (WrongLength s)) = 62
compare_number (Err (NoAssociation s)) = 63
compare_number (Err ShortBuffer) = 71
