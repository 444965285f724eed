-- What the answer of new or metered prints (docs/DRILL.md, "The language", the table of commands).
-- Assumes nothing.
use Rattle.std.specs.Prelude.{ℕ, List, ◌++◌, codes, decimal, Result, Ok, Err}
use Rattle.cookiestash.specs.declared.Dropped.{Dropped}

-- how many cookies fell out, and their lengths summed
-- promise: drill.9
abbrev pub fell : Dropped → List ℕ
fell dropped = codes "dropped=" ++ (decimal dropped.count ++ (codes " lost=" ++ decimal dropped.bytes))

-- the word of the command, and then 0 and what fell out, or the number of the refusal
-- promise drill.9: The answer of `new` and `metered` is the word and then 0, with what fell out of the first list, or the number of the refusal.
--     edit: drill_commands/a_refusal_is_printed_as_0
abbrev pub made_text : {E : Type 0} → (E → ℕ) → List ℕ → Result (Unit {0}) E → Dropped → List ℕ
made_text number_of word (Ok done) dropped = word ++ (codes " 0 " ++ fell dropped)
made_text number_of word (Err refusal) dropped = word ++ (codes " " ++ decimal (number_of refusal))
