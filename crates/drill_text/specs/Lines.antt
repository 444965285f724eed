-- The pairs of a line, and the first fault among them (docs/DRILL.md, "The language").
-- Assumes nothing.
use Rattle.std.specs.Prelude.{ℕ, cond, eqb, List, [], ◌∷◌, ◌++◌, drop, find, Option, Some, None, option_and_then, bytes_eq}
use Rattle.std.specs.List.{before_first, slice_split}
use Rattle.std.specs.Option.{option_or, is_some}
use Rattle.std.specs.Borrow.{Bor}
use Rattle.drill_text.specs.declared.fault.Fault.{Fault}
use Rattle.drill_text.specs.declared.fault.Fault.TheVariants.{NoPair, UnknownKey, Repeated}
use Rattle.drill_text.specs.Values.{split_at}

-- a line is a command and then words, one space between them
-- promise: drill.6
abbrev pub command_of : List ℕ → List ℕ
command_of line = before_first (λ b. eqb b 32) line

-- promise: drill.6
abbrev pub words_of : List ℕ → List (List ℕ)
words_of line = drop 1 (slice_split (λ b. eqb b 32) line)

-- a word is a key and its value, with '=' between them
-- promise: drill.6
abbrev pub pair_of : List ℕ → Option (List ℕ × List ℕ)
pair_of word = split_at word 61

-- the value of a key: that of the first word that has the key
-- promise: drill.6
abbrev pub value_in : List (List ℕ) → List ℕ → Option (List ℕ)
value_in [] key = None
value_in (word ∷ words) key = option_or (option_and_then (λ p. cond (bytes_eq p.0 key) (Some p.1) None) (pair_of word)) (value_in words key)

-- a key is unknown, or repeated behind the words before it
-- promise: drill.6
abbrev pub key_fault : List (List ℕ) → Option (Bor (List ℕ)) → Option Fault
key_fault before None = Some UnknownKey
key_fault before (Some key) = cond (is_some (value_in before key.now)) (Some (Repeated key)) None

-- promise: drill.6
abbrev pub pair_fault : List (Bor (List ℕ)) → List (List ℕ) → Option (List ℕ × List ℕ) → Option Fault
pair_fault keys before None = Some NoPair
pair_fault keys before (Some pair) = key_fault before (find (λ key. bytes_eq key.now pair.0) keys)

-- from left to right the first fault of the words behind others: one that is no pair, an unknown key, or a repeated one
-- promise drill.6: A line is a command and then words `key=value`, one space between them. From left to right its first fault is a word without `=`, an
--     unknown key or a repeated one.
--     edit: drill_text/the_command_is_empty, drill_text/the_separator_stays_in_the_value, drill_text/a_repeated_key_is_an_unknown_one,
--     drill_text/a_key_has_its_own_name_as_value
abbrev pub fault_in : List (Bor (List ℕ)) → List (List ℕ) → List (List ℕ) → Option Fault
fault_in keys before [] = None
fault_in keys before (word ∷ words) = option_or (pair_fault keys before (pair_of word)) (fault_in keys (before ++ word ∷ []) words)
