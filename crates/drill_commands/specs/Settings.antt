-- What a line says about an association to be made (docs/DRILL.md, "The language", the keys of `new`).
-- Assumes nothing.
use Rattle.std.specs.Prelude.{map, ◌⊎◌, Result, Err, FitsSigned, ℕ, ℤ, ◌≡◌, false, cond, eqb, List, [], ◌∷◌, Option, Some, None, Ok, option_and_then, unwrap_or}
use Rattle.std.specs.Prelude.{codes, vec_items}
use Rattle.std.specs.List.{starts_with}
use Rattle.std.specs.Str.Parse.{IsNumeral, without_leading_sign, signed_digits_value}
use Rattle.association.specs.declared.Settings.{Settings}
use Rattle.drill_commands.specs.declared.calls.Wanted.{Wanted}
use Rattle.std.specs.Borrow.{Bor}
use Rattle.std.specs.Int.{w8}
use Rattle.drill_text.specs.declared.fault.Fault.{Fault}
use Rattle.drill_text.specs.declared.fault.Fault.TheVariants.{OutOfMemory}
use Rattle.drill_text.specs.Lines.{value_in, fault_in}
use Rattle.drill_text.specs.Reads.{bytes_up_to}
use Rattle.drill_text.specs.Values.{decimal_up_to, hexadecimal_of, yes_or_no_of, version_of, is_none_sign}

-- what a parser makes of the value that a key has among the words
-- promise: drill.8
abbrev pub read_by : {V : Type 0} → (List ℕ → Option V) → List (List ℕ) → List ℕ → Option V
read_by parse words key = option_and_then parse (value_in words key)

-- and of a default where the words do not have the key
-- promise: drill.8
abbrev pub read_or : {V : Type 0} → (List ℕ → Option V) → List (List ℕ) → List ℕ → List ℕ → Option V
read_or parse words key default = parse (unwrap_or (value_in words key) default)

-- a text is a signed number of 8 bits: digits, with '-' in front if it is below zero, and with no '+'
-- promise: drill.8
abbrev pub IsSigned : ℤ → List ℕ → Type 0
IsSigned z text = FitsSigned w8 z × (starts_with eqb text (codes "+") ≡ false) × IsNumeral 10 (without_leading_sign text) × (z ≡ signed_digits_value 10 text)

-- and so is the value of a key
-- promise: drill.8
abbrev pub HasSigned : List (List ℕ) → List ℕ → ℤ → Type 0
HasSigned words key z = (text : List ℕ) × (value_in words key ≡ Some text) × IsSigned z text

-- the bytes of a list, none for '-'
-- promise: drill.8
abbrev pub list_of : List ℕ → Option (List ℕ)
list_of text = cond (is_none_sign text) (Some []) (bytes_up_to 4096 text)

-- each setting is what the words say
-- promise drill.8: `new`, `metered` and `profile` read settings and a first cookie list, each as its key says in the line. They fail only where the pairs have
--     a fault, a value does not say such a thing, or memory runs out.
--     edit: drill_commands/the_highest_poll_is_read_from_min, drill_commands/the_stash_has_room_for_nine
pub record AreSettings (words : List (List ℕ)) (settings : Settings) : Type 0 where
  pub min : HasSigned words (codes "min") settings.min.0
  pub max : HasSigned words (codes "max") settings.max.0
  pub startup : read_by (decimal_up_to 255) words (codes "startup") ≡ Some settings.startup
  pub window : read_by (decimal_up_to 18446744073709551615) words (codes "window") ≡ Some settings.window
  pub mark : read_by (hexadecimal_of 16) words (codes "mark") ≡ Some settings.upgrademark
  pub start : read_by version_of words (codes "start") ≡ Some settings.start
  pub nts : read_by yes_or_no_of words (codes "nts") ≡ Some settings.nts
  pub source : read_by (hexadecimal_of 8) words (codes "source") ≡ Some settings.source.0
  pub capacity : read_or (decimal_up_to 255) words (codes "capacity") (codes "8") ≡ Some settings.capacity

-- and so is the first cookie list
-- promise: drill.8
pub record IsWanted (words : List (List ℕ)) (wanted : Wanted) : Type 0 where
  pub settings : AreSettings words wanted.settings
  pub list : read_or list_of words (codes "list") (codes "-") ≡ Some (vec_items wanted.list)

-- the keys of such a line
-- promise: drill.8
abbrev pub wanted_keys : List (List ℕ)
wanted_keys =
    codes "min" ∷ codes "max" ∷ codes "startup" ∷ codes "window" ∷ codes "mark" ∷ codes "start" ∷ codes "nts" ∷ codes "source" ∷ codes "list" ∷ codes
    "capacity" ∷ []

-- the pairs have such a first fault, or none
-- promise: drill.8
abbrev pub HasFault : List (List ℕ) → Option Fault → Type 0
HasFault words fault = (keys : List (Bor (List ℕ))) × (map (λ key. key.now) keys ≡ wanted_keys) × (fault_in keys [] words ≡ fault)

-- what is wanted is read; or memory ran out, the pairs have a fault, or nothing is wanted with such values
-- promise: drill.8
abbrev pub EndsWanted : List (List ℕ) → Result Wanted Fault → Type 0
EndsWanted words (Ok wanted) = HasFault words None × IsWanted words wanted
EndsWanted words (Err fault) = (fault ≡ OutOfMemory) ⊎ HasFault words (Some fault) ⊎ ((wanted : Wanted) → ¬ (IsWanted words wanted))
