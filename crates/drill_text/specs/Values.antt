-- What the text of a value says: numbers, bytes, identifiers and words (docs/DRILL.md, "The language").
-- Assumes nothing.
use Rattle.std.specs.Prelude.{ℕ, ◌≡◌, ◌⊎◌, Bool, true, false, ◌&&◌, cond, eqb, leb, ltb, List, [], ◌∷◌, length, take, drop, replicate, Option, Some, None}
use Rattle.std.specs.Prelude.{Result, Ok, Err, IsUtf8, bytes_eq, codes, option_map, option_and_then, position}
use Rattle.std.specs.List.{list_all, starts_with, before_first, after_first}
use Rattle.std.specs.Option.{option_or}
use Rattle.std.specs.Char.{is_ascii_digit, is_ascii_hexdigit}
use Rattle.std.specs.Str.Parse.{digits_value}
use Rattle.version.specs.declared.ProtocolVersion.{ProtocolVersion}
use Rattle.version.specs.declared.ProtocolVersion.TheVariants.{V4, Upgrading, Upgraded, V5}
use Rattle.version.specs.declared.SendKind.{SendKind}
use Rattle.version.specs.declared.SendKind.TheVariants as send
use Rattle.version.specs.declared.Version.{Version}
use Rattle.wire_groups.specs.declared.Uid.{Uid}
use Rattle.wire_groups.specs.declared.Uid.TheVariants.{Absent, Agree, Disagree}

-- what stands before and after the first separator
-- promise: drill.6
abbrev pub split_at : List ℕ → ℕ → Option (List ℕ × List ℕ)
split_at text separator =
    option_map (λ _. (before_first (λ b. eqb b separator) text, after_first (λ b. eqb b separator) text)) (position (λ b. eqb b separator) text)

-- the first of the parts of a text, which is cut so or not at all, and what is left
-- promise: drill.4
abbrev pub first_of : List ℕ → Option (List ℕ × List ℕ) → List ℕ × Option (List ℕ)
first_of text None = (text, None)
first_of text (Some cut) = (cut.0, Some cut.1)

-- a number of a type is what the type's parser gives, but for a text with '+' in front, and for bytes that are no text
-- promise: drill.1
abbrev pub IsNumber : {N E : Type 0} → (List ℕ → Result N E → Type 0) → List ℕ → Option N → Type 0
IsNumber {N} {E} parses text None = (starts_with eqb text (codes "+") ≡ true) ⊎ (¬ (IsUtf8 text)) ⊎ ((e : E) × parses text (Err e))
IsNumber parses text (Some n) = (starts_with eqb text (codes "+") ≡ false) × IsUtf8 text × parses text (Ok n)

-- a decimal number up to `most`: one digit or more, and nothing else
-- promise drill.1: A number is decimal digits, with `-` in front if its type is signed and with no `+`, and fits its type or its limit.
--     edit: drill_text/a_number_may_have_a_plus, drill_text/the_limit_itself_is_too_much
abbrev pub decimal_up_to : ℕ → List ℕ → Option ℕ
decimal_up_to most text = cond (ltb 0 (length text) && list_all is_ascii_digit text && leb (digits_value 10 text) most) (Some (digits_value 10 text)) None

-- exactly so many hexadecimal digits, in either case
-- promise drill.2: Hexadecimal digits may be in either case. An identifier of 64 bits has exactly 16, a reference identifier 8 and a byte two; `uid` has 64,
--     or is `-` for 32 zero bytes.
--     edit: drill_text/hexadecimal_digits_are_read_as_decimal, drill_text/an_id_has_eight_digits, drill_text/an_identifier_has_seven_digits,
--     drill_text/a_byte_has_one_digit, drill_text/the_bytes_of_an_identifier_are_turned_round
abbrev pub hexadecimal_of : ℕ → List ℕ → Option ℕ
hexadecimal_of count text = cond (eqb (length text) count && list_all is_ascii_hexdigit text) (Some (digits_value 16 text)) None

-- two digits for each byte
-- promise: drill.2, drill.3
abbrev pub bytes_of : List ℕ → Option (List ℕ)
bytes_of [] = Some []
bytes_of (high ∷ []) = None
bytes_of (high ∷ low ∷ text) = option_and_then (λ b. option_map (λ bs. b ∷ bs) (bytes_of text)) (hexadecimal_of 2 (high ∷ low ∷ []))

-- no bytes, no entries, no identifier
-- promise: drill.2, drill.3, drill.4
abbrev pub is_none_sign : List ℕ → Bool
is_none_sign text = bytes_eq text (codes "-")

-- an identifier of 32 bytes, or '-' for 32 zeros
-- promise: drill.2
abbrev pub uid_from : List ℕ → Option (List ℕ)
uid_from text = cond (is_none_sign text) (Some (replicate 32 0)) (cond (eqb (length text) 64) (bytes_of text) None)

-- what the first word of a table that is the text stands for
-- promise drill.5: `yes` and `no`, the kinds of send, the states of a group and the versions are read by their words; `upgrading` has its tries behind a
--     colon.
--     edit: drill_text/no_is_read_as_yes, drill_text/v4_upgrade_is_read_as_v4, drill_text/agree_is_read_as_disagree, drill_text/upgraded_is_read_as_v5,
--     drill_text/tries_stand_behind_an_equals_sign
abbrev pub word_of : {V : Type 0} → List (List ℕ × V) → List ℕ → Option V
word_of [] text = None
word_of (w ∷ words) text = cond (bytes_eq text w.0) (Some w.1) (word_of words text)

-- promise: drill.5
abbrev pub yes_or_no_of : List ℕ → Option Bool
yes_or_no_of = word_of ((codes "no", false) ∷ (codes "yes", true) ∷ [])

-- the kinds of send, as a timer answers them, and `v4-upgrade`
-- promise: drill.5
abbrev pub send_kind_of : List ℕ → Option SendKind
send_kind_of =
    word_of ((codes "v4", send.V4) ∷ (codes "v4-upgrade", send.V4Upgrade) ∷ (codes "v5", send.V5) ∷ (codes "nts-v4", send.NtsV4) ∷ (codes "nts-v5", send.NtsV5)
    ∷ [])

-- promise: drill.5
abbrev pub kind_without_tries_of : List ℕ → Option ProtocolVersion
kind_without_tries_of = word_of ((codes "v4", V4) ∷ (codes "upgraded", Upgraded) ∷ (codes "v5", V5) ∷ [])

-- a number of 8 bits behind `upgrading:`
-- promise: drill.5
abbrev pub upgrading_of : List ℕ → Option ProtocolVersion
upgrading_of text = cond (bytes_eq (take 10 text) (codes "upgrading:")) (option_map (λ tries. Upgrading tries) (decimal_up_to 255 (drop 10 text))) None

-- a version: upgrading has its tries after a colon, and the others have none
-- promise: drill.5
abbrev pub version_of : List ℕ → Option Version
version_of text = option_map (λ kind. record { kind = kind }) (option_or (kind_without_tries_of text) (upgrading_of text))

-- the state of a group
-- promise: drill.5
abbrev pub group_of : List ℕ → Option Uid
group_of = word_of ((codes "absent", Absent) ∷ (codes "agree", Agree) ∷ (codes "disagree", Disagree) ∷ [])
