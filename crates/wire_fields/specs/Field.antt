-- What is at an offset of a run of extension fields (RULES, part 7; RFC 7822, section 3).
-- Assumes nothing.
use Rattle.std.specs.Prelude.{ℕ, ◌+◌, ◌-◌, ◌%◌, List, Bool, ◌&&◌, cond, length, ltb, leb, eqb, Option, Some, None}
use Rattle.words.specs.Bytes.{be, part}
use Rattle.wire_fields.specs.declared.Step.{Step}
use Rattle.wire_fields.specs.declared.Step.TheVariants.{Field, End, Broken}

-- a field starts with its type and its length, two bytes each
unfoldable pub kind_at : List ℕ → ℕ → ℕ
kind_at p at = be (part p at 2)

unfoldable pub length_at : List ℕ → ℕ → ℕ
length_at p at = be (part p (at + 2) 2)

-- a field is whole: its head is there, and its length, head included, is a multiple of 4, at least the least length, and within the rest
-- promise 7.1: A field is a type, a length and a body. The length counts the field's header, is a multiple of 4, is at least 16 and lies within the rest.
--     edit: wire_fields/field_of_12, wire_fields/a_body_starts_with_its_head
unfoldable pub field_is : List ℕ → ℕ → ℕ → Bool
field_is p at least =
    leb 4 (length p - at)
    && (eqb (length_at p at % 4) 0 && (leb least (length_at p at) && leb (length_at p at) (length p - at)))

-- an offset past the bytes is broken; a tail ends the walk; a field, with its type, its body's start and length, and its end; otherwise broken
-- promise 7.2: A tail of at most 24 bytes is not walked.
-- promise 7.4: An offset past the bytes is broken.
--     edit: wire_fields/past_the_bytes_is_the_end
-- promise: 7.1, 7.2 (at 24)
unfoldable pub step_at : List ℕ → ℕ → ℕ → ℕ → Step
step_at p at least tail =
    cond (ltb (length p) at) Broken
    (cond (leb (length p - at) tail) End
    (cond (field_is p at least) (Field (kind_at p at) (at + 4) (length_at p at - 4) (at + length_at p at)) Broken))

-- a V4 packet: at least 16, and a tail of at most 24 bytes
-- promise: 7.1
abbrev pub packet_step : List ℕ → ℕ → Step
packet_step p at = step_at p at 16 24

-- decrypted fields: at least 4, and no tail
-- promise 7.3: A decrypted field has at least 4 bytes, and there is no tail.
--     edit: wire_fields/decrypted_fields_are_walked_as_a_packet
abbrev pub decrypted_step : List ℕ → ℕ → Step
decrypted_step p at = step_at p at 4 0

-- the number in RULES: something broken makes the packet undecodable, 1; a field and the end are not rejected
-- promise: 7.5
abbrev pub refusal_of : Step → Option ℕ
refusal_of (Field kind start len next) = None
refusal_of End = None
refusal_of Broken = Some 1
