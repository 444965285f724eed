-- An extension field as it is written (RFC 7822, section 3): type, length, body and zeros.
-- Assumes nothing.
use Rattle.std.specs.Prelude.{ℕ, ◌+◌, ◌-◌, ◌*◌, ◌/◌, max, List, [], ◌∷◌, ◌++◌, length, replicate}
use Rattle.words.specs.Bytes.{to_be}

-- a field to write: its type, its length including the head's four bytes, and the beginning of its body
pub record Extension : Type 0 where
  pub kind : ℕ
  pub len : ℕ
  pub body : List ℕ

abbrev pub extension : ℕ → ℕ → List ℕ → Extension
extension kind len body = record { kind = kind; len = len; body = body }

-- bytes, filled with zeros to n
-- promise: no1.3
unfoldable pub filled : ℕ → List ℕ → List ℕ
filled n bytes = bytes ++ replicate (n - length bytes) 0

-- the length of the field for a body of n bytes: a multiple of four, and at least 16
-- promise no1.3: Bodies are filled with zeros to a multiple of four and to the least length.
--     edit: wire_request/padding_not_zero
unfoldable pub field_length : ℕ → ℕ
field_length n = max 16 ((n + 4 + 3) / 4 * 4)

-- type and length, two bytes each, and the body, filled with zeros to the length
-- promise: no1.3
unfoldable pub extension_bytes : Extension → List ℕ
extension_bytes e = to_be 2 e.kind ++ to_be 2 e.len ++ filled (e.len - 4) e.body

-- fields, one after another
abbrev pub all_bytes : List Extension → List ℕ
all_bytes [] = []
all_bytes (e ∷ es) = extension_bytes e ++ all_bytes es
