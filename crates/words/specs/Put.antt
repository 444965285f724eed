-- Bytes written to an offset of a lent buffer, and a record of a file: its mark, the length of its body, and the body.
-- Assumes nothing.
use Rattle.std.specs.Prelude.{ℕ, ◌+◌, ◌≡◌, cond, List, ◌++◌, leb, length, take, drop}
use Rattle.words.specs.Bytes.{to_be}

-- a buffer whose bytes from an offset on are replaced
unfoldable pub laid_at : List ℕ → ℕ → List ℕ → List ℕ
laid_at out at w = take at out ++ (w ++ drop (at + length w) out)

-- they end at `end`, and nothing else in the buffer has changed
pub record Put (out : List ℕ) (at : ℕ) (w : List ℕ) (end : ℕ) (left : List ℕ) : Type 0 where
  pub ends : end ≡ at + length w
  pub leaves : left ≡ laid_at out at w

-- the result of writing bytes: the offset after them, and the buffer
pub record Laid : Type 0 where
  pub ends : ℕ
  pub left : List ℕ

abbrev pub laid : ℕ → List ℕ → Laid
laid r out = record { ends = r; left = out }

-- if they do not fit nothing is written, and the offset itself is returned
unfoldable pub lay_of : List ℕ → ℕ → List ℕ → Laid
lay_of out at w = cond (leb (at + length w) (length out)) (laid (at + length w) (laid_at out at w)) (laid at out)

-- a record: the mark and the length of the body in two bytes each, big-endian, and the body
-- promise: 3.12, no6.1
unfoldable pub record_of : ℕ → List ℕ → List ℕ
record_of m b = to_be 2 m ++ (to_be 2 (length b) ++ b)
