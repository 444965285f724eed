-- The walker (RULES, "What must change shape"): the caller's bytes and an offset, and a field's body as that part of the packet itself.
-- Assumes nothing.
use Rattle.std.specs.Prelude.{ℕ, ◌+◌, ◌≤◌, ◌≡◌, List, [], Bool, cond, leb, length}
use Rattle.std.specs.Borrow.{Bor}
use Rattle.words.specs.Bytes.{part}
use Rattle.wire_fields.specs.declared.walker.Walker.{Walker}

-- it holds the very reference that it was given
-- promise 7.10: The walker holds the caller's bytes and an offset. A field's body is that part of the packet itself. Run: `wire_cases`.
--     edit: wire_fields/walker_says_the_start, wire_fields/a_body_at_the_end_is_empty
abbrev pub walker_at : Bor (List ℕ) → ℕ → Walker
walker_at packet at = record { packet = packet; at = at }

-- the packet has len bytes from start on
abbrev pub fits : List ℕ → ℕ → ℕ → Bool
fits p start len = leb (start + len) (length p)

-- the len bytes from start on, or none if they run past the end
-- promise: 7.10
unfoldable pub body_of : List ℕ → ℕ → ℕ → List ℕ
body_of p start len = cond (fits p start len) (part p start len) []

-- how far after the packet's first byte they are; 0 if there are none
-- promise: 7.10
unfoldable pub body_from : List ℕ → ℕ → ℕ → ℕ
body_from p start len = cond (fits p start len) start 0

-- a slice that is that part of the packet itself: its bytes, and its place in memory, which is in the packet's block
-- promise: 7.10 (the bytes, and their place in the packet's memory)
pub record IsBody (packet : Bor (List ℕ)) (start len : ℕ) (r : Bor (List ℕ)) : Type 0 where
  pub bytes : r.now ≡ body_of packet.now start len
  pub block : r.ref_ptr.0 ≡ packet.ref_ptr.0
  pub offset : r.ref_ptr.1 ≡ packet.ref_ptr.1 + body_from packet.now start len

-- the body of a field at an offset of a packet: all of its bytes, after the field's four and before what follows it
-- promise: 7.10
pub record Body (p : List ℕ) (at start len next : ℕ) : Type 0 where
  pub starts : start ≡ at + 4
  pub ends : next ≡ start + len
  pub within : next ≤ length p
  pub bytes : body_of p start len ≡ part p start len
  pub long : length (body_of p start len) ≡ len
  pub place : body_from p start len ≡ start
