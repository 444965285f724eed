-- A stash in lent bytes: after a head of 92 bytes, a row of 726 for each place: 724 bytes of its slot and its length in two.
-- The reading place is byte 27, the count byte 28.
-- Assumes nothing.
use Rattle.std.specs.Prelude.{ℕ, zero, suc, ◌+◌, ◌-◌, ◌*◌, ◌≤◌, ◌≡◌, Bool, ◌&&◌, List, [], ◌∷◌, ◌++◌, map, leb, eqb, length, get_or, replicate}
use Rattle.words.specs.Bytes.{be, part, to_be}
use Rattle.cookiestash.specs.declared.Slot.{Slot}
use Rattle.cookiestash.specs.declared.CookieStash.{CookieStash}
use Rattle.cookiestash.specs.Stash.{empty_slot}

-- the slot whose row starts at an offset
unfoldable pub slot_in : List ℕ → ℕ → Slot
slot_in b at = record { bytes = part b at 724; len = be (part b (at + 724) 2) }

-- the n slots from an offset on
abbrev pub slots_in : List ℕ → ℕ → ℕ → List Slot
slots_in b at zero = []
slots_in b at (suc n) = slot_in b at ∷ slots_in b (at + 726) n

-- the stash of a capacity: there are no rows past the capacity, and the slots there are empty
-- promise: exports.2
unfoldable pub stash_in : List ℕ → ℕ → CookieStash
stash_in b cap = record { slots = slots_in b 92 cap ++ replicate (8 - cap) empty_slot; read = get_or b 27 0; held = get_or b 28 0 }

-- the number of bytes is that of a record of this capacity: the test, and the statement
unfoldable pub sized_in : List ℕ → ℕ → Bool
sized_in b cap = leb cap 8 && eqb (length b) (92 + cap * 726)

pub record Sized (b : List ℕ) (cap : ℕ) : Type 0 where
  pub most : cap ≤ 8
  pub long : length b ≡ 92 + cap * 726

-- the lengths of the slots, then zeros
unfoldable pub lens_in : List ℕ → ℕ → List ℕ
lens_in b cap = map (λ (x : Slot). x.len) (slots_in b 92 cap) ++ replicate (8 - cap) 0

-- the row of a slot, and the rows of some slots
abbrev pub row_of : Slot → List ℕ
row_of x = x.bytes ++ to_be 2 x.len

-- promise: exports.2
abbrev pub rows_of : List Slot → List ℕ
rows_of [] = []
rows_of (x ∷ xs) = row_of x ++ rows_of xs
