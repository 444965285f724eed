-- A stash in lent bytes that is read and changed in place (RULES, part 3, No. 5 and No. 12): what `cookiestash` says about it by value.
-- If the number of bytes does not fit the capacity, they are not read, and none of them changes.
-- Assumes nothing.
use Rattle.std.specs.Prelude.{ℕ, ◌-◌, ◌≡◌, Bool, true, false, ◌&&◌, cond, List, ◌∷◌, ◌++◌, eqb, length, get_or, take, set, replicate, Option, None}
use Rattle.words.specs.Bytes.{part}
use Rattle.cookiestash.specs.declared.Slot.{Slot}
use Rattle.cookiestash.specs.declared.CookieStash.{CookieStash}
use Rattle.cookiestash.specs.declared.Seen.{Seen}
use Rattle.cookiestash.specs.declared.Dropped.{Dropped}
use Rattle.cookiestash.specs.Stash.{stored, range_of, put_of, store_of, get_of, slot_or_empty}
use Rattle.cookiestash.specs.Whole.{seen_of}
use Rattle.cookiestash.specs.StoreList.{store_list_of}
use Rattle.cookiestash.specs.Falling.{fallen_of, none_dropped, dropped_of}
use Rattle.cookiestash.specs.Handed.{handed_of}
use Rattle.record_stash.specs.Rows.{stash_in, sized_in, Sized, rows_of}

-- the bytes b with the stash s in place of theirs: the rest of the head does not change
-- promise: exports.2
unfoldable pub with_stash : ℕ → List ℕ → CookieStash → List ℕ
with_stash cap b s = part b 0 27 ++ (s.read ∷ s.held ∷ (part b 29 63 ++ rows_of (take cap s.slots)))

-- ---- reading

-- the summary of bytes that are no stash: it is not whole
abbrev pub unseen : Seen
unseen = record { whole = false; oldest = None; gap = 0; read = 0; held = 0 }

-- promise exports.2: The stash is read, a cookie taken, cookies stored and laid within the bytes. Every other byte stays.
--     edit: record_stash/a_cookie_goes_to_another_row, record_stash/the_last_byte_of_a_row_stays, record_stash/a_length_is_read_from_the_bytes,
--       record_stash/the_last_row_is_not_looked_at
unfoldable pub seen_in : List ℕ → ℕ → Seen
seen_in b cap = cond (sized_in b cap) (seen_of cap (stash_in b cap)) unseen

-- ---- a cookie is taken

-- the bytes of the record, and of the buffer
pub record Took : Type 0 where
  pub bytes : List ℕ
  pub left : List ℕ

abbrev pub took : List ℕ → List ℕ → Took
took b buffer = record { bytes = b; left = buffer }

-- the oldest, if one is to be taken: its stored bytes go to the start of the buffer
-- promise: exports.2
unfoldable pub taken_in : ℕ → Bool → List ℕ → List ℕ → Took
taken_in cap takes b buffer =
    cond (takes && sized_in b cap)
    (took (with_stash cap b (get_of cap (stash_in b cap)).stash) (handed_of (slot_or_empty (get_of cap (stash_in b cap))) buffer))
    (took b buffer)

-- ---- cookies are stored

-- what fell out, and the bytes of the record
pub record Refilled : Type 0 where
  pub dropped : Dropped
  pub bytes : List ℕ

abbrev pub refilled : Dropped → List ℕ → Refilled
refilled d b = record { dropped = d; bytes = b }

-- the cookies of a list, if they are to be stored
-- promise: exports.2
unfoldable pub refilled_in : ℕ → Bool → List ℕ → List ℕ → Refilled
refilled_in cap stores list b =
    cond (stores && sized_in b cap)
    (refilled (dropped_of cap (stash_in b cap) list) (with_stash cap b (store_list_of cap (stash_in b cap) list)))
    (refilled none_dropped b)

-- the slot of a cookie as it was kept: its length, and its stored bytes followed by zeros
unfoldable pub kept_slot : ℕ → List ℕ → Slot
kept_slot len kept = record { bytes = kept ++ replicate (724 - length kept) 0; len = len }

-- a cookie as it was kept, put after the newest; nothing changes if the stash is out of range or the bytes are not the stored ones of the length
-- promise: exports.2
unfoldable pub laid_in : ℕ → ℕ → List ℕ → List ℕ → List ℕ
laid_in cap len kept b =
    cond (sized_in b cap && (range_of cap (get_or b 27 0) (get_or b 28 0) && eqb (length kept) (stored len)))
    (with_stash cap b (put_of cap (stash_in b cap) (kept_slot len kept)))
    b

-- ---- the same, by what is read from the bytes afterwards

-- the bytes c hold the stash s in place of that of b, and are otherwise as b
pub record Becomes (cap : ℕ) (b c : List ℕ) (s : CookieStash) : Type 0 where
  pub stash : stash_in c cap ≡ s
  pub settings : part c 0 27 ≡ part b 0 27
  pub state : part c 29 63 ≡ part b 29 63
  pub sized : Sized c cap

-- a slot, the reading place and the count
abbrev pub changed : CookieStash → ℕ → Slot → ℕ → ℕ → CookieStash
changed s k x read held = record { slots = set s.slots k x; read = read; held = held }

-- a kept cookie at a place, with the reading place and the count
abbrev pub PlacedIn : (cap place len : ℕ) → List ℕ → (read held : ℕ) → List ℕ → List ℕ → Type 0
PlacedIn cap place len kept read held b c = Becomes cap b c (changed (stash_in b cap) place (kept_slot len kept) read held)

-- a kept cookie after the newest: the equality, and what a caller needs to go on
pub record LaidIn (cap len : ℕ) (kept b c : List ℕ) : Type 0 where
  pub is : c ≡ laid_in cap len kept b
  pub becomes : Sized b cap → range_of cap (get_or b 27 0) (get_or b 28 0) ≡ true → length kept ≡ stored len →
      Becomes cap b c (put_of cap (stash_in b cap) (kept_slot len kept))

-- a cookie is stored
abbrev pub StoredIn : ℕ → List ℕ → List ℕ → List ℕ → Option ℕ → Type 0
StoredIn cap cookie b c f = (Becomes cap b c (store_of cap (stash_in b cap) cookie)) × (f ≡ fallen_of cap (stash_in b cap) cookie)

-- the oldest is taken
pub record TakenIn (cap : ℕ) (b c buffer left : List ℕ) : Type 0 where
  pub becomes : Becomes cap b c (get_of cap (stash_in b cap)).stash
  pub leaves : left ≡ handed_of (slot_or_empty (get_of cap (stash_in b cap))) buffer

-- a list is stored
pub record RefilledIn (cap : ℕ) (list b c : List ℕ) (d : Dropped) : Type 0 where
  pub becomes : Becomes cap b c (store_list_of cap (stash_in b cap) list)
  pub falls : d ≡ dropped_of cap (stash_in b cap) list
