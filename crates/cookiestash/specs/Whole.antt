-- When a stash is whole (RULES, "Settings and a whole record"): as the test that the code makes, and as a statement.
-- Assumes nothing.
use Rattle.std.specs.Prelude.{ℕ, zero, suc, ◌+◌, ◌-◌, ◌≤◌, ◌<◌, ◌≡◌, List, [], ◌∷◌, ◌++◌, map, Bool, true, ◌&&◌, cond, ltb, eqb, Some, None}
use Rattle.std.specs.Prelude.{length, get_or, drop, replicate}
use Rattle.std.specs.Option.{option_map}
use Rattle.words.specs.Bytes.{zeros}
use Rattle.cookiestash.specs.declared.Slot.{Slot}
use Rattle.cookiestash.specs.declared.CookieStash.{CookieStash}
use Rattle.cookiestash.specs.declared.Seen.{Seen}
use Rattle.cookiestash.specs.Stash.{stored, empty_slot, slot_at, wrap, range_of, in_range, gap_of, get_of}
use Rattle.cookiestash.specs.Queue.{walk}

-- the bytes past the stored ones are zero
unfoldable pub padded : Slot → Bool
padded x = zeros (drop (stored x.len) x.bytes)

abbrev pub all_padded : List Slot → Bool
all_padded [] = true
all_padded (x ∷ xs) = padded x && all_padded xs

abbrev pub all_free : List Slot → Bool
all_free [] = true
all_free (x ∷ xs) = eqb x.len 0 && all_free xs

-- the slots that hold no cookie: the rest of the ring after the newest, and those past the capacity
unfoldable pub free_slots : ℕ → CookieStash → List Slot
free_slots cap s = walk cap s.slots (wrap cap (s.read + s.held)) (cap - s.held) ++ drop cap s.slots

-- the test: in range, padded, and free slots have length 0
-- promise 3.10: A whole stash has read < capacity and held ≤ capacity. Free slots and slots past the capacity have length 0. Bytes past the stored ones are
--     zero (No. 12).
--     edit: cookiestash/a_slot_past_the_capacity_is_held
-- promise: 3.10 (test)
unfoldable pub whole_of : ℕ → CookieStash → Bool
whole_of cap s = in_range cap s && (all_padded s.slots && all_free (free_slots cap s))

-- the summary that the rules read: whether the stash is whole; whether it has a cookie, the length of the oldest, and the gap, counted after the take; the
-- place and the count
-- promise 3.7: What the rules read of a stash.
--     edit: cookiestash/the_gap_before_the_take, cookiestash/a_cookie_is_seen_in_an_empty_stash
-- promise: 10.4, no12.3
abbrev pub seen_of : ℕ → CookieStash → Seen
seen_of cap s =
    record {
      whole = whole_of cap s;
      oldest = option_map (λ x. x.len) (get_of cap s).cookie;
      gap = gap_of cap (get_of cap s).stash;
      read = s.read;
      held = s.held;
    }

-- ---- the same, from the slots' lengths

unfoldable pub lens_of : CookieStash → List ℕ
lens_of s = map (λ x. x.len) s.slots

-- the n places from a place on, wrapping around, have length 0
abbrev pub round_free : ℕ → List ℕ → ℕ → ℕ → Bool
round_free cap lens at zero = true
round_free cap lens at (suc n) = eqb (get_or lens at 0) 0 && round_free cap lens (wrap cap (at + 1)) n

-- a stash of this place and count has a cookie
abbrev pub has_of : ℕ → ℕ → ℕ → Bool
has_of cap read held = range_of cap read held && ltb 0 held

-- the summary, from a place and a count, from whether every slot is zero past its stored bytes, and from the slots' lengths
unfoldable pub seen_from : ℕ → ℕ → ℕ → Bool → List ℕ → Seen
seen_from cap read held padded lens =
    record {
      whole = range_of cap read held && (padded && (zeros (drop cap lens) && round_free cap lens (wrap cap (read + held)) (cap - held)));
      oldest = cond (has_of cap read held) (Some (get_or lens read 0)) None;
      gap = cap - cond (has_of cap read held) (held - 1) held;
      read = read;
      held = held;
    }

-- ---- the statement

-- of a slot
pub record WholeSlot (x : Slot) : Type 0 where
  pub short : x.len ≤ 65535
  pub sized : length x.bytes ≡ 724
  pub padded : drop (stored x.len) x.bytes ≡ replicate (724 - stored x.len) 0

-- and of a stash
-- promise: 3.10 (statement)
pub record Whole (cap : ℕ) (s : CookieStash) : Type 0 where
  pub reads : s.read < cap
  pub counts : s.held ≤ cap
  pub most : cap ≤ 8
  pub room : cap ≤ length s.slots
  pub each : (k : ℕ) → k < length s.slots → WholeSlot (slot_at s.slots k)
  pub free : (k : ℕ) → s.held ≤ k → k < cap → slot_at s.slots (wrap cap (s.read + k)) ≡ empty_slot
  pub past : (k : ℕ) → cap ≤ k → k < length s.slots → slot_at s.slots k ≡ empty_slot

-- what the types alone say about a stash
pub record Typed (s : CookieStash) : Type 0 where
  pub eight : length s.slots ≡ 8
  pub each : (k : ℕ) → k < 8 → (length (slot_at s.slots k).bytes ≡ 724) × ((slot_at s.slots k).len ≤ 65535)
