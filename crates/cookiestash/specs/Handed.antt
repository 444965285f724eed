-- A cookie handed out (RULES, parts 3 and 10): what is left in a lent buffer.
-- Assumes nothing.
use Rattle.std.specs.Prelude.{ℕ, min, List, ◌++◌, length, take, drop}
use Rattle.cookiestash.specs.declared.Slot.{Slot}
use Rattle.cookiestash.specs.Stash.{stored}

-- a cookie's bytes at the start of a buffer, the rest of the buffer unchanged
-- promise 3.11: What is handed out of a slot.
--     edit: cookiestash/the_handed_bytes_end_one_early
-- promise: 10.8
abbrev pub wrote : List ℕ → ℕ → List ℕ → List ℕ
wrote cookie len buffer = take len cookie ++ drop len buffer

-- the stored bytes of a slot, as many as fit
-- promise: 3.11
unfoldable pub handed_of : Slot → List ℕ → List ℕ
handed_of x buffer = wrote x.bytes (min (stored x.len) (length buffer)) buffer
