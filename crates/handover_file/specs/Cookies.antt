-- The stash's record of the hand-over file (RULES, No. 6 and No. 12), for a stash of a capacity: the reading place, then the cookies held, oldest first, each
-- its length (two bytes) and its stored bytes.
-- Assumes nothing.
use Rattle.std.specs.Prelude.{ℕ, zero, suc, ◌+◌, ◌-◌, Bool, true, false, cond, List, [], ◌∷◌, ◌++◌, ltb, eqb, length, get_or, drop, replicate}
use Rattle.words.specs.Bytes.{be, part, to_be}
use Rattle.cookiestash.specs.declared.Slot.{Slot}
use Rattle.cookiestash.specs.declared.CookieStash.{CookieStash}
use Rattle.cookiestash.specs.Stash.{stored, empty_slot, range_of, put_of}
use Rattle.cookiestash.specs.Queue.{Cookie, cookies}

-- ---- the writer

unfoldable pub cookie_bytes : Cookie → List ℕ
cookie_bytes c = to_be 2 c.len ++ c.bytes

abbrev pub cookies_bytes : List Cookie → List ℕ
cookies_bytes [] = []
cookies_bytes (c ∷ cs) = cookie_bytes c ++ cookies_bytes cs

-- promise: no6.1, no12.5
unfoldable pub stash_bytes : ℕ → CookieStash → List ℕ
stash_bytes cap s = s.read ∷ cookies_bytes (cookies cap s)

-- ---- the reader

-- what bytes are read as: cookies, or broken
pub data Run : Type 0 where
  whole : List Cookie → Run
  broken : Run

abbrev pub ahead : Cookie → Run → Run
ahead c (whole cs) = whole (c ∷ cs)
ahead c broken = broken

-- the length at the start
unfoldable pub len_of : List ℕ → ℕ
len_of l = be (part l 0 2)

-- and the cookie of that length
unfoldable pub first_of : List ℕ → Cookie
first_of l = record { len = len_of l; bytes = part l 2 (stored (len_of l)) }

-- what comes first: nothing is the end; a length and its stored bytes are a cookie; all else is broken
abbrev pub run_turn : (List ℕ → Run) → List ℕ → Run
run_turn rest l =
    cond (eqb (length l) 0) (whole [])
    (cond (ltb (length l) 2) broken
    (cond (ltb (length l - 2) (stored (len_of l))) broken
    (ahead (first_of l) (rest (drop (2 + stored (len_of l)) l)))))

-- with at most n cookies
abbrev pub run_n : ℕ → List ℕ → Run
run_n zero l = run_turn (λ r. broken) l
run_n (suc n) l = run_turn (λ r. run_n n r) l

-- there are no more cookies than bytes
unfoldable pub run_of : List ℕ → Run
run_of l = run_n (length l) l

abbrev pub is_run : Run → Bool
is_run (whole cs) = true
is_run broken = false

abbrev pub cookies_of : Run → List Cookie
cookies_of (whole cs) = cs
cookies_of broken = []

-- a body has the reading place, and its cookies end where it ends
-- promise: no6.7
unfoldable pub stash_fits : List ℕ → Bool
stash_fits b = cond (eqb (length b) 0) false (is_run (run_of (drop 1 b)))

unfoldable pub held_in : List ℕ → List Cookie
held_in b = cookies_of (run_of (drop 1 b))

-- no stash has a reading place at or past its capacity, more cookies than its capacity, or a capacity over eight
-- promise: no6.7, no12.5
unfoldable pub stash_known : ℕ → List ℕ → Bool
stash_known cap b = range_of cap (get_or b 0 0) (length (held_in b))

-- the slot that holds a cookie as it was kept
unfoldable pub slot_for : Cookie → Slot
slot_for c = record { bytes = c.bytes ++ replicate (724 - stored c.len) 0; len = c.len }

-- an empty stash with a reading place
unfoldable pub empty_at : ℕ → CookieStash
empty_at read = record { slots = replicate 8 empty_slot; read = read; held = 0 }

-- the cookies put after the newest, one by one
abbrev pub laid_in : ℕ → CookieStash → List Cookie → CookieStash
laid_in cap s [] = s
laid_in cap s (c ∷ cs) = laid_in cap (put_of cap s (slot_for c)) cs

-- promise: no12.5
unfoldable pub stash_of : ℕ → List ℕ → CookieStash
stash_of cap b = laid_in cap (empty_at (get_or b 0 0)) (held_in b)
