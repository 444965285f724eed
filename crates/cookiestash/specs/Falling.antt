-- What falls out of a stash while cookies are stored (RULES, No. 5): of those that are held and those that are stored, oldest first, as many as do not fit.
-- Assumes nothing.
use Rattle.std.specs.Prelude.{ℕ, ◌+◌, ◌-◌, ◌<◌, min, List, [], ◌∷◌, ◌++◌, map, ◌&&◌, cond, length, take, leb, Option, None, Some}
use Rattle.cookielist.specs.List.{Listed, whole, broken, cookies_in}
use Rattle.cookiestash.specs.declared.CookieStash.{CookieStash}
use Rattle.cookiestash.specs.declared.Dropped.{Dropped}
use Rattle.cookiestash.specs.declared.StoreOut.{StoreOut}
use Rattle.cookiestash.specs.declared.StoreListOut.{StoreListOut}
use Rattle.cookiestash.specs.Stash.{slot_at, full, in_range, store_of}
use Rattle.cookiestash.specs.Queue.{Cookie, cookie_of, cookies}
use Rattle.cookiestash.specs.StoreList.{store_list_of}

-- ---- one cookie

-- no older one falls out
abbrev pub none_fallen : Option ℕ
none_fallen = None

-- the oldest, if all slots are held
-- promise no5.1: Storing a cookie answers whether an older one fell out, and its length.
unfoldable pub oldest_of : ℕ → CookieStash → Option ℕ
oldest_of cap s = cond (full cap s) (Some (slot_at s.slots s.read).len) none_fallen

-- a cookie that is stored pushes the oldest out if all slots are held; one that is not stored pushes none out
-- promise: no5.1
unfoldable pub fallen_of : ℕ → CookieStash → List ℕ → Option ℕ
fallen_of cap s c = cond (in_range cap s && leb (length c) 65535) (oldest_of cap s) none_fallen

-- the stash with the cookie, and what fell out
-- promise: no5.1
abbrev pub stored_of : ℕ → CookieStash → List ℕ → StoreOut
stored_of cap s c = record { stash = store_of cap s c; fallen = fallen_of cap s c }

-- ---- many

-- the cookies that fall out when these are stored in order: of those held before and those stored, oldest first, as many as do not fit
-- promise no5.2: What fell out is the beginning of what was held and what is stored, as many as do not fit. Count and sum are of exactly those.
--     edit: cookiestash/the_newest_falls_out, cookiestash/what_fell_out_is_not_counted
unfoldable pub fallen_all : ℕ → CookieStash → List (List ℕ) → List Cookie
fallen_all cap s cs = take (s.held + length cs - cap) (cookies cap s ++ map cookie_of cs)

-- nothing falls out if the stash is out of range or the list is broken: nothing is stored
-- promise: no5.2
abbrev pub fallen_listed : ℕ → CookieStash → Listed → List Cookie
fallen_listed cap s (whole cs) = cond (in_range cap s) (fallen_all cap s cs) []
fallen_listed cap s broken = []

-- the sum of the cookies' lengths: a cookie of which no byte is kept counts with its length too
-- promise: no5.2
abbrev pub lengths : List Cookie → ℕ
lengths [] = 0
lengths (c ∷ cs) = c.len + lengths cs

-- how many cookies, and the sum of their lengths
-- promise: no5.2
abbrev pub tally_of : List Cookie → Dropped
tally_of cs = record { count = length cs; bytes = lengths cs }

-- nothing fell out
abbrev pub none_dropped : Dropped
none_dropped = record { count = 0; bytes = 0 }

-- promise: no5.2
unfoldable pub dropped_of : ℕ → CookieStash → List ℕ → Dropped
dropped_of cap s l = tally_of (fallen_listed cap s (cookies_in l))

-- the stash with the list's cookies, and what fell out
abbrev pub stored_list_of : ℕ → CookieStash → List ℕ → StoreListOut
stored_list_of cap s l = record { stash = store_list_of cap s l; dropped = dropped_of cap s l }

-- one more that fell out, or none
abbrev pub plus_of : Dropped → Option ℕ → Dropped
plus_of d None = d
plus_of d (Some len) = record { count = d.count + 1; bytes = d.bytes + len }

-- both numbers fit 64 bits
-- promise no5.4: No list that a slice can hold overflows the sums.
abbrev pub Fit : Dropped → Type 0
Fit d = (d.count < 18446744073709551616) × (d.bytes < 18446744073709551616)

-- the same sum, as the code makes it: a number past 64 bits stays at the greatest
abbrev pub counted_of : Dropped → Option ℕ → Dropped
counted_of d None = d
counted_of d (Some len) = record { count = min (d.count + 1) 18446744073709551615; bytes = min (d.bytes + len) 18446744073709551615 }
