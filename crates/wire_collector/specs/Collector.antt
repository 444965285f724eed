-- The collector of cookies (RULES, part 7): the list of the cookies among decrypted fields, what collecting it answers, and what it leaves in the buffer.
-- Assumes nothing.
use Rattle.std.specs.Prelude.{ℕ, List, ◌++◌, cond, length, drop, leb, Result, Ok, Err}
use Rattle.cookielist.specs.List.{list_of}
use Rattle.wire_fields.specs.Walk.{decrypted_walk, whole, fields_of, bodies_of}
use Rattle.wire_collector.specs.declared.CollectRefusal.{CollectRefusal}
use Rattle.wire_collector.specs.declared.CollectRefusal.TheVariants.{Broken, TooLong}

-- the type of a field that carries a cookie
abbrev pub cookie_kind : ℕ
cookie_kind = 0x0204

-- the cookies: whole bodies, padding included
abbrev pub cookies_of : List ℕ → List (List ℕ)
cookies_of p = bodies_of cookie_kind p (fields_of (decrypted_walk p))

-- promise 7.9: The collector writes the list of the cookies into a lent buffer. It rejects with 1, then with 31, and then writes nothing.
--     edit: wire_collector/placeholder_collected, wire_collector/list_counted_short
unfoldable pub list_in : List ℕ → List ℕ
list_in p = list_of (cookies_of p)

-- broken fields are rejected first, then a list longer than the buffer; otherwise the list's length
-- promise: 7.9
unfoldable pub collect_of : List ℕ → ℕ → Result ℕ CollectRefusal
collect_of p room = cond (whole (decrypted_walk p)) (cond (leb (length (list_in p)) room) (Ok (length (list_in p))) (Err TooLong)) (Err Broken)

-- the list at the start and the bytes past it unchanged, or nothing written
abbrev pub left_in : List ℕ → List ℕ → Result ℕ CollectRefusal → List ℕ
left_in list out (Ok n) = list ++ drop n out
left_in list out (Err refusal) = out

-- promise: 7.9
unfoldable pub buffer_of : List ℕ → List ℕ → List ℕ
buffer_of p out = left_in (list_in p) out (collect_of p (length out))

-- the numbers in RULES
-- promise: 7.9
abbrev pub number_of : Result ℕ CollectRefusal → ℕ
number_of (Ok n) = 0
number_of (Err Broken) = 1
number_of (Err TooLong) = 31
