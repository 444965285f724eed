-- The cookie list (RULES, "Settings and a whole record"): a run of records, each the mark C0 0E, the length in two bytes, big-endian, and the bytes. It may be
-- empty.
-- Assumes nothing.
use Rattle.std.specs.Prelude.{ℕ, zero, suc, ◌+◌, ◌-◌, ◌≤◌, List, [], ◌∷◌, ◌++◌, Bool, true, false, not, ◌&&◌, cond, ◌≡◌, length, ltb, eqb}
use Rattle.std.proofs.Math.Option.{Option, none, some}
use Rattle.words.specs.Bytes.{be, part}
use Rattle.words.specs.Put.{record_of}
use Rattle.cookielist.specs.declared.Entry.{Entry}
use Rattle.cookielist.specs.declared.Entry.TheVariants.{Cookie, End, Broken}

-- ---- the writer

-- promise 3.12: A cookie list is a run of records: C0 0E, length, bytes. An empty list is valid.
--     edit: cookielist/the_mark_is_wrong, cookielist/a_length_past_the_end, cookielist/a_broken_list_is_read
abbrev pub list_of : List (List ℕ) → List ℕ
list_of [] = []
list_of (c ∷ cs) = record_of 0xC00E c ++ list_of cs

-- cookies whose lengths fit two bytes
abbrev pub AllShort : List (List ℕ) → Type 0
AllShort [] = Unit
AllShort (c ∷ cs) = (length c ≤ 65535) × AllShort cs

-- ---- the reader

-- the mark and the length of the record at an offset
unfoldable pub record_mark_at : List ℕ → ℕ → ℕ
record_mark_at l at = be (part l at 2)

unfoldable pub length_at : List ℕ → ℕ → ℕ
length_at l at = be (part l (at + 2) 2)

-- what is at an offset: past the bytes it is broken; with nothing left it is the end; four bytes of mark and length, the mark C0 0E, and as many bytes as the
-- length says are a cookie
-- promise: 3.12
unfoldable pub entry_at : List ℕ → ℕ → Entry
entry_at l at =
    cond (ltb (length l) at) Broken
    (cond (eqb (length l - at) 0) End
    (cond (ltb (length l - at) 4) Broken
    (cond (eqb (record_mark_at l at) 0xC00E)
    (cond (ltb (length l - at - 4) (length_at l at)) Broken
    (Cookie (at + 4) (at + 4 + length_at l at)))
    Broken)))

-- the number in RULES: 33 if the list is broken; a cookie and the end are not rejected
-- promise: 3.12
abbrev pub refusal_of : Entry → Option ℕ
refusal_of (Cookie start end) = none
refusal_of End = none
refusal_of Broken = some 33

-- an offset that the reader reaches: where it starts, and the end of each cookie at such an offset
pub data Reached (l : List ℕ) : ℕ → ℕ → Type 0 where
  here : {at : ℕ} → Reached l at at
  past : {at start end to : ℕ} → entry_at l at ≡ Cookie start end → Reached l end to → Reached l at to

-- from an offset, the reader reaches one at which the list is rejected with 33
-- promise: 3.12
pub record ListRefused (l : List ℕ) (at : ℕ) : Type 0 where
  pub place : ℕ
  pub reached : Reached l at place
  pub number : refusal_of (entry_at l place) ≡ some 33

-- what a list is read as: its cookies, or broken
pub data Listed : Type 0 where
  whole : List (List ℕ) → Listed
  broken : Listed

-- promise no9.4: A list without damage comes out byte for byte with no gaps.
abbrev pub is_whole : Listed → Bool
is_whole (whole cs) = true
is_whole broken = false

-- a cookie before those of the rest
abbrev pub before : List ℕ → Listed → Listed
before c (whole cs) = whole (c ∷ cs)
before c broken = broken

abbrev pub on_entry : List ℕ → (ℕ → Listed) → Entry → Listed
on_entry l rest (Cookie start end) = before (part l start (end - start)) (rest end)
on_entry l rest End = whole []
on_entry l rest Broken = broken

-- with at most n cookies
abbrev pub cookies_n : ℕ → List ℕ → ℕ → Listed
cookies_n zero l at = on_entry l (λ end. broken) (entry_at l at)
cookies_n (suc n) l at = on_entry l (λ end. cookies_n n l end) (entry_at l at)

-- the cookies from an offset on; there are no more cookies than bytes
unfoldable pub cookies_from : List ℕ → ℕ → Listed
cookies_from l at = cookies_n (length l - at) l at

-- promise: 3.12, no9.4
unfoldable pub cookies_in : List ℕ → Listed
cookies_in l = cookies_from l 0

-- a broken list is rejected with NTS only
abbrev pub list_broken : Bool → List ℕ → Bool
list_broken nts l = nts && not (is_whole (cookies_in l))
