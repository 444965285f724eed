-- What the iterator over a cookie list gives: its cookies up to the end, or up to a broken entry.
-- Assumes nothing.
use Rattle.std.specs.Prelude.{ℕ, zero, suc, ◌-◌, List, [], ◌∷◌, Bool, ◌≡◌, length, Option}
use Rattle.std.specs.Borrow.{Bor}
use Rattle.std.specs.Iterator.{YieldsFirstRef}
use Rattle.words.specs.Bytes.{part}
use Rattle.cookielist.specs.declared.Entry.{Entry}
use Rattle.cookielist.specs.declared.Entry.TheVariants.{Cookie, End, Broken}
use Rattle.cookielist.specs.declared.Cookies.{Cookies}
use Rattle.cookielist.specs.List.{entry_at, is_whole, cookies_from}

abbrev pub given_on : List ℕ → (ℕ → List (List ℕ)) → Entry → List (List ℕ)
given_on l rest (Cookie start end) = part l start (end - start) ∷ rest end
given_on l rest End = []
given_on l rest Broken = []

-- with at most n more than one
abbrev pub given_n : ℕ → List ℕ → ℕ → List (List ℕ)
given_n zero l at = given_on l (λ end. []) (entry_at l at)
given_n (suc n) l at = given_on l (λ end. given_n n l end) (entry_at l at)

-- the cookies from an offset on, up to the end or to a broken entry; there are no more cookies than bytes
unfoldable pub given_from : List ℕ → ℕ → List (List ℕ)
given_from l at = given_n (length l - at) l at

-- the cookies of a list: of a whole one all, of a broken one those before the broken entry
-- promise 3.14: Taken one by one, the cookies of a list come in their order, each once: of a whole list all, of a broken one those before the broken entry.
--     edit: cookielist/a_cookie_is_passed_over, cookielist/the_first_cookie_is_left_out
unfoldable pub cookies_given : List ℕ → List (List ℕ)
cookies_given l = given_from l 0

-- the cookies that are still to come
unfoldable pub cookies_left : Cookies → List (List ℕ)
cookies_left it = given_from it.list.now it.at

-- whether behind them the list ends: no entry from here on is broken
unfoldable pub ends_whole : Cookies → Bool
ends_whole it = is_whole (cookies_from it.list.now it.at)

-- a call gives the first cookie that is left, or none if none is left; whether the list is broken further on stays as it was
abbrev pub GivesCookie : Cookies → Option (Bor (List ℕ)) → Cookies → Type 0
GivesCookie old given new = YieldsFirstRef cookies_left old given new × (ends_whole new ≡ ends_whole old)
