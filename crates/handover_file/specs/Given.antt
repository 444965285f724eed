-- What the iterator over the cookies of a stash's body gives: its cookies up to the body's end, or up to something broken.
-- Assumes nothing.
use Rattle.std.specs.Prelude.{ℕ, zero, suc, ◌-◌, List, [], ◌∷◌, length, Option}
use Rattle.std.specs.Iterator.{YieldsFirstBy}
use Rattle.words.specs.Bytes.{part}
use Rattle.cookiestash.specs.Queue.{Cookie}
use Rattle.handover_file.specs.declared.cut.Held.{Held}
use Rattle.handover_file.specs.declared.cut.Held.TheVariants.{One, End, Broken}
use Rattle.handover_file.specs.declared.cut.Stored.{Stored}
use Rattle.handover_file.specs.declared.cut.Cookies.{Cookies}
use Rattle.handover_file.specs.Steps.{held_at, cookie}

abbrev pub given_on : List ℕ → (ℕ → List Cookie) → Held → List Cookie
given_on b rest (One len start end) = cookie len (part b start (end - start)) ∷ rest end
given_on b rest End = []
given_on b rest Broken = []

-- with at most n
abbrev pub given_n : ℕ → List ℕ → ℕ → List Cookie
given_n zero b at = []
given_n (suc n) b at = given_on b (λ end. given_n n b end) (held_at b at)

-- the cookies from an offset on; there are no more than bytes
unfoldable pub given_from : List ℕ → ℕ → List Cookie
given_from b at = given_n (length b - at) b at

-- those of a body stand behind the reading place: of one that fits all, otherwise those before what is broken
unfoldable pub given_in : List ℕ → List Cookie
given_in b = given_from b 1

-- the cookies that are still to come
unfoldable pub cookies_left : Cookies → List Cookie
cookies_left it = given_from it.body.now it.at

-- a cookie that is given, as the definitions have it
abbrev pub cookie_of : Stored → Cookie
cookie_of s = cookie s.len s.bytes.now

-- a call gives the first cookie that is left, or none if none is left
abbrev pub GivesCookie : Cookies → Option Stored → Cookies → Type 0
GivesCookie = YieldsFirstBy cookie_of cookies_left
