-- What is read from a record to compare it with another (RULES, No. 10 and No. 12): each field's number, in the order of the hand-over file, and the stored
-- bytes of each cookie.
-- Assumes nothing.
use Rattle.std.specs.Prelude.{ℕ, ◌+◌, ◌*◌, ◌^◌, cond, List, [], ◌∷◌, ◌++◌, map, ℤ, get_or}
use Rattle.words.specs.Signed.{unsigned}
use Rattle.version.specs.declared.Version.{Version}
use Rattle.cookiestash.specs.declared.CookieStash.{CookieStash}
use Rattle.cookiestash.specs.Stash.{in_range}
use Rattle.cookiestash.specs.Queue.{Cookie, cookies}
use Rattle.association.specs.declared.Settings.{Settings}
use Rattle.association.specs.declared.State.{State}
use Rattle.association.specs.declared.Association.{Association}
use Rattle.handover_groups.specs.Codes.{yes_code, kind_code, tries_code}

-- what is read from a field: its number. A cookie's number is its length; its stored bytes are read too, and are compared but not shown
pub record Reading : Type 0 where
  pub number : ℕ
  pub bytes : List ℕ

abbrev pub plain : ℕ → Reading
plain n = record { number = n; bytes = [] }

-- a signed number as 64-bit two's complement
abbrev pub bits64 : ℤ → ℕ
bits64 z = unsigned (2 ^ 63) z

-- a version as kind × 256 + tries
unfoldable pub version_number : Version → ℕ
version_number v = kind_code v.kind * 256 + tries_code v.kind

-- min, max, startup, window, upgrade mark, start version, nts, source
-- promise no10.1: The comparison lists every differing field, in the file's order, with both readings.
unfoldable pub settings_numbers : Settings → List ℕ
settings_numbers s =
    bits64 s.min.0
    ∷ bits64 s.max.0
    ∷ s.startup
    ∷ s.window
    ∷ s.upgrademark
    ∷ version_number s.start
    ∷ yes_code s.nts
    ∷ s.source.0
    ∷ []

-- reach, tries, version, last, remote minimum, stratum, reference identifier, denial
-- promise: no10.1
unfoldable pub state_numbers : State → List ℕ
state_numbers s =
    s.effort.reach.0
    ∷ s.effort.tries
    ∷ version_number s.version
    ∷ bits64 s.polls.last.0
    ∷ bits64 s.polls.remote.0
    ∷ s.source.stratum
    ∷ s.source.refid.0
    ∷ yes_code s.source.denial
    ∷ []

-- a cookie as its length
abbrev pub cookie_reading : Cookie → Reading
cookie_reading c = record { number = c.len; bytes = c.bytes }

-- 65,536 if the box has none of that age
-- promise: no10.2
abbrev pub no_cookie : Reading
no_cookie = record { number = 65536; bytes = [] }

-- the cookies that are held by a stash of that capacity; one that is out of range holds none
unfoldable pub held_of : ℕ → CookieStash → List Cookie
held_of cap s = cond (in_range cap s) (cookies cap s) []

-- the cookie of an age; 0 is the oldest
-- promise no10.2: Cookies are compared by age, and shown only by length and the place of the first differing stored byte, or of the shorter one's end.
--     edit: handover_compare/cookies_past_the_shorter_stash_are_left_out, handover_compare/a_missing_cookie_reads_as_an_empty_one
-- promise: no10.1
unfoldable pub aged_of : List Cookie → ℕ → Reading
aged_of cs age = get_or (map cookie_reading cs) age no_cookie

abbrev pub ages : List ℕ
ages = 0 ∷ 1 ∷ 2 ∷ 3 ∷ 4 ∷ 5 ∷ 6 ∷ 7 ∷ []

-- the capacity, the reading place, and the cookies by age
abbrev pub stash_readings : ℕ → CookieStash → List Reading
stash_readings cap s = plain cap ∷ plain s.read ∷ map (aged_of (held_of cap s)) ages

-- promise: no10.1
abbrev pub readings_of : Association → List Reading
readings_of a = map plain (settings_numbers a.settings) ++ (stash_readings a.settings.capacity a.stash ++ map plain (state_numbers a.state))
