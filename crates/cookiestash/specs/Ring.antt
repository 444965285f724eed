-- The crate's stash on values, as its file cookiestash.rs has it (RULES, No. 12): an array of eight cookies, a place to read and a count; places wrap modulo
-- 8.
-- Assumes nothing.
use Rattle.std.specs.Prelude.{cond, List, [], map, ℕ, ◌+◌, ◌-◌, ◌%◌, ltb, eqb, get_or, take, set, replicate, Option, None, Some}
use Rattle.cookiestash.specs.declared.Slot.{Slot}
use Rattle.cookiestash.specs.declared.CookieStash.{CookieStash}

pub record Ring : Type 0 where
  pub cookies : List (List ℕ)
  pub read : ℕ
  pub valid : ℕ

abbrev pub empty : Ring
empty = record { cookies = replicate 8 []; read = 0; valid = 0 }

-- the cookie goes to (read + valid) % 8; one more is valid, or, with eight, reading starts one later
abbrev pub store : Ring → List ℕ → Ring
store r c =
    cond (ltb r.valid 8)
    (record { cookies = set r.cookies ((r.read + r.valid) % 8) c; read = r.read; valid = r.valid + 1 })
    (record { cookies = set r.cookies ((r.read + r.valid) % 8) c; read = (r.read + 1) % 8; valid = r.valid })

-- `None` if none is valid; otherwise the one at the place to read, which is left empty
pub record Got : Type 0 where
  pub cookie : Option (List ℕ)
  pub ring : Ring

abbrev pub got : Option (List ℕ) → Ring → Got
got c r = record { cookie = c; ring = r }

abbrev pub get : Ring → Got
get r =
    cond (eqb r.valid 0) (got None r)
    (got (Some (get_or r.cookies r.read [])) (record { cookies = set r.cookies r.read []; read = (r.read + 1) % 8; valid = r.valid - 1 }))

abbrev pub gap : Ring → ℕ
gap r = 8 - r.valid

abbrev pub len : Ring → ℕ
len r = r.valid

-- ---- ours as such a ring

-- a slot's cookie: as many of its bytes as its length says, up to 724
abbrev pub kept_in : Slot → List ℕ
kept_in x = cond (ltb 724 x.len) [] (take x.len x.bytes)

abbrev pub ring_of : CookieStash → Ring
ring_of s = record { cookies = map kept_in s.slots; read = s.read; valid = s.held }
