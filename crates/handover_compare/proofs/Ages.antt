-- The cookie of an age, in the body of a stash's record.
-- Assumes nothing.
use Prim.Native.Nat.{ℕ, zero, suc, ◌+◌, ◌≤◌}
use mathlib.Core.Path.{◌≡◌, refl, sym, ap, ◌∙◌}
use mathlib.Core.Bool.{Bool, true, cond, ◌&&◌}
use mathlib.Core.List.{List, [], ◌∷◌}
use native.Mathlib.Omega.{arith}
use lib.Dec.{eqb}
use lib.ListN.{length, get_or}
use Rattle.std.specs.Prelude.{Some, None}
use Rattle.std.specs.List.{slice_get}
use Rattle.words.proofs.Bytes.{Bytes}
use Rattle.cookiestash.specs.Stash.{stored}
use Rattle.cookiestash.specs.Queue.{Cookie, cookies, queue}
use Rattle.cookiestash.proofs.Stored.{stored_bounds}
use Rattle.cookiestash.proofs.Kept.{in_range_lem}
use Rattle.handover_file.specs.Cookies.{stash_fits, held_in, stash_known, empty_at, stash_of}
use Rattle.handover_file.specs.Given.{given_in}
use Rattle.handover_file.proofs.Cookies.{read_laid}
use Rattle.handover_file.proofs.Given.{given_held}
use Rattle.handover_compare.specs.Readings.{cookie_reading, no_cookie, held_of, aged_of}
use Rattle.handover_compare.specs.declared.fields.Kept.{Kept}
use Rattle.handover_compare.specs.Fields.{place_of, same_reading, field_of}
use Rattle.handover_compare.specs.Steps.{kept_reading, aged_in, cookie_in}
use Rattle.handover_compare.proofs.Places.{alike, place_short}

-- ---- the cookie of an age, as the code finds it

found_at : (cs : List Cookie) (age : ℕ) (c : Cookie) → slice_get cs age ≡ Some c → cookie_reading c ≡ aged_of cs age
unfolding aged_of
found_at [] age c e = let z : ◌≡◌ {A = ℕ} 0 1 = cc in absurd (omega arith)
found_at (d ∷ cs) zero c e = ap cookie_reading (let q : d ≡ c = cc in sym q)
found_at (d ∷ cs) (suc age) c e = found_at cs age c e

none_at : (cs : List Cookie) (age : ℕ) → slice_get cs age ≡ None → no_cookie ≡ aged_of cs age
unfolding aged_of
none_at [] age e = refl
none_at (d ∷ cs) zero e = let z : ◌≡◌ {A = ℕ} 0 1 = cc in absurd (omega arith)
none_at (d ∷ cs) (suc age) e = none_at cs age e

module _ (b : List ℕ) (age : ℕ) where
  pub aged_found : (c : Cookie) → slice_get (given_in b) age ≡ Some c → cookie_reading c ≡ aged_in b age
  unfolding aged_in
  aged_found c e = found_at (given_in b) age c e

  pub aged_none : slice_get (given_in b) age ≡ None → no_cookie ≡ aged_in b age
  unfolding aged_in
  aged_none e = none_at (given_in b) age e

-- ---- two cookies of an age

-- a place is within the slot
pub place_within : (a b : Kept) → length a.bytes.now ≡ stored a.number → (p : ℕ) → p ≡ place_of a.bytes.now b.bytes.now → p ≤ 724
place_within a b n p e = omega (arith, place_short a.bytes.now b.bytes.now, n, stored_bounds a.number)

module _ (l r : List ℕ) (age : ℕ) (a b : Kept) (la : length a.bytes.now ≡ stored a.number) (lb : length b.bytes.now ≡ stored b.number) where
  kept_same : (eqb a.number b.number && eqb (place_of a.bytes.now b.bytes.now) (length a.bytes.now)) ≡ same_reading (kept_reading a) (kept_reading b)
  unfolding same_reading
  kept_same = alike a.number b.number a.bytes.now b.bytes.now (λ e. la ∙ ap stored e ∙ sym lb)

  -- what the code makes of them
  pub cookie_field_by : kept_reading a ≡ aged_in l age → kept_reading b ≡ aged_in r age → (p : ℕ) (s : Bool) → p ≡ place_of a.bytes.now b.bytes.now →
      s ≡ (eqb a.number b.number && eqb p (length a.bytes.now))
      → record { code = 32 + age; left = a.number; right = b.number; place = p; same = s } ≡ cookie_in l r age
  unfolding cookie_in field_of
  cookie_field_by ka kb p s ep es =
      let same : s ≡ same_reading (kept_reading a) (kept_reading b) = es ∙ (λ i. eqb a.number b.number && eqb (ep i) (length a.bytes.now)) ∙ kept_same in
      ◌∙◌ {b = field_of (32 + age) (kept_reading a) (kept_reading b)}
      (λ i. record { code = 32 + age; left = a.number; right = b.number; place = ep i; same = same i })
      (λ i. field_of (32 + age) (ka i) (kb i))

-- ---- of a body that is one, they are the cookies of the stash

-- a stash that is read of a body: what is read of either is the same
module _ (cap : ℕ) (b : List ℕ) (y : Bytes b) (f : stash_fits b ≡ true) (k : stash_known cap b ≡ true) where
  held_is : held_of cap (stash_of cap b) ≡ held_in b
  unfolding held_of empty_at cookies queue
  held_is = ap (λ (t : Bool). cond t (cookies cap (stash_of cap b)) []) (in_range_lem cap (stash_of cap b) (read_laid cap b y f k).whole)
      ∙ (read_laid cap b y f k).holds

  pub place_is : get_or b 0 0 ≡ (stash_of cap b).read
  unfolding empty_at
  place_is = sym (read_laid cap b y f k).reads

  -- promise: no10.2 (a body's cookies are the stash's)
  pub aged_is : (age : ℕ) → aged_in b age ≡ aged_of (held_of cap (stash_of cap b)) age
  unfolding aged_in
  aged_is age = ap (λ (cs : List Cookie). aged_of cs age) (given_held b f ∙ sym held_is)
