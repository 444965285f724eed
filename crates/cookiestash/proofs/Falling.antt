-- What falls out: one cookie after the other it is what the definition says of all; nothing is lost unseen; and the sums are small.
-- Assumes nothing.
use Prim.Native.Nat.{ℕ, zero, suc, ◌+◌, ◌*◌, ◌-◌, ◌≤◌, ◌<◌, min}
use mathlib.Core.Path.{◌≡◌, refl, sym, ap, ◌∙◌}
use mathlib.Core.Bool.{Bool, true, false, cond}
use mathlib.Core.List.{List, [], ◌∷◌, ◌++◌, map, append_assoc}
use native.Mathlib.Decide.{dec_lt}
use native.Mathlib.Omega.{arith}
use borrow.Author.Tests.{le-leb, lt-leb}
use lib.ListN.{length, take, drop, take-append-drop, length-append, length-take, length-map, get_or-eq_default}
use Rattle.words.proofs.Bytes.{Bytes}
use Rattle.words.specs.Put.{record_of}
use Rattle.std.proofs.Common.{Option, None, Some}
use Rattle.cookielist.specs.List.{AllShort, list_of, Listed, whole, broken, is_whole, cookies_in}
use Rattle.cookielist.proofs.RoundTrip.{list_written, list_short}
use Rattle.cookiestash.specs.declared.Slot.{Slot}
use Rattle.cookiestash.specs.declared.CookieStash.{CookieStash}
use Rattle.cookiestash.specs.declared.Dropped.{Dropped}
use Rattle.cookiestash.specs.Stash.{slot_at, wrap, full, in_range, store_of}
use Rattle.cookiestash.specs.Queue.{walk, queue, cookie_of, seen, cookies, store_all}
use Rattle.cookiestash.specs.Queue as Q
use Rattle.cookiestash.specs.Whole.{Typed}
use Rattle.cookiestash.specs.Falling.{none_fallen, oldest_of, fallen_of, fallen_all, fallen_listed, lengths, tally_of, dropped_of, plus_of, counted_of, Fit}
use Rattle.cookiestash.proofs.Range.{within, InRange, store_range}
use Rattle.cookiestash.proofs.Cookies.{length_cookies, store_room, store_full, held_room, held_full, store_all_lem}

-- ---- sums

pub lengths_append : (xs ys : List Q.Cookie) → lengths (xs ++ ys) ≡ lengths xs + lengths ys
lengths_append [] ys = omega arith
lengths_append (x ∷ xs) ys = omega (arith, lengths_append xs ys)

lengths_take : (n : ℕ) (xs : List Q.Cookie) → lengths (take n xs) ≤ lengths xs
lengths_take n xs = omega (arith, lengths_append (take n xs) (drop n xs), ap lengths (take-append-drop n xs))

-- ---- one cookie after the other

-- where all slots are held the oldest cookie
abbrev pub oldest : ℕ → CookieStash → List Q.Cookie
oldest cap s = cond (full cap s) (seen (slot_at s.slots s.read) ∷ []) []

walk_first : (cap : ℕ) (xs : List Slot) (at n : ℕ) → 0 < n → map seen (walk cap xs at n) ≡ seen (slot_at xs at) ∷ drop 1 (map seen (walk cap xs at n))
walk_first cap xs at zero h = absurd (omega arith)
walk_first cap xs at (suc n) h = refl

first : (cap : ℕ) (s : CookieStash) → 0 < s.held → cookies cap s ≡ seen (slot_at s.slots s.read) ∷ drop 1 (cookies cap s)
unfolding cookies queue
first cap s h = walk_first cap s.slots s.read s.held h

module _ (cap : ℕ) (s : CookieStash) (i : InRange cap s) where
  pub none_falls : fallen_all cap s [] ≡ []
  unfolding fallen_all
  none_falls = let e : s.held + 0 - cap ≡ 0 = omega (arith, within cap s.read s.held i) in rw e

  -- what falls out where a cookie is stored comes before what falls out after it
  -- promise: no5.2 (one by one it is the same), no12.2
  pub falls_first : cap ≤ length s.slots → (c : List ℕ) → length c ≤ 65535 → (cs : List (List ℕ)) →
      fallen_all cap s (c ∷ cs) ≡ oldest cap s ++ fallen_all cap (store_of cap s c) cs
  unfolding fallen_all full
  falls_first room c h cs =
      let w = within cap s.read s.held i in
      let rest = cookie_of c ∷ map cookie_of cs in
      elim (dec_lt s.held cap) [
        | yes l ↦
            let n : (store_of cap s c).held + length cs - cap ≡ s.held + suc (length cs) - cap = rw (held_room cap s i room c h l) (omega arith) in
            rw (lt-leb cap s.held l, n, store_room cap s i room c h l, append_assoc)
        | no l ↦
            let e : s.held ≡ cap = omega (arith, w) in
            let n : (store_of cap s c).held + length cs - cap ≡ length cs = rw (held_full cap s i room c h e) (omega arith) in
            let m : s.held + suc (length cs) - cap ≡ suc (length cs) = omega arith in
            rw (le-leb cap s.held (omega arith), n, m, store_full cap s i room c h e, append_assoc)
            (ap (λ (q : List Q.Cookie). take (suc (length cs)) (q ++ rest)) (first cap s (omega (arith, w))))
      ]

-- ---- nothing is lost unseen

module _ (cap : ℕ) (s : CookieStash) (i : InRange cap s) (room : cap ≤ length s.slots) (cs : List (List ℕ)) (h : AllShort cs) where
  -- what was held and what is stored, oldest first: the beginning fell out, and the rest is held
  -- promise no5.3: Nothing is lost unseen: held before and stored is fallen out and held after, cookie for cookie, in lengths and in counts.
  pub none_unseen : cookies cap s ++ map cookie_of cs ≡ fallen_all cap s cs ++ cookies cap (store_all cap s cs)
  unfolding fallen_all
  none_unseen = rw (store_all_lem cap s i room cs h) (sym (take-append-drop (s.held + length cs - cap) (cookies cap s ++ map cookie_of cs)))

  -- promise: no5.3
  pub lengths_kept : lengths (cookies cap s) + lengths (map cookie_of cs) ≡ lengths (fallen_all cap s cs) + lengths (cookies cap (store_all cap s cs))
  lengths_kept = sym (lengths_append (cookies cap s) (map cookie_of cs)) ∙ ap lengths none_unseen
      ∙ lengths_append (fallen_all cap s cs) (cookies cap (store_all cap s cs))

  -- promise: no5.3
  pub counts_kept : s.held + length cs ≡ length (fallen_all cap s cs) + (store_all cap s cs).held
  counts_kept =
      omega (
        arith,
        ap length none_unseen,
        length-append (cookies cap s) (map cookie_of cs),
        length-append (fallen_all cap s cs) (cookies cap (store_all cap s cs)),
        length-map cs cookie_of,
        length_cookies cap s,
        length_cookies cap (store_all cap s cs),
      )

  -- as many as do not fit
  -- promise: no5.2, no12.2
  pub as_many : length (fallen_all cap s cs) ≡ s.held + length cs - cap
  unfolding fallen_all
  as_many =
      let w = within cap s.read s.held i in
      simp (length-take, length-append, length-map, length_cookies) (omega arith)

-- ---- a list

-- these, beside those that fell out before
abbrev pub added : Dropped → List Q.Cookie → Dropped
added d cs = record { count = d.count + length cs; bytes = d.bytes + lengths cs }

-- one cookie that fell out, or none, beside those before
added_oldest : (s : CookieStash) (d : Dropped) (cs : List Q.Cookie) (b : Bool) → let x = slot_at s.slots s.read in
    added d (cond b (seen x ∷ []) [] ++ cs) ≡ added (plus_of d (cond b (Some x.len) none_fallen)) cs
unfolding seen
added_oldest s d cs true =
    λ i. record {
      count = (let e : d.count + suc (length cs) ≡ d.count + 1 + length cs = omega arith in e) i;
      bytes
          = (let x = (slot_at s.slots s.read).len in let e : d.bytes + (x + lengths cs) ≡ d.bytes + x + lengths cs = omega arith in e) i;
    }
added_oldest s d cs false = refl

added_none : (d : Dropped) → added d [] ≡ d
added_none d = let c : d.count + 0 ≡ d.count = omega arith in let b : d.bytes + 0 ≡ d.bytes = omega arith in λ i. record { count = c i; bytes = b i }

pub from_none : (cs : List Q.Cookie) → added (record { count = 0; bytes = 0 }) cs ≡ tally_of cs
from_none cs = let c : 0 + length cs ≡ length cs = omega arith in let b : 0 + lengths cs ≡ lengths cs = omega arith in λ i. record { count = c i; bytes = b i }

-- what fits beside more fits alone
pub less_fits : (d t : Dropped) (cs : List Q.Cookie) → added d cs ≡ t → Fit t → Fit d
less_fits d t cs e f =
    let c : d.count + length cs ≡ t.count = ap (λ (x : Dropped). x.count) e in
    let b : d.bytes + lengths cs ≡ t.bytes = ap (λ (x : Dropped). x.bytes) e in
    (omega arith, omega arith)

module _ (cap : ℕ) (s : CookieStash) where
  -- a list that is not whole is not stored
  pub falls_broken : (r : Listed) → is_whole r ≡ false → fallen_listed cap s r ≡ []
  falls_broken (whole cs) e = let z : ◌≡◌ {A = ℕ} 0 1 = cc in absurd (omega arith)
  falls_broken broken e = refl

  nothing_by : (b : Bool) → in_range cap s ≡ b → cond b (fallen_all cap s []) [] ≡ []
  unfolding in_range
  nothing_by true i = none_falls cap s i
  nothing_by false i = refl

  -- with no cookie left nothing more falls out
  pub falls_none : (d : Dropped) → added d (fallen_listed cap s (whole [])) ≡ d
  falls_none d = rw (nothing_by (in_range cap s) refl) (added_none d)

  module _ (eight : length s.slots ≡ 8) (d : Dropped) (c : List ℕ) (h : length c ≤ 65535) where
    -- it pushes the oldest out
    pub pushes : InRange cap s → fallen_of cap s c ≡ oldest_of cap s
    unfolding fallen_of in_range
    pushes i = simp (i, le-leb (length c) 65535 h)

    out_none : in_range cap s ≡ false → (store_of cap s c ≡ s) × (fallen_of cap s c ≡ none_fallen)
    unfolding store_of fallen_of
    out_none i = (rw i, rw i)

    in_falls : (cs : List (List ℕ)) → InRange cap s →
        added d (fallen_all cap s (c ∷ cs)) ≡ added (plus_of d (fallen_of cap s c)) (fallen_all cap (store_of cap s c) cs)
    unfolding oldest_of
    in_falls cs i =
        let w = within cap s.read s.held i in
        rw (pushes i, falls_first cap s i (omega arith) c h cs) (added_oldest s d (fallen_all cap (store_of cap s c) cs) (full cap s))

    falls_by : (cs : List (List ℕ)) (a b : Bool) → in_range cap s ≡ a → in_range cap (store_of cap s c) ≡ b
        → added d (cond a (fallen_all cap s (c ∷ cs)) []) ≡ added (plus_of d (fallen_of cap s c)) (cond b (fallen_all cap (store_of cap s c) cs) [])
    unfolding in_range
    falls_by cs true true i j = in_falls cs i
    falls_by cs true false i j = let k : false ≡ true = sym j ∙ store_range cap s c i in let z : ◌≡◌ {A = ℕ} 0 1 = cc in absurd (omega arith)
    falls_by cs false true i j = let k : false ≡ true = sym i ∙ ap (in_range cap) (sym (out_none i).0) ∙ j in let z : ◌≡◌ {A = ℕ} 0 1 = cc in
        absurd (omega arith)
    falls_by cs false false i j = rw (out_none i).1

    -- what falls out by a cookie, and then by those behind it
    pub falls_cookie : (cs : List (List ℕ)) →
        added d (fallen_listed cap s (whole (c ∷ cs))) ≡ added (plus_of d (fallen_of cap s c)) (fallen_listed cap (store_of cap s c) (whole cs))
    falls_cookie cs = falls_by cs (in_range cap s) (in_range cap (store_of cap s c)) refl refl

-- the code's sum of what fits is the sum
pub counted_fits : (d : Dropped) (f : Option ℕ) → Fit (plus_of d f) → counted_of d f ≡ plus_of d f
counted_fits d None h = refl
counted_fits d (Some len) h =
    let c : min (d.count + 1) 18446744073709551615 ≡ d.count + 1 = omega (arith, h.0) in
    let b : min (d.bytes + len) 18446744073709551615 ≡ d.bytes + len = omega (arith, h.1) in
    λ i. record { count = c i; bytes = b i }

-- ---- the sums are small

-- a list has four bytes before each cookie
list_long : (cs : List (List ℕ)) → length (list_of cs) ≡ lengths (map cookie_of cs) + 4 * length cs
unfolding record_of cookie_of
list_long [] = refl
list_long (c ∷ cs) = simp length-append (omega (arith, list_long cs))

stored_small : (cs : List (List ℕ)) → AllShort cs → lengths (map cookie_of cs) ≤ 65535 * length cs
unfolding cookie_of
stored_small [] h = omega arith
stored_small (c ∷ cs) h = omega (arith, stored_small cs h.1, h.0)

held_small : (cap : ℕ) (xs : List Slot) → ((k : ℕ) → (slot_at xs k).len ≤ 65535) → (at n : ℕ) → lengths (map seen (walk cap xs at n)) ≤ 65535 * n
unfolding seen
held_small cap xs short at zero = omega arith
held_small cap xs short at (suc n) = omega (arith, held_small cap xs short (wrap cap (at + 1)) n, short at)

module _ (cap : ℕ) (s : CookieStash) (t : Typed s) where
  slot_short : (k : ℕ) → (slot_at s.slots k).len ≤ 65535
  slot_short k =
      elim (dec_lt k 8) [
        | yes h ↦ (t.each k h).1
        | no h ↦ rw (get_or-eq_default s.slots (record { bytes = []; len = 0 }) {n = k} (omega (arith, t.eight))) (omega arith)
      ]

  all_fit : InRange cap s → (cs : List (List ℕ)) → AllShort cs → length (list_of cs) < 18446744073709551616 → Fit (tally_of (fallen_all cap s cs))
  unfolding cookies queue fallen_all
  all_fit i cs h n =
      let w = within cap s.read s.held i in
      let held = cookies cap s in
      let given = map cookie_of cs in
      let k = s.held + length cs - cap in
      let small : lengths held ≤ 65535 * s.held = held_small cap s.slots slot_short s.read s.held in
      let some = stored_small cs h in
      let long = list_long cs in
      let few : lengths (take k (held ++ given)) ≤ lengths held + lengths given = omega (arith, lengths_take k (held ++ given), lengths_append held given) in
      (omega (arith, length-take k (held ++ given)), omega arith)

  fit_by : (l : List ℕ) → Bytes l → length l < 18446744073709551616 → (r : Listed) → cookies_in l ≡ r → (b : Bool) → in_range cap s ≡ b →
      Fit (tally_of (fallen_listed cap s r))
  unfolding in_range
  fit_by l bytes n (whole cs) e true i = rw i (all_fit i cs (list_short l bytes cs e) (rw (list_written l bytes cs e) n))
  fit_by l bytes n (whole cs) e false i = rw i (omega arith, omega arith)
  fit_by l bytes n broken e b i = (omega arith, omega arith)

  -- no list that a slice can hold is so long that a sum overflows
  -- promise: no5.4
  pub fits : (l : List ℕ) → Bytes l → length l < 18446744073709551616 → Fit (dropped_of cap s l)
  unfolding dropped_of
  fits l bytes n = fit_by l bytes n (cookies_in l) refl (in_range cap s) refl
