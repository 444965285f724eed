-- At capacity 8 the stash is the crate's ring (specs/Ring.antt), for cookies that are kept whole: new, stored, taken, gap and length.
-- Assumes nothing.
use mathlib.Core.Path.{◌≡◌, refl, sym, ap, ◌∙◌}
use mathlib.Core.Bool.{Bool, true, false, cond}
use mathlib.Core.List.{List, [], ◌∷◌, map}
use Rattle.std.proofs.Common.{Some}
use Rattle.std.specs.Option.{option_map}
use Prim.Native.Nat.{ℕ, zero, suc, ◌+◌, ◌-◌, ◌%◌, ◌≤◌, ◌<◌}
use native.Mathlib.Omega.{arith}
use native.Mathlib.Nat.{mod-eq_of_lt}
use borrow.Author.Tests.{le-ltb, le-leb, lt-leb, eq-eqb, ne_eqb, ltb-true, ltb-false}
use lib.Dec.{ltb, leb, eqb}
use lib.ListN.{length, get_or, take, set, replicate, get_or-map}
use lib.Seq.{take_at, take_all, length-take-le}
use Rattle.words.proofs.Tests.{when, unless}
use Rattle.cookiestash.specs.declared.CookieStash.{CookieStash}
use Rattle.cookiestash.specs.Stash.{stored, slot_of, empty_slot, slot_at, new_of, wrap, full, gap_of, put_of, store_of, rest_of, get_of}
use Rattle.cookiestash.specs.Whole.{Whole}
use Rattle.cookiestash.proofs.Kept.{in_range_lem, store_put}
use Rattle.cookiestash.specs.Ring.{Ring, empty, store, got, get, gap, len, kept_in, ring_of}

map_set : {A B : Type 0} (f : A → B) (l : List A) (i : ℕ) (x : A) → map f (set l i x) ≡ set (map f l) i (f x)
map_set f [] i x = refl
map_set f (y ∷ l) zero x = refl
map_set f (y ∷ l) (suc i) x = ap (λ r. f y ∷ r) (map_set f l i x)

round : (i : ℕ) → i < 16 → wrap 8 i ≡ i % 8
unfolding wrap
round i h = by (ltb i 8) refl
  where
    by : (t : Bool) → ltb i 8 ≡ t → cond t i (i - 8) ≡ i % 8
    by true e = sym (mod-eq_of_lt (ltb-true i 8 e))
    by false e = omega (arith, ltb-false i 8 e)

-- a cookie of at most 724 bytes is kept whole
kept_whole : (c : List ℕ) → length c ≤ 724 → kept_in (slot_of c) ≡ c
unfolding slot_of stored
kept_whole c h =
    rw (le-ltb 724 (length c) h, le-leb (length c) 724 h)
    (take_at (take (length c) c) (replicate (724 - length c) 0) (length c) (length-take-le (length c) c (omega arith))
    ∙ take_all (length c) c (omega arith))

kept_none : kept_in empty_slot ≡ []
unfolding empty_slot
kept_none = refl

pub ring_new : ring_of new_of ≡ empty
unfolding new_of empty_slot
ring_new = refl

ring_same : {c d : List (List ℕ)} {r q v u : ℕ} → c ≡ d → r ≡ q → v ≡ u →
    ◌≡◌ {A = Ring} (record { cookies = c; read = r; valid = v }) (record { cookies = d; read = q; valid = u })
ring_same p q r = λ i. record { cookies = p i; read = q i; valid = r i }

module _ (s : CookieStash) (w : Whole 8 s) where
  pub ring_store : (c : List ℕ) → length c ≤ 724 → ring_of (store_of 8 s c) ≡ store (ring_of s) c
  unfolding put_of full
  ring_store c h = ap ring_of (store_put 8 s w c (omega arith)) ∙ by (ltb s.held 8) refl
    where
      at : map kept_in (set s.slots (wrap 8 (s.read + s.held)) (slot_of c)) ≡ set (map kept_in s.slots) ((s.read + s.held) % 8) c
      at = map_set kept_in s.slots (wrap 8 (s.read + s.held)) (slot_of c)
          ∙ rw (kept_whole c h, round (s.read + s.held) (omega (arith, w.reads, w.counts)))

      by : (t : Bool) → ltb s.held 8 ≡ t → ring_of (put_of 8 s (slot_of c)) ≡ store (ring_of s) c
      by true e =
          let f : leb 8 s.held ≡ false = lt-leb 8 s.held (ltb-true s.held 8 e) in
          ring_same at (unless _ _ f) (unless _ _ f) ∙ sym (when _ _ e)
      by false e =
          let f : leb 8 s.held ≡ true = le-leb 8 s.held (ltb-false s.held 8 e) in
          ring_same at (when _ _ f ∙ round (s.read + 1) (omega (arith, w.reads))) (when _ _ f) ∙ sym (unless _ _ e)

  pub ring_get : got (option_map kept_in (get_of 8 s).cookie) (ring_of (get_of 8 s).stash) ≡ get (ring_of s)
  unfolding get_of rest_of
  ring_get = by (ltb 0 s.held) refl
    where
      first : kept_in (slot_at s.slots s.read) ≡ get_or (map kept_in s.slots) s.read []
      first = sym (get_or-map kept_in s.slots s.read (record { bytes = []; len = 0 }))

      rest : ring_of (rest_of 8 s) ≡ record { cookies = set (map kept_in s.slots) s.read []; read = (s.read + 1) % 8; valid = s.held - 1 }
      rest = ring_same (map_set kept_in s.slots s.read empty_slot ∙ rw kept_none) (round (s.read + 1) (omega (arith, w.reads))) refl

      by : (t : Bool) → ltb 0 s.held ≡ t → got (option_map kept_in (get_of 8 s).cookie) (ring_of (get_of 8 s).stash) ≡ get (ring_of s)
      by true e =
          let n : eqb s.held 0 ≡ false = ne_eqb s.held 0 (λ z. absurd (omega (arith, ltb-true 0 s.held e))) in
          rw (in_range_lem 8 s w, e, n) (λ i. got (Some (first i)) (rest i))
      by false e =
          let n : eqb s.held 0 ≡ true = eq-eqb s.held 0 (omega (arith, ltb-false 0 s.held e)) in
          rw (in_range_lem 8 s w, e, n)

  pub ring_gap : gap_of 8 s ≡ gap (ring_of s)
  unfolding gap_of
  ring_gap = refl

  pub ring_len : s.held ≡ len (ring_of s)
  ring_len = refl
