-- What the rules read of a stash is read of its place, its count and its slots' lengths; and where they find a cookie there is room once it is taken.
-- Assumes nothing.
use Prim.Native.Nat.{ℕ, zero, suc, ◌+◌, ◌-◌, ◌<◌}
use mathlib.Core.Path.{◌≡◌, refl, sym, ◌∙◌, ap}
use mathlib.Core.Bool.{Bool, true, false, ◌&&◌, cond}
use mathlib.Core.List.{List, [], ◌∷◌, map}
use native.Mathlib.Omega.{arith}
use borrow.Author.Tests.{ltb-true}
use lib.Dec.{ltb, eqb}
use lib.ListN.{get_or, drop, get_or-map}
use Rattle.std.proofs.Common.{None, Some}
use Rattle.std.specs.Option.{option_map}
use Rattle.words.specs.Bytes.{zeros}
use Rattle.words.proofs.Tests.{both}
use Rattle.cookiestash.specs.declared.Slot.{Slot}
use Rattle.cookiestash.specs.declared.CookieStash.{CookieStash}
use Rattle.cookiestash.specs.declared.Taken.{Taken}
use Rattle.cookiestash.specs.Stash.{slot_at, wrap, range_of, in_range, gap_of, rest_of, get_of, is_found}
use Rattle.cookiestash.specs.Queue.{walk}
use Rattle.cookiestash.specs.Whole.{all_padded, all_free, free_slots, whole_of, seen_of, lens_of, round_free, has_of, seen_from}
use Rattle.cookiestash.proofs.Range.{within}
use Rattle.cookiestash.proofs.Scan.{free_both}

abbrev lens : List Slot → List ℕ
lens xs = map (λ (x : Slot). x.len) xs

pub len_at : (xs : List Slot) (i : ℕ) → get_or (lens xs) i 0 ≡ (slot_at xs i).len
len_at xs i = get_or-map (λ (x : Slot). x.len) xs i (record { bytes = []; len = 0 })

-- the slots past the capacity
past : (n : ℕ) (xs : List Slot) → all_free (drop n xs) ≡ zeros (drop n (lens xs))
unfolding zeros
past zero [] = refl
past zero (x ∷ xs) = ap (λ (b : Bool). eqb x.len 0 && b) (past zero xs)
past (suc n) [] = refl
past (suc n) (x ∷ xs) = past n xs

-- the rest of the round
round : (cap : ℕ) (xs : List Slot) (at n : ℕ) → all_free (walk cap xs at n) ≡ round_free cap (lens xs) at n
round cap xs at zero = refl
round cap xs at (suc n) = λ j. eqb (sym (len_at xs at) j) 0 && round cap xs (wrap cap (at + 1)) n j

swap : (a b : Bool) → a && b ≡ b && a
swap true true = refl
swap true false = refl
swap false true = refl
swap false false = refl

free_lens : (cap : ℕ) (s : CookieStash) →
    all_free (free_slots cap s) ≡ zeros (drop cap (lens_of s)) && round_free cap (lens_of s) (wrap cap (s.read + s.held)) (cap - s.held)
unfolding free_slots lens_of
free_lens cap s =
    let at = wrap cap (s.read + s.held) in
    free_both (walk cap s.slots at (cap - s.held)) (drop cap s.slots) ∙ (λ j. round cap s.slots at (cap - s.held) j && past cap s.slots j)
    ∙ swap (round_free cap (lens s.slots) at (cap - s.held)) (zeros (drop cap (lens s.slots)))

-- what a take finds, by whether there is a cookie
abbrev taking : ℕ → CookieStash → Bool → Taken
taking cap s b =
    cond b (record { cookie = Some (slot_at s.slots s.read); stash = rest_of cap s }) (record { cookie = None; stash = s })

take_oldest : (cap : ℕ) (s : CookieStash) (b : Bool) → cond b (Some (slot_at s.slots s.read).len) None ≡ option_map (λ x. x.len) (taking cap s b).cookie
take_oldest cap s true = refl
take_oldest cap s false = refl

take_gap : (cap : ℕ) (s : CookieStash) (b : Bool) → cap - cond b (s.held - 1) s.held ≡ gap_of cap (taking cap s b).stash
unfolding gap_of rest_of
take_gap cap s true = refl
take_gap cap s false = refl

pub seen_from_lem : (cap : ℕ) (s : CookieStash) → seen_from cap s.read s.held (all_padded s.slots) (lens_of s) ≡ seen_of cap s
unfolding seen_from whole_of in_range get_of lens_of
seen_from_lem cap s = λ j.
    record {
      whole = range_of cap s.read s.held && (all_padded s.slots && sym (free_lens cap s) j);
      oldest = oldest j;
      gap = take_gap cap s b j;
      read = s.read;
      held = s.held;
    }
  where
    b : Bool
    b = has_of cap s.read s.held

    oldest : cond b (Some (get_or (lens_of s) s.read 0)) None ≡ option_map (λ x. x.len) (taking cap s b).cookie
    oldest = ap (λ (n : ℕ). cond b (Some n) None) (len_at s.slots s.read) ∙ take_oldest cap s b

-- where there is a cookie the take leaves room for one
found_by : (cap : ℕ) (s : CookieStash) (b : Bool) → has_of cap s.read s.held ≡ b → is_found (taking cap s b) ≡ true → 0 < gap_of cap (taking cap s b).stash
unfolding gap_of rest_of
found_by cap s true e f =
    let k = both (range_of cap s.read s.held) (ltb 0 s.held) e in
    omega (arith, within cap s.read s.held k.0, ltb-true 0 s.held k.1)
found_by cap s false e f = let z : ◌≡◌ {A = ℕ} 0 1 = cc in absurd (omega arith)

pub found_gap : (cap : ℕ) (s : CookieStash) → is_found (get_of cap s) ≡ true → 0 < gap_of cap (get_of cap s).stash
unfolding get_of in_range
found_gap cap s f = found_by cap s (has_of cap s.read s.held) refl f
