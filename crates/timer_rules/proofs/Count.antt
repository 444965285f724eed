-- How many cookies are asked for: what RULES says for every gap that a stash can have, what it comes to for a larger one; none exactly where the
-- cookie that is taken is longer than 724 bytes, since the take leaves room for one.
-- Assumes nothing.
use mathlib.Core.Path.{◌≡◌, refl, sym, ap, ◌∙◌}
use mathlib.Core.Logic.{◌↔◌}
use Prim.Native.Nat.{ℕ, ◌+◌, ◌*◌, ◌/◌, ◌≤◌, ◌<◌, min, max}
use native.Mathlib.Decide.{dec_le}
use native.Mathlib.Nat.{le-div_iff_mul-le}
use native.Mathlib.Omega.{arith}
use Rattle.std.specs.Prelude.{Option, Some, None}
use Rattle.std.specs.Option.{is_some, option_map, unwrap_or}
use Rattle.cookiestash.specs.declared.CookieStash.{CookieStash}
use Rattle.cookiestash.specs.declared.Slot.{Slot}
use Rattle.cookiestash.specs.declared.Seen.{Seen}
use Rattle.cookiestash.specs.Stash.{empty_slot, get_of, gap_of, is_found, slot_or_empty}
use Rattle.cookiestash.specs.Whole.{Whole, seen_of}
use Rattle.cookiestash.proofs.Cookies.{gap_get}
use Rattle.timer_rules.specs.Poll.{asked_of}
use Rattle.timer_rules.specs.Decide.{oldest_len, asked_with}

-- k of a length fit where k of them are at most 724 bytes, and no more fit where one more is over
pub fits_some : (n k : ℕ) → 0 < n → k * n ≤ 724 → k ≤ 724 / n
fits_some n k p l = (le-div_iff_mul-le {k = n} {x = k} {y = 724} p).1 l

pub fits_few : (n k : ℕ) → 0 < n → 724 < (k + 1) * n → 724 / n ≤ k
fits_few n k p u =
    let back : k + 1 ≤ 724 / n → (k + 1) * n ≤ 724 = (le-div_iff_mul-le {k = n} {x = k + 1} {y = 724} p).0 in
    elim (dec_le (724 / n) k) [
      | yes l ↦ l
      | no m ↦ absurd (omega (arith, back (omega arith)))
    ]

-- the number asked for is the formula for every length and every gap from 0 to 8
-- promise: no4.1
pub asked_formula : (v : Seen) → v.gap ≤ 8 → asked_with v ≡ asked_of v.gap (oldest_len v)
asked_formula v h = omega arith

-- for a larger gap it is what it is for 8
-- promise: no4.2
pub asked_larger : (v : Seen) → 8 ≤ v.gap → asked_with v ≡ asked_of 8 (oldest_len v)
asked_larger v h = omega arith

len_is : (oldest : Option Slot) → unwrap_or (option_map (λ (x : Slot). x.len) oldest) 0 ≡ (unwrap_or oldest empty_slot).len
unfolding empty_slot
len_is None = refl
len_is (Some x) = refl

-- the length that is seen is that of the cookie a take gives
pub oldest_is : (cap : ℕ) (s : CookieStash) → oldest_len (seen_of cap s) ≡ (slot_or_empty (get_of cap s)).len
oldest_is cap s = len_is (get_of cap s).cookie

some_is : (oldest : Option Slot) → is_some (option_map (λ (x : Slot). x.len) oldest) ≡ is_some oldest
some_is None = refl
some_is (Some x) = refl

-- a cookie is seen exactly where a take gives one
pub found_is : (cap : ℕ) (s : CookieStash) → is_some (seen_of cap s).oldest ≡ is_found (get_of cap s)
found_is cap s = some_is (get_of cap s).cookie

-- so of every stash, whatever its capacity, it is the formula, of the gap after the take and the length of the oldest
-- promise: no4.1 (so it is for every stash)
pub asked_seen : (cap : ℕ) (s : CookieStash) → cap ≤ 8 →
    asked_with (seen_of cap s) ≡ asked_of (gap_of cap (get_of cap s).stash) (slot_or_empty (get_of cap s)).len
unfolding gap_of
asked_seen cap s h =
    asked_formula (seen_of cap s) (omega arith)
    ∙ ap (λ (len : ℕ). asked_of (gap_of cap (get_of cap s).stash) len) (oldest_is cap s)

-- and never more than the capacity (RULES, No. 12)
-- promise: no12.2
pub asked_capacity : (cap : ℕ) (s : CookieStash) → asked_with (seen_of cap s) ≤ cap
unfolding gap_of
asked_capacity cap s = omega arith

pub asked_none : (gap len : ℕ) → 724 < len → asked_of gap len ≡ 0
asked_none gap len h = omega (arith, fits_few (max len 1) 0 (omega arith) (omega arith))

pub asked_some : (gap len : ℕ) → 0 < gap → len ≤ 724 → 0 < asked_of gap len
asked_some gap len g h = omega (arith, fits_some (max len 1) 1 (omega arith) (omega arith))

pub asked_short : (gap len : ℕ) → (asked_of gap len ≡ 0 → ⊥) → len ≤ 724
asked_short gap len h =
    elim (dec_le len 724) [
      | yes l ↦ l
      | no n ↦ absurd (h (asked_none gap len (omega arith)))
    ]

-- what makes a number 24: of a whole stash that holds a cookie nothing is asked for exactly where that cookie is longer than 724 bytes
-- promise: 10.4
pub asked_zero : (cap : ℕ) (s : CookieStash) → Whole cap s → 0 < s.held →
    (asked_with (seen_of cap s) ≡ 0) ↔ (724 < (slot_or_empty (get_of cap s)).len)
asked_zero cap s w h =
    let gap = gap_of cap (get_of cap s).stash in
    let len = (slot_or_empty (get_of cap s)).len in
    let same : asked_with (seen_of cap s) ≡ asked_of (min gap 8) len = ap (λ (n : ℕ). asked_of (min gap 8) n) (oldest_is cap s) in
    let g : 0 < gap = omega (arith, gap_get cap s w h) in (
      (λ z.
          elim (dec_le len 724) [
            | yes l ↦ absurd (not_both _ (sym same ∙ z) (asked_some (min gap 8) len (omega arith) l))
            | no n ↦ omega arith
          ]),
      (λ n. same ∙ asked_none (min gap 8) len n),
    )
  where
    not_both : (n : ℕ) → n ≡ 0 → 0 < n → ⊥
    not_both n e k = omega arith
