-- A whole stash is known by its reading place and its cookies: two whole stashes that have both in common are equal.
-- Assumes nothing.
use Prim.Native.Nat.{ℕ, ◌+◌, ◌-◌, ◌<◌}
use mathlib.Core.Path.{◌≡◌, sym, ap, ◌∙◌}
use mathlib.Core.List.{List, [], ◌++◌}
use native.Mathlib.Decide.{dec_le, dec_lt}
use native.Mathlib.Omega.{arith}
use lib.ListN.{length, get_or, take, replicate, take-append-drop, get_or-map}
use lib.Seq.{ext_get_or}
use Rattle.cookiestash.specs.declared.Slot.{Slot}
use Rattle.cookiestash.specs.declared.CookieStash.{CookieStash}
use Rattle.cookiestash.specs.Stash.{stored, slot_at, wrap}
use Rattle.cookiestash.specs.Queue.{Cookie, queue, seen, cookies}
use Rattle.cookiestash.specs.Whole.{WholeSlot, Whole}
use Rattle.cookiestash.proofs.Places.{wrap_in, wrap_lt, wrap_round}
use Rattle.cookiestash.proofs.Queue.{walk_at}
use Rattle.cookiestash.proofs.Cookies.{length_cookies}

-- a whole slot is known by what it holds
bytes_are : (x : Slot) → WholeSlot x → x.bytes ≡ (seen x).bytes ++ replicate (724 - stored (seen x).len) 0
unfolding seen
bytes_are x w = sym (take-append-drop (stored x.len) x.bytes) ∙ ap (λ (l : List ℕ). take (stored x.len) x.bytes ++ l) w.padded

len_of : (x y : Slot) → seen x ≡ seen y → x.len ≡ y.len
unfolding seen
len_of x y e = ap (λ (c : Cookie). c.len) e

slot_same : (x y : Slot) → WholeSlot x → WholeSlot y → seen x ≡ seen y → x ≡ y
slot_same x y v w e =
    let l : x.len ≡ y.len = len_of x y e in
    let b : x.bytes ≡ y.bytes = bytes_are x v ∙ ap (λ (c : Cookie). c.bytes ++ replicate (724 - stored c.len) 0) e ∙ sym (bytes_are y w) in
    λ i. record { bytes = b i; len = l i }

-- every place of the round is so many places behind the oldest
place : (cap read k : ℕ) → read < cap → k < cap → ((j : ℕ) × (j < cap) × (wrap cap (read + j) ≡ k))
place cap read k r h =
    elim (dec_le read k) [
      | yes l ↦ let e : read + (k - read) ≡ k = omega arith in (k - read, omega arith, ap (wrap cap) e ∙ wrap_in cap k h)
      | no n ↦ let e : read + (k + cap - read) ≡ k + cap = omega arith in (k + cap - read, omega arith, ap (wrap cap) e ∙ wrap_round cap k h)
    ]

module _ (cap : ℕ) (s : CookieStash) (w : Whole cap s) where
  -- the cookie that is so many places behind the oldest
  held_at_lem : (d : Slot) (j : ℕ) → j < s.held → get_or (cookies cap s) j (seen d) ≡ seen (get_or (queue cap s) j d)
  unfolding cookies
  held_at_lem d j h = get_or-map seen (queue cap s) j d

  queue_at : (j : ℕ) → j < s.held → slot_at (queue cap s) j ≡ slot_at s.slots (wrap cap (s.read + j))
  unfolding queue
  queue_at j h = walk_at cap s.slots s.read s.held j w.reads w.counts h

module _ (cap : ℕ) (s t : CookieStash) (v : Whole cap s) (w : Whole cap t) (n : length s.slots ≡ length t.slots) (r : s.read ≡ t.read)
    (c : cookies cap s ≡ cookies cap t) where
  held_same : s.held ≡ t.held
  held_same = sym (length_cookies cap s) ∙ ap length c ∙ length_cookies cap t

  round_same : (j : ℕ) → j < cap → slot_at s.slots (wrap cap (s.read + j)) ≡ slot_at t.slots (wrap cap (t.read + j))
  round_same j h =
      elim (dec_lt j s.held) [
        | yes l ↦
            let m : j < t.held = omega (arith, held_same) in
            let d : Slot = record { bytes = []; len = 0 } in
            let e : seen (slot_at s.slots (wrap cap (s.read + j))) ≡ seen (slot_at t.slots (wrap cap (t.read + j)))
            = ap seen (sym (queue_at cap s v j l)) ∙ sym (held_at_lem cap s v d j l) ∙ ap (λ (q : List Cookie). get_or q j (seen d)) c
            ∙ held_at_lem cap t w d j m ∙ ap seen (queue_at cap t w j m) in
            slot_same _ _
            (v.each _ (omega (arith, wrap_lt cap (s.read + j) (omega (arith, v.reads)), v.room)))
            (w.each _ (omega (arith, wrap_lt cap (t.read + j) (omega (arith, w.reads)), w.room))) e
        | no m ↦ v.free j (omega arith) h ∙ sym (w.free j (omega (arith, held_same)) h)
      ]

  slot_at_same : (k : ℕ) → k < length s.slots → slot_at s.slots k ≡ slot_at t.slots k
  slot_at_same k h =
      elim (dec_lt k cap) [
        | yes l ↦
            let p = place cap s.read k v.reads l in
            let q : wrap cap (t.read + p.0) ≡ k = ap (λ (x : ℕ). wrap cap (x + p.0)) (sym r) ∙ p.2 in
            ap (slot_at s.slots) (sym p.2) ∙ round_same p.0 p.1 ∙ ap (slot_at t.slots) q
        | no m ↦ v.past k (omega arith) h ∙ sym (w.past k (omega arith) (omega (arith, n)))
      ]

  -- promise 3.8: A whole stash is determined by its reading place and its cookies.
  pub stash_same : s ≡ t
  stash_same =
      let e : s.slots ≡ t.slots = ext_get_or (record { bytes = []; len = 0 }) s.slots t.slots n slot_at_same in
      λ i. record { slots = e i; read = r i; held = held_same i }
