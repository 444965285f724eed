-- The rows of a record: read for the file, and then cleared.
-- Assumes nothing.
use Prim.Native.Nat.{ℕ, ◌+◌, ◌-◌, ◌*◌, ◌≤◌, ◌<◌}
use mathlib.Core.Path.{◌≡◌, refl, sym, ap, ◌∙◌}
use mathlib.Core.List.{List, [], ◌++◌}
use native.Mathlib.Decide.{dec_lt}
use native.Mathlib.Omega.{arith}
use borrow.Rule.Slice.PartMut.{put_mid}
use lib.ListN.{length, get_or, take, drop, set, replicate, length-set, length-replicate, length-drop, replicate-append-replicate}
use lib.Seq.{get_or-drop, get_or-set_same, get_or-set_other, take-take, take_all, length-take-le}
use Rattle.words.specs.Bytes.{be, part}
use Rattle.cookiestash.specs.declared.Slot.{Slot}
use Rattle.cookiestash.specs.Stash.{stored, empty_slot, slot_at}
use Rattle.cookiestash.proofs.Stored.{stored_bounds}
use Rattle.cookiestash.specs.Queue.{seen}
use Rattle.handover_file.specs.Steps.{cookie}
use Rattle.handover_file.specs.Cookies.{empty_at}
use Rattle.handover_save.proofs.Writing.{none_seen}
use Rattle.record_stash.specs.Rows.{slot_in, stash_in, Sized}
use Rattle.record_stash.specs.Slots.{Becomes}
use Rattle.record_stash.proofs.Mid.{part_same, mid_below, mid_inside, mid_long}
use Rattle.record_stash.proofs.Rows.{len_is}
use Rattle.record_stash.proofs.Change.{slot_at_lem}
use Rattle.record_stash.proofs.Stores.{eight, past}
use Rattle.record_stash.proofs.Zeros.{zero_at, slots_zero}

-- ---- a row

pub bytes_in : (b : List ℕ) (at n : ℕ) → n ≤ 724 → take (at + n - at) (drop at b) ≡ take n (slot_in b at).bytes
unfolding slot_in part
bytes_in b at n h = let e : at + n - at ≡ n = omega arith in ap (λ (k : ℕ). take k (drop at b)) e ∙ sym (take-take n 724 (drop at b) h)

-- what the row of a place holds is what the slot there holds
module _ (cap : ℕ) (b : List ℕ) (s : Sized b cap) (k : ℕ) (h : k < cap) where
  pub row_seen : (len n : ℕ) → len ≡ be (part b (92 + k * 726 + 724) 2) → n ≡ stored len →
      cookie len (take (92 + k * 726 + n - (92 + k * 726)) (drop (92 + k * 726) b)) ≡ seen (slot_at (stash_in b cap).slots k)
  unfolding seen
  row_seen len n d e =
      let at = 92 + k * 726 in
      let x = slot_in b at in
      let l : len ≡ x.len = d ∙ sym (len_is b at) in
      let m : n ≤ 724 = omega (arith, stored_bounds len, e) in
      (λ i. cookie (l i) (bytes_in b at n m i))
      ∙ ap (λ (j : ℕ). cookie x.len (take j x.bytes)) (e ∙ ap stored l)
      ∙ ap seen (sym (slot_at_lem cap b s k h))

-- and there is no cookie past the capacity
empty_seen : cookie 0 [] ≡ seen empty_slot
unfolding seen stored empty_slot
empty_seen = refl

module _ (cap : ℕ) (b : List ℕ) (s : Sized b cap) (k : ℕ) (h : cap ≤ k) where
  pub none_seen_in : cookie 0 [] ≡ seen (slot_at (stash_in b cap).slots k)
  none_seen_in =
      elim (dec_lt k 8) [
        | yes l ↦ empty_seen ∙ ap seen (sym (past cap b s k h l))
        | no m ↦ none_seen (stash_in b cap).slots k (omega (arith, eight cap b s))
      ]

-- ---- the rows cleared, and the count

module _ (cap : ℕ) (b : List ℕ) (s : Sized b cap) (z : List ℕ) (is : z ≡ replicate (length (take (length b - 92) (drop 92 b))) 0) where
  abbrev mid : List ℕ
  mid = put_mid 92 (length b - 92) b z

  abbrev end : List ℕ
  end = set mid 28 0

  n : length z ≡ length b - 92
  n = ap length is ∙ length-replicate {A = ℕ} (length (take (length b - 92) (drop 92 b))) 0
      ∙ length-take-le (length b - 92) (drop 92 b) (omega (arith, length-drop 92 b))

  fits : 92 + (length b - 92) ≤ length b
  fits = omega (arith, s.long)

  mid_is : length mid ≡ length b
  mid_is = mid_long 92 (length b - 92) b z n fits

  pub long : length end ≡ length b
  long = length-set mid 28 0 ∙ mid_is

  head : (i : ℕ) → i < 92 → (i ≡ 28 → ⊥) → get_or end i 0 ≡ get_or b i 0
  head i l q = get_or-set_other mid 28 i 0 0 q ∙ mid_below 92 (length b - 92) b z n fits i l

  zero_in : (j : ℕ) → get_or z j 0 ≡ 0
  zero_in j = ap (λ (l : List ℕ). get_or l j 0) is ∙ zero_at (length (take (length b - 92) (drop 92 b))) j

  tail : (i : ℕ) → 92 ≤ i → get_or end i 0 ≡ 0
  unfolding part
  tail i h =
      let m = length b - 92 in
      let e : drop 92 mid ≡ z = sym (all (drop 92 mid) m (omega (arith, length-drop 92 mid, mid_is))) ∙ mid_inside 92 m b z n fits 0 m (omega arith)
      ∙ all z m n in
      let j : 92 + (i - 92) ≡ i = omega arith in
      get_or-set_other mid 28 i 0 0 (λ u. omega arith) ∙ ap (λ (k : ℕ). get_or mid k 0) (sym j) ∙ sym (get_or-drop 92 mid (i - 92) 0)
      ∙ ap (λ (l : List ℕ). get_or l (i - 92) 0) e ∙ zero_in (i - 92)
    where
      all : (l : List ℕ) (m : ℕ) → length l ≡ m → take m (drop 0 l) ≡ l
      all l m e = take_all m l (omega arith)

  pub emptied : Becomes cap b end (empty_at (get_or b 27 0))
  unfolding stash_in empty_at
  emptied =
      let e : cap + (8 - cap) ≡ 8 = omega (arith, s.most) in
      let slots = ap (λ (l : List Slot). l ++ replicate (8 - cap) empty_slot) (slots_zero end 92 cap (omega (arith, long, s.long)) tail)
      ∙ replicate-append-replicate cap (8 - cap) empty_slot ∙ ap (λ (k : ℕ). replicate k empty_slot) e in
      let held : get_or end 28 0 ≡ 0 = get_or-set_same mid 28 0 0 (omega (arith, mid_is, s.long)) in
      record {
        stash = λ i. record { slots = slots i; read = head 27 (omega arith) (λ u. omega arith) i; held = held i };
        settings = part_same b end 0 27 long (λ i p q. head i (omega arith) (λ u. omega arith));
        state = part_same b end 29 63 long (λ i p q. head i (omega arith) (λ u. omega arith));
        sized = record { most = s.most; long = long ∙ s.long };
      }
