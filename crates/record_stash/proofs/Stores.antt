-- A cookie that is stored in lent bytes, and a list of them.
-- Assumes nothing.
use Prim.Native.Nat.{ℕ, ◌+◌, ◌-◌, ◌*◌, ◌≤◌, ◌<◌, ◌^◌}
use mathlib.Core.Path.{◌≡◌, sym, ap, subst, ◌∙◌}
use mathlib.Core.Bool.{true, false}
use mathlib.Core.List.{List, [], ◌++◌}
use native.Mathlib.Decide.{dec_lt}
use native.Mathlib.Omega.{arith}
use borrow.Author.Tests.{le-leb, lt-leb}
use lib.ListN.{length, get_or, take, replicate, length-append, length-replicate, get_or-replicate}
use lib.Seq.{get_or-append-add}
use Rattle.words.specs.Bytes.{be, part}
use Rattle.words.proofs.Bytes.{Bytes, length_part, bytes_part, be_below}
use Rattle.cookiestash.specs.declared.Slot.{Slot}
use Rattle.std.proofs.Common.{Option, Some}
use Rattle.cookiestash.specs.Stash.{stored, slot_of, empty_slot, slot_at, wrap, full, range_of, in_range, put_of, store_of}
use Rattle.cookiestash.specs.Whole.{Typed}
use Rattle.cookiestash.specs.Falling.{none_fallen, oldest_of, fallen_of}
use Rattle.record_stash.specs.Rows.{slot_in, slots_in, stash_in, Sized}
use Rattle.record_stash.proofs.Rows.{slots_long, len_is}
use Rattle.record_stash.specs.Slots.{kept_slot, Becomes, changed, StoredIn}
use Rattle.record_stash.proofs.Change.{slot_at_lem, same, kept_stored}

-- ---- behind the newest

module _ (cap : ℕ) (b : List ℕ) (x : Slot) (place : ℕ) (p : place ≡ wrap cap (get_or b 27 0 + get_or b 28 0)) where
  pub room_put : get_or b 28 0 < cap → changed (stash_in b cap) place x (get_or b 27 0) (get_or b 28 0 + 1) ≡ put_of cap (stash_in b cap) x
  unfolding stash_in put_of full
  room_put h = simp (p, lt-leb cap (get_or b 28 0) h)

  pub full_put : cap ≤ get_or b 28 0 → (next : ℕ) → next ≡ wrap cap (get_or b 27 0 + 1) →
      changed (stash_in b cap) place x next (get_or b 28 0) ≡ put_of cap (stash_in b cap) x
  unfolding stash_in put_of full
  full_put h next e = simp (p, e, le-leb cap (get_or b 28 0) h)

-- ---- what falls out

module _ (cap : ℕ) (b : List ℕ) where
  pub none_falls : get_or b 28 0 < cap → oldest_of cap (stash_in b cap) ≡ none_fallen
  unfolding stash_in oldest_of full
  none_falls h = simp (lt-leb cap (get_or b 28 0) h)

  full_falls : cap ≤ get_or b 28 0 → oldest_of cap (stash_in b cap) ≡ Some (slot_at (stash_in b cap).slots (get_or b 27 0)).len
  unfolding stash_in oldest_of full
  full_falls h = simp (le-leb cap (get_or b 28 0) h)

  pub one_falls : Sized b cap → cap ≤ get_or b 28 0 → get_or b 27 0 < cap → (len : ℕ) → len ≡ be (part b (92 + get_or b 27 0 * 726 + 724) 2) →
      Some len ≡ oldest_of cap (stash_in b cap)
  one_falls s h r len l =
      let u : len ≡ (slot_at (stash_in b cap).slots (get_or b 27 0)).len = l ∙ sym (len_is b (92 + get_or b 27 0 * 726))
      ∙ ap (λ (y : Slot). y.len) (sym (slot_at_lem cap b s (get_or b 27 0) r)) in
      ap Some u ∙ sym (full_falls h)

-- ---- a cookie is stored, or not

module _ (cap : ℕ) (b c : List ℕ) where
  out_store : range_of cap (get_or b 27 0) (get_or b 28 0) ≡ false →
      (store_of cap (stash_in b cap) c ≡ stash_in b cap) × (fallen_of cap (stash_in b cap) c ≡ none_fallen)
  unfolding store_of fallen_of in_range stash_in
  out_store e = (simp e, simp e)

  long_store : range_of cap (get_or b 27 0) (get_or b 28 0) ≡ true → 65535 < length c → (store_of cap (stash_in b cap) c ≡ stash_in b cap) ×
      (fallen_of cap (stash_in b cap) c ≡ none_fallen)
  unfolding store_of fallen_of in_range stash_in
  long_store e h = (simp (e, lt-leb (length c) 65535 h), simp (e, lt-leb (length c) 65535 h))

  put_store : range_of cap (get_or b 27 0) (get_or b 28 0) ≡ true → length c ≤ 65535 →
      (store_of cap (stash_in b cap) c ≡ put_of cap (stash_in b cap) (slot_of c)) × (fallen_of cap (stash_in b cap) c ≡ oldest_of cap (stash_in b cap))
  unfolding store_of fallen_of in_range stash_in
  put_store e h = (simp (e, le-leb (length c) 65535 h), simp (e, le-leb (length c) 65535 h))

  module _ (s : Sized b cap) where
    pub out_by_lem : range_of cap (get_or b 27 0) (get_or b 28 0) ≡ false → StoredIn cap c b b none_fallen
    out_by_lem e = let p = out_store e in (subst (Becomes cap b b) (sym p.0) (same cap b s), sym p.1)

    pub long_by : range_of cap (get_or b 27 0) (get_or b 28 0) ≡ true → 65535 < length c → StoredIn cap c b b none_fallen
    long_by e h = let p = long_store e h in (subst (Becomes cap b b) (sym p.0) (same cap b s), sym p.1)

    pub put_by : range_of cap (get_or b 27 0) (get_or b 28 0) ≡ true → length c ≤ 65535 → (n : ℕ) → n ≡ stored (length c) → (d : List ℕ) (f : Option ℕ) →
        Becomes cap b d (put_of cap (stash_in b cap) (kept_slot (length c) (take n c))) → f ≡ oldest_of cap (stash_in b cap) → StoredIn cap c b d f
    put_by e h n en d f g q = let p = put_store e h in
        (subst (Becomes cap b d) (ap (put_of cap (stash_in b cap)) (kept_stored c n en) ∙ sym p.0) g, q ∙ sym p.1)

-- ---- what the bytes say of the stash

module _ (cap : ℕ) (b : List ℕ) (s : Sized b cap) where
  pub eight : length (stash_in b cap).slots ≡ 8
  unfolding stash_in
  eight = length-append (slots_in b 92 cap) (replicate (8 - cap) empty_slot) ∙ (λ i. slots_long b 92 cap i + length-replicate (8 - cap) empty_slot i)
      ∙ omega (arith, s.most)

  sized_row : Bytes b → (at : ℕ) → at + 726 ≤ length b → (length (slot_in b at).bytes ≡ 724) × ((slot_in b at).len ≤ 65535)
  unfolding slot_in
  sized_row y at h =
      let l = length_part b (at + 724) 2 (omega arith) in
      let p = be_below (part b (at + 724) 2) (bytes_part b (at + 724) 2 y) in
      let q : be (part b (at + 724) 2) < 256 ^ 2 = subst (λ (n : ℕ). be (part b (at + 724) 2) < 256 ^ n) l p in
      (length_part b at 724 (omega arith), omega arith)

  sized_none : (length empty_slot.bytes ≡ 724) × (empty_slot.len ≤ 65535)
  unfolding empty_slot
  sized_none = (length-replicate {A = ℕ} 724 0, omega arith)

  pub past : (k : ℕ) → cap ≤ k → k < 8 → slot_at (stash_in b cap).slots k ≡ empty_slot
  unfolding stash_in
  past k h l =
      let d : Slot = record { bytes = []; len = 0 } in
      let n = slots_long b 92 cap in
      let e : k ≡ length (slots_in b 92 cap) + (k - cap) = omega arith in
      ap (slot_at (slots_in b 92 cap ++ replicate (8 - cap) empty_slot)) e ∙ get_or-append-add (slots_in b 92 cap) (replicate (8 - cap) empty_slot) (k - cap) d
      ∙ get_or-replicate (8 - cap) (k - cap) empty_slot d (omega arith)

  abbrev Sizes : Slot → Type 0
  Sizes x = (length x.bytes ≡ 724) × (x.len ≤ 65535)

  pub typed : Bytes b → Typed (stash_in b cap)
  typed y =
      record {
        eight = eight;
        each = λ k h.
            elim (dec_lt k cap) [
              | yes l ↦ subst Sizes (sym (slot_at_lem cap b s k l)) (sized_row y (92 + k * 726) (omega (arith, s.long)))
              | no m ↦ subst Sizes (sym (past k (omega arith) h)) sized_none
            ];
      }
