-- Zeros: what is read of them, and the rows that they are.
-- Assumes nothing.
use Prim.Native.Nat.{ℕ, zero, suc, ◌+◌, ◌-◌, ◌*◌, ◌≤◌}
use mathlib.Core.Path.{◌≡◌, refl, sym, ap, ◌∙◌}
use mathlib.Core.Bool.{true}
use mathlib.Core.List.{List, ◌∷◌, ◌++◌, map}
use native.Mathlib.Omega.{arith}
use lib.ListN.{length, get_or, take, drop, replicate, length-replicate, replicate-append-replicate}
use lib.Seq.{ext_get_or, get_or-take, get_or-drop}
use Rattle.words.specs.Bytes.{be, part, zeros}
use Rattle.words.proofs.Bytes.{length_part}
use Rattle.words.proofs.Zeros.{zeros_of}
use Rattle.cookiestash.specs.declared.Slot.{Slot}
use Rattle.cookiestash.specs.Stash.{empty_slot}
use Rattle.cookiestash.specs.Whole.{all_padded}
use Rattle.record_stash.specs.Rows.{slot_in, slots_in, lens_in, Sized, row_of, rows_of}
use Rattle.record_stash.proofs.Rows.{none_padded}

pub zero_at : (n i : ℕ) → ◌≡◌ {A = ℕ} (get_or (replicate n 0) i 0) 0
zero_at zero i = refl
zero_at (suc n) zero = refl
zero_at (suc n) (suc i) = zero_at n i

pub part_zero : (b : List ℕ) (at m : ℕ) → at + m ≤ length b → ((i : ℕ) → at ≤ i → get_or b i 0 ≡ 0) → part b at m ≡ replicate m 0
unfolding part
part_zero b at m h f =
    let l : length (take m (drop at b)) ≡ m = length_part b at m h in
    ext_get_or 0 (take m (drop at b)) (replicate m 0) (l ∙ sym (length-replicate {A = ℕ} m 0))
    (λ i k. get_or-take m (drop at b) i 0 (omega arith) ∙ get_or-drop at b i 0 ∙ f (at + i) (omega arith) ∙ sym (zero_at m i))

slot_zero : (b : List ℕ) (at : ℕ) → at + 726 ≤ length b → ((i : ℕ) → at ≤ i → get_or b i 0 ≡ 0) → slot_in b at ≡ empty_slot
unfolding slot_in empty_slot be
slot_zero b at h f =
    let p = part_zero b at 724 (omega arith) f in
    let q = part_zero b (at + 724) 2 (omega arith) (λ i k. f i (omega arith)) in
    λ i. record { bytes = p i; len = be (q i) }

padded_all : (n : ℕ) → all_padded (replicate n empty_slot) ≡ true
padded_all zero = refl
padded_all (suc n) = rw none_padded (padded_all n)

lens_none : (n : ℕ) → map (λ (y : Slot). y.len) (replicate n empty_slot) ≡ replicate n 0
unfolding empty_slot
lens_none zero = refl
lens_none (suc n) = ap (λ (l : List ℕ). 0 ∷ l) (lens_none n)

pub slots_zero : (b : List ℕ) (at n : ℕ) → at + n * 726 ≤ length b → ((i : ℕ) → at ≤ i → get_or b i 0 ≡ 0) → slots_in b at n ≡ replicate n empty_slot
slots_zero b at zero h f = refl
slots_zero b at (suc n) h f = λ i. slot_zero b at (omega arith) f i ∷ slots_zero b (at + 726) n (omega arith) (λ j k. f j (omega arith)) i

-- bytes past the head that are all zero: slots that hold nothing
module _ (b : List ℕ) (cap : ℕ) (s : Sized b cap) (z : zeros (drop 92 b) ≡ true) where
  nothing_past : (i : ℕ) → 92 ≤ i → get_or b i 0 ≡ 0
  nothing_past i h =
      let e : 92 + (i - 92) ≡ i = omega arith in
      ap (λ (k : ℕ). get_or b k 0) (sym e)
      ∙ sym (get_or-drop 92 b (i - 92) 0)
      ∙ ap (λ (l : List ℕ). get_or l (i - 92) 0) (zeros_of (drop 92 b) z)
      ∙ zero_at (length (drop 92 b)) (i - 92)

  none_held : slots_in b 92 cap ≡ replicate cap empty_slot
  none_held = slots_zero b 92 cap (omega (arith, s.long)) nothing_past

  pub empty_padded : all_padded (slots_in b 92 cap) ≡ true
  empty_padded = ap all_padded none_held ∙ padded_all cap

  pub empty_lens : lens_in b cap ≡ replicate 8 0
  unfolding lens_in
  empty_lens =
      let e : cap + (8 - cap) ≡ 8 = omega (arith, s.most) in
      ap (λ (x : List Slot). map (λ (y : Slot). y.len) x ++ replicate (8 - cap) 0) none_held
      ∙ ap (λ (x : List ℕ). x ++ replicate (8 - cap) 0) (lens_none cap)
      ∙ replicate-append-replicate cap (8 - cap) 0
      ∙ ap (λ (k : ℕ). replicate k 0) e

-- the row of an empty slot is zeros, and so are many
row_zero : row_of empty_slot ≡ replicate 726 0
unfolding empty_slot
row_zero = replicate-append-replicate 724 2 0

pub rows_zero : (n : ℕ) → rows_of (replicate n empty_slot) ≡ replicate (n * 726) 0
rows_zero zero = refl
rows_zero (suc n) =
    let e : 726 + n * 726 ≡ suc n * 726 = omega arith in
    (λ i. row_zero i ++ rows_zero n i) ∙ replicate-append-replicate 726 (n * 726) 0 ∙ ap (λ (k : ℕ). replicate k 0) e
