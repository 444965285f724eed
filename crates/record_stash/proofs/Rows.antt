-- The rows of lent bytes, read one at a time.
-- Assumes nothing.
use Prim.Native.Nat.{ℕ, zero, suc, ◌+◌, ◌-◌, ◌*◌, ◌≤◌, ◌<◌}
use mathlib.Core.Path.{◌≡◌, refl, sym, ap, ◌∙◌}
use mathlib.Core.Bool.{Bool, true, false, ◌&&◌}
use mathlib.Core.List.{List, [], ◌∷◌, ◌++◌, map}
use native.Mathlib.Omega.{arith}
use lib.ListN.{length, get_or, take, drop, set, replicate, length-map, get_or-map}
use lib.Seq.{take_all}
use Rattle.words.specs.Bytes.{be, part, zeros}
use Rattle.words.proofs.Zeros.{of_zeros}
use Rattle.cookiestash.specs.declared.Slot.{Slot}
use Rattle.cookiestash.specs.Stash.{stored, empty_slot, slot_at}
use Rattle.cookiestash.specs.Whole.{padded, all_padded, lens_of, seen_of, seen_from}
use Rattle.cookiestash.proofs.Front.{front, front_more}
use Rattle.cookiestash.proofs.Lengths.{seen_from_lem}
use Rattle.record_stash.specs.Rows.{slot_in, slots_in, stash_in, lens_in}

-- ---- the test for zeros

pub padded_is : (b : List ℕ) (at n k : ℕ) → n ≡ be (part b (at + 724) 2) → k ≡ 724 → zeros (drop (stored n) (take k (drop at b))) ≡ padded (slot_in b at)
unfolding padded slot_in part
padded_is b at n k e f = λ i. zeros (drop (stored (e i)) (take (f i) (drop at b)))

stored_none : stored 0 ≡ 0
unfolding stored
stored_none = refl

pub padded_none_is : (b : List ℕ) (at n k : ℕ) → n ≡ be (part b (at + 724) 2) → n ≡ 0 → k ≡ 724 → zeros (drop 0 (take k (drop at b))) ≡ padded (slot_in b at)
padded_none_is b at n k e z f = ap (λ (j : ℕ). zeros (drop j (take k (drop at b)))) (sym (ap stored z ∙ stored_none)) ∙ padded_is b at n k e f

padded_next : (b : List ℕ) (at n : ℕ) → 0 < n → all_padded (slots_in b at n) ≡ padded (slot_in b at) && all_padded (slots_in b (at + 726) (n - 1))
padded_next b at zero h = absurd (omega arith)
padded_next b at (suc n) h = let e : n ≡ suc n - 1 = omega arith in ap (λ (k : ℕ). padded (slot_in b at) && all_padded (slots_in b (at + 726) k)) e

pub and_assoc : (s t u : Bool) → (s && t) && u ≡ s && (t && u)
and_assoc true t u = refl
and_assoc false t u = refl

pub and_true : (t : Bool) → t && true ≡ t
and_true true = refl
and_true false = refl

-- what was read and what lies ahead decide together
pub padded_more : (b : List ℕ) (at cap i : ℕ) (t u : Bool) → i < cap → u ≡ padded (slot_in b at) →
    t && all_padded (slots_in b at (cap - i)) ≡ (t && u) && all_padded (slots_in b (at + 726) (cap - (i + 1)))
padded_more b at cap i t u h e =
    let n : cap - i - 1 ≡ cap - (i + 1) = omega arith in
    ap (λ (x : Bool). t && x) (padded_next b at (cap - i) (omega arith) ∙ (λ j. sym e j && all_padded (slots_in b (at + 726) (n j))))
    ∙ sym (and_assoc t u (all_padded (slots_in b (at + 726) (cap - (i + 1)))))

pub padded_end : (b : List ℕ) (at cap i : ℕ) (t : Bool) → i ≡ cap → t && all_padded (slots_in b at (cap - i)) ≡ t
padded_end b at cap i t e = let z : cap - i ≡ 0 = omega arith in ap (λ (k : ℕ). t && all_padded (slots_in b at k)) z ∙ and_true t

pub padded_start : (b : List ℕ) (cap : ℕ) → all_padded (slots_in b 92 cap) ≡ true && all_padded (slots_in b 92 (cap - 0))
padded_start b cap = let z : cap ≡ cap - 0 = omega arith in ap (λ (k : ℕ). all_padded (slots_in b 92 k)) z

-- ---- a slot among the others

pub slots_long : (b : List ℕ) (at n : ℕ) → length (slots_in b at n) ≡ n
slots_long b at zero = refl
slots_long b at (suc n) = ap suc (slots_long b (at + 726) n)

pub slots_at : (b : List ℕ) (at n k : ℕ) → k < n → slot_at (slots_in b at n) k ≡ slot_in b (at + k * 726)
slots_at b at zero k h = absurd (omega arith)
slots_at b at (suc n) zero h = let e : at ≡ at + 0 * 726 = omega arith in ap (slot_in b) e
slots_at b at (suc n) (suc k) h = let e : at + 726 + k * 726 ≡ at + suc k * 726 = omega arith in slots_at b (at + 726) n k (omega arith) ∙ ap (slot_in b) e

abbrev pub lens : List ℕ → ℕ → List ℕ
lens b cap = map (λ (x : Slot). x.len) (slots_in b 92 cap)

pub lens_long : (b : List ℕ) (cap : ℕ) → length (lens b cap) ≡ cap
lens_long b cap = length-map (slots_in b 92 cap) (λ (x : Slot). x.len) ∙ slots_long b 92 cap

pub len_is : (b : List ℕ) (at : ℕ) → (slot_in b at).len ≡ be (part b (at + 724) 2)
unfolding slot_in
len_is b at = refl

pub lens_at : (b : List ℕ) (cap k at : ℕ) → k < cap → at ≡ 92 + k * 726 → get_or (lens b cap) k 0 ≡ be (part b (at + 724) 2)
lens_at b cap k at h e =
    get_or-map (λ (x : Slot). x.len) (slots_in b 92 cap) k (record { bytes = []; len = 0 })
    ∙ ap (λ (x : Slot). x.len) (slots_at b 92 cap k h)
    ∙ ap (λ (j : ℕ). (slot_in b j).len) (sym e)
    ∙ len_is b at

pub lens_more : (b : List ℕ) (cap i at v : ℕ) → i < cap → cap ≤ 8 → at ≡ 92 + i * 726 → v ≡ be (part b (at + 724) 2) →
    set (front 8 (lens b cap) i) i v ≡ front 8 (lens b cap) (i + 1)
lens_more b cap i at v h m e f =
    let n = lens_long b cap in
    ap (set (front 8 (lens b cap) i) i) (f ∙ sym (lens_at b cap i at h e)) ∙ front_more 8 (lens b cap) i (omega arith) (omega arith)

pub lens_all : (b : List ℕ) (cap i : ℕ) → i ≡ cap → front 8 (lens b cap) i ≡ lens_in b cap
unfolding front lens_in
lens_all b cap i e =
    ap (λ (j : ℕ). take j (lens b cap) ++ replicate (8 - j) 0) e
    ∙ ap (λ (l : List ℕ). l ++ replicate (8 - cap) 0) (take_all cap (lens b cap) (let n = lens_long b cap in omega arith))

-- ---- the slots past the capacity

pub none_padded : padded empty_slot ≡ true
unfolding padded empty_slot stored
none_padded = of_zeros 724

padded_past : (xs : List Slot) (k : ℕ) → all_padded (xs ++ replicate k empty_slot) ≡ all_padded xs
padded_past [] zero = refl
padded_past [] (suc k) = rw none_padded (padded_past [] k)
padded_past (x ∷ xs) k = ap (λ (t : Bool). padded x && t) (padded_past xs k)

lens_past : (xs : List Slot) (k : ℕ) → map (λ (x : Slot). x.len) (xs ++ replicate k empty_slot) ≡ map (λ (x : Slot). x.len) xs ++ replicate k 0
unfolding empty_slot
lens_past [] zero = refl
lens_past [] (suc k) = ap (λ (l : List ℕ). 0 ∷ l) (lens_past [] k)
lens_past (x ∷ xs) k = ap (λ (l : List ℕ). x.len ∷ l) (lens_past xs k)

pub seen_in_lem : (b : List ℕ) (cap : ℕ) →
    seen_from cap (get_or b 27 0) (get_or b 28 0) (all_padded (slots_in b 92 cap)) (lens_in b cap) ≡ seen_of cap (stash_in b cap)
unfolding stash_in lens_in lens_of
seen_in_lem b cap =
    (λ i. seen_from cap (get_or b 27 0) (get_or b 28 0) (sym (padded_past (slots_in b 92 cap) (8 - cap)) i) (sym (lens_past (slots_in b 92 cap) (8 - cap)) i))
    ∙ seen_from_lem cap (stash_in b cap)
