-- The list of fields that differ: which fields are in it, each once and in order; exchanged; and what it follows from.
-- Assumes nothing.
use Prim.Native.Nat.{ℕ, suc, ◌*◌, ◌≤◌, ◌<◌}
use mathlib.Core.Path.{◌≡◌, refl, sym, ap, subst, ◌∙◌}
use mathlib.Core.Bool.{Bool, true, false, ◌&&◌, cond}
use mathlib.Core.List.{List, [], ◌∷◌, map}
use mathlib.Core.Logic.{◌↔◌, ◌⊎◌, inl, inr}
use native.Mathlib.Omega.{arith}
use borrow.Author.Tests.{eq-eqb, eqb-true, eqb-false}
use lib.Dec.{lit<, eqb}
use lib.ListN.{length, length-append}
use Rattle.words.proofs.Tests.{both, eqb_sym}
use Rattle.association.specs.declared.Association.{Association}
use Rattle.handover_compare.specs.declared.fields.Field.{Field}
use Rattle.handover_compare.specs.Readings.{Reading, settings_numbers, state_numbers, readings_of}
use Rattle.handover_compare.specs.Fields.{
  codes,
  place_of,
  same_bytes,
  same_reading,
  field_of,
  fields_from,
  fields_of,
  differing,
  list_of,
  entry_bytes,
  list_bytes,
  swapped,
}
use Rattle.handover_compare.specs.Shown.{Among, Past, Rising, outline, field_by, fields_by, outlines_of, places_of, list_by}
use Rattle.handover_compare.proofs.Places.{place_sym, same_sym, same_refl, same_eq, same_place}

-- ---- two readings agree exactly where they are equal

agree_eq : (l r : Reading) → same_reading l r ≡ true → l ≡ r
unfolding same_reading
agree_eq l r e =
    let b = both (eqb l.number r.number) (same_bytes l.bytes r.bytes) e in
    let n = eqb-true l.number r.number b.0 in
    let m = same_eq l.bytes r.bytes b.1 in
    λ i. record { number = n i; bytes = m i }

agree_refl : (l : Reading) → same_reading l l ≡ true
unfolding same_reading
agree_refl l = rw (eq-eqb l.number l.number refl, same_refl l.bytes)

-- promise: no10.1 (readings agree exactly where they are equal)
pub agree : (l r : Reading) → (same_reading l r ≡ true) ↔ (l ≡ r)
agree l r = (agree_eq l r, λ e. subst (λ (x : Reading). same_reading l x ≡ true) e (agree_refl l))

-- ---- nothing differs exactly where all readings are equal

module _ (f : Field) (fs : List Field) where
  kept : f.same ≡ false → differing (f ∷ fs) ≡ f ∷ differing fs
  kept e = ap (λ (t : Bool). cond t (differing fs) (f ∷ differing fs)) e

  left_out_lem : f.same ≡ true → differing (f ∷ fs) ≡ differing fs
  left_out_lem e = ap (λ (t : Bool). cond t (differing fs) (f ∷ differing fs)) e

  -- whether it differs
  either_way : (P : List Field → Type 0) → (f.same ≡ false → P (f ∷ differing fs)) → (f.same ≡ true → P (differing fs)) → P (differing (f ∷ fs))
  either_way P p q = go f.same refl
    where
      go : (t : Bool) → f.same ≡ t → P (cond t (differing fs) (f ∷ differing fs))
      go true e = q e
      go false e = p e

same_of : (c : ℕ) (l r : Reading) → (field_of c l r).same ≡ same_reading l r
unfolding field_of
same_of c l r = refl

pub empty_equal : (cs : List ℕ) (ls rs : List Reading) → length ls ≡ length cs → length rs ≡ length cs → differing (fields_from cs ls rs) ≡ [] → ls ≡ rs
empty_equal [] [] [] m n e = refl
empty_equal [] [] (r ∷ rs) m n e = absurd (omega arith)
empty_equal [] (l ∷ ls) rs m n e = absurd (omega arith)
empty_equal (c ∷ cs) [] rs m n e = absurd (omega arith)
empty_equal (c ∷ cs) (l ∷ ls) [] m n e = absurd (omega arith)
empty_equal (c ∷ cs) (l ∷ ls) (r ∷ rs) m n e = go (λ k. empty_equal cs ls rs (omega arith) (omega arith) k) (same_reading l r) refl
  where
    go : (differing (fields_from cs ls rs) ≡ [] → ls ≡ rs) → (t : Bool) → same_reading l r ≡ t → l ∷ ls ≡ r ∷ rs
    go rest true h =
        let p = agree_eq l r h in
        let q = rest (sym (left_out_lem (field_of c l r) (fields_from cs ls rs) (same_of c l r ∙ h)) ∙ e) in
        λ i. p i ∷ q i
    go rest false h =
        let z : suc (length (differing (fields_from cs ls rs))) ≡ 0 = ap length (sym (kept (field_of c l r) (fields_from cs ls rs) (same_of c l r ∙ h)) ∙ e) in
        absurd (omega arith)

pub equal_empty : (cs : List ℕ) (ls : List Reading) → differing (fields_from cs ls ls) ≡ []
equal_empty [] ls = refl
equal_empty (c ∷ cs) [] = refl
equal_empty (c ∷ cs) (l ∷ ls) = left_out_lem (field_of c l l) (fields_from cs ls ls) (same_of c l l ∙ agree_refl l) ∙ equal_empty cs ls

module _ (a b : Association) where
  as_many : (x : Association) → length (readings_of x) ≡ length codes
  unfolding settings_numbers state_numbers
  as_many x = refl

  pub readings_equal : list_of a b ≡ [] → readings_of a ≡ readings_of b
  unfolding list_of fields_of
  readings_equal e = empty_equal codes (readings_of a) (readings_of b) (as_many a) (as_many b) e

pub itself : (a : Association) → list_of a a ≡ []
unfolding list_of fields_of
itself a = equal_empty codes (readings_of a)

-- ---- exchanged

field_swapped : (c : ℕ) (l r : Reading) → field_of c r l ≡ swapped (field_of c l r)
unfolding field_of same_reading
field_swapped c l r =
    λ i.
    record {
      code = c;
      left = r.number;
      right = l.number;
      place = place_sym r.bytes l.bytes i;
      same = eqb_sym r.number l.number i && same_sym r.bytes l.bytes i;
    }

fields_swapped : (cs : List ℕ) (ls rs : List Reading) → fields_from cs rs ls ≡ map swapped (fields_from cs ls rs)
fields_swapped [] ls rs = refl
fields_swapped (c ∷ cs) [] [] = refl
fields_swapped (c ∷ cs) [] (r ∷ rs) = refl
fields_swapped (c ∷ cs) (l ∷ ls) [] = refl
fields_swapped (c ∷ cs) (l ∷ ls) (r ∷ rs) = λ i. field_swapped c l r i ∷ fields_swapped cs ls rs i

differing_swapped : (fs : List Field) → differing (map swapped fs) ≡ map swapped (differing fs)
differing_swapped [] = refl
differing_swapped (f ∷ fs) = go (differing_swapped fs) f.same
  where
    go : differing (map swapped fs) ≡ map swapped (differing fs) → (t : Bool)
        → cond t (differing (map swapped fs)) (swapped f ∷ differing (map swapped fs)) ≡ map swapped (cond t (differing fs) (f ∷ differing fs))
    go rest true = rest
    go rest false = λ i. swapped f ∷ rest i

-- with the records exchanged the same fields, their readings exchanged and their places kept
-- promise: no10.4
pub exchanged : (a b : Association) → list_of b a ≡ map swapped (list_of a b)
unfolding list_of fields_of
exchanged a b = ap differing (fields_swapped codes (readings_of a) (readings_of b)) ∙ differing_swapped (fields_from codes (readings_of a) (readings_of b))

-- ---- what is in it

listed_in : (x : Field) (fs : List Field) → Among x (differing fs) → Among x fs × (x.same ≡ false)
listed_in x [] m = absurd m
listed_in x (f ∷ fs) m =
    either_way f fs (λ (gs : List Field). Among x gs → Among x (f ∷ fs) × (x.same ≡ false)) (first (listed_in x fs)) (λ e k. later (listed_in x fs k)) m
  where
    later : Among x fs × (x.same ≡ false) → Among x (f ∷ fs) × (x.same ≡ false)
    later (k, e) = (inr k, e)

    first : (Among x (differing fs) → Among x fs × (x.same ≡ false)) → f.same ≡ false → (x ≡ f) ⊎ Among x (differing fs) → Among x (f ∷ fs) ×
        (x.same ≡ false)
    first rest d (inl e) = (inl e, ap (λ (g : Field). g.same) e ∙ d)
    first rest d (inr k) = later (rest k)

listed_all : (x : Field) (fs : List Field) → Among x fs → x.same ≡ false → Among x (differing fs)
listed_all x [] m e = absurd m
listed_all x (f ∷ fs) (inl p) e = subst (Among x) (sym (kept f fs (sym (ap (λ (g : Field). g.same) p) ∙ e))) (inl p)
listed_all x (f ∷ fs) (inr m) e = either_way f fs (Among x) (λ d. inr (listed_all x fs m e)) (λ d. listed_all x fs m e)

-- a field is listed exactly where it is one of the fields, and its readings do not agree
-- promise: no10.1 (a field is listed exactly where it is one of the fields and its readings differ)
pub told : (a b : Association) (x : Field) → Among x (list_of a b) ↔ (Among x (fields_of a b) × (x.same ≡ false))
unfolding list_of
told a b x = (listed_in x (fields_of a b), λ p. listed_all x (fields_of a b) p.0 p.1)

past_differing : (c : ℕ) (fs : List Field) → Past c fs → Past c (differing fs)
past_differing c [] p = tt
past_differing c (f ∷ fs) p = either_way f fs (Past c) (λ d. (p.0, past_differing c fs p.1)) (λ d. past_differing c fs p.1)

rising_differing : (fs : List Field) → Rising fs → Rising (differing fs)
rising_differing [] p = tt
rising_differing (f ∷ fs) p = either_way f fs Rising (λ d. (past_differing f.code fs p.0, rising_differing fs p.1)) (λ d. rising_differing fs p.1)

abbrev PastCodes : ℕ → List ℕ → Type 0
PastCodes c [] = Unit
PastCodes c (x ∷ xs) = (c < x) × PastCodes c xs

abbrev RisingCodes : List ℕ → Type 0
RisingCodes [] = Unit
RisingCodes (x ∷ xs) = PastCodes x xs × RisingCodes xs

-- each past the one before it
abbrev RisingFrom : ℕ → List ℕ → Type 0
RisingFrom n [] = Unit
RisingFrom n (c ∷ cs) = (n < c) × RisingFrom c cs

code_of : (c : ℕ) (l r : Reading) → (field_of c l r).code ≡ c
unfolding field_of
code_of c l r = refl

past_from : (x : ℕ) (cs : List ℕ) (ls rs : List Reading) → PastCodes x cs → Past x (fields_from cs ls rs)
past_from x [] ls rs p = tt
past_from x (c ∷ cs) [] rs p = tt
past_from x (c ∷ cs) (l ∷ ls) [] p = tt
past_from x (c ∷ cs) (l ∷ ls) (r ∷ rs) p = (subst (λ (k : ℕ). x < k) (sym (code_of c l r)) p.0, past_from x cs ls rs p.1)

rising_from : (cs : List ℕ) (ls rs : List Reading) → RisingCodes cs → Rising (fields_from cs ls rs)
rising_from [] ls rs p = tt
rising_from (c ∷ cs) [] rs p = tt
rising_from (c ∷ cs) (l ∷ ls) [] p = tt
rising_from (c ∷ cs) (l ∷ ls) (r ∷ rs) p =
    (subst (λ (k : ℕ). Past k (fields_from cs ls rs)) (sym (code_of c l r)) (past_from c cs ls rs p.0), rising_from cs ls rs p.1)

below : (n : ℕ) (cs : List ℕ) → RisingFrom n cs → PastCodes n cs
below n [] p = tt
below n (c ∷ cs) p = (p.0, wider n c (omega (arith, p.0)) cs (below c cs p.1))
  where
    wider : (m n : ℕ) → m ≤ n → (cs : List ℕ) → PastCodes n cs → PastCodes m cs
    wider m n h [] p = tt
    wider m n h (c ∷ cs) p = (omega (arith, p.0), wider m n h cs p.1)

rising_codes : (n : ℕ) (cs : List ℕ) → RisingFrom n cs → RisingCodes cs
rising_codes n [] p = tt
rising_codes n (c ∷ cs) p = (below c cs p.1, rising_codes c cs p.1)

codes_rise : RisingFrom 0 codes
codes_rise = (
  lit< tt,
  (
    lit< tt,
    (
      lit< tt,
      (
        lit< tt,
        (
          lit< tt,
          (
            lit< tt,
            (
              lit< tt,
              (
                lit< tt,
                (
                  lit< tt,
                  (
                    lit< tt,
                    (
                      lit< tt,
                      (
                        lit< tt,
                        (
                          lit< tt,
                          (
                            lit< tt,
                            (
                              lit< tt,
                              (lit< tt, (lit< tt, (lit< tt, (lit< tt, (lit< tt, (lit< tt, (lit< tt, (lit< tt, (lit< tt, (lit< tt, (lit< tt, tt))))))))))),
                            ),
                          ),
                        ),
                      ),
                    ),
                  ),
                ),
              ),
            ),
          ),
        ),
      ),
    ),
  ),
)

-- in the order of the file, each once
-- promise: no10.1 (the codes rise, so that each appears once)
pub in_order : (a b : Association) → Rising (list_of a b)
unfolding list_of fields_of
in_order a b = rising_differing (fields_of a b) (rising_from codes (readings_of a) (readings_of b) (rising_codes 0 codes codes_rise))

-- ---- no byte is shown

bytes_by : (l r : List ℕ) → same_bytes l r ≡ (eqb (length l) (length r) && eqb (place_of l r) (length l))
bytes_by l r = go (eqb (length l) (length r)) refl (same_bytes l r) refl
  where
    go : (t : Bool) → eqb (length l) (length r) ≡ t → (u : Bool) → same_bytes l r ≡ u → u ≡ (t && eqb (place_of l r) (length l))
    go true e u f = sym f ∙ same_place l r (eqb-true (length l) (length r) e)
    go false e false f = refl
    go false e true f = absurd (eqb-false (length l) (length r) e (ap length (same_eq l r f)))

field_by_lem : (c : ℕ) (l r : Reading) → field_of c l r ≡ field_by c (outline l) (outline r) (field_of c l r).place
unfolding field_of same_reading
field_by_lem c l r =
    λ i. record {
      code = c;
      left = l.number;
      right = r.number;
      place = place_of l.bytes r.bytes;
      same = eqb l.number r.number
          && bytes_by l.bytes r.bytes i;
    }

fields_by_lem : (cs : List ℕ) (ls rs : List Reading) →
    fields_from cs ls rs ≡ fields_by cs (map outline ls) (map outline rs) (map (λ f. f.place) (fields_from cs ls rs))
fields_by_lem [] ls rs = refl
fields_by_lem (c ∷ cs) [] rs = refl
fields_by_lem (c ∷ cs) (l ∷ ls) [] = refl
fields_by_lem (c ∷ cs) (l ∷ ls) (r ∷ rs) = λ i. field_by_lem c l r i ∷ fields_by_lem cs ls rs i

-- the list follows from numbers, stored lengths and places alone
-- promise: no10.2 (the list follows from numbers, stored lengths and places: `specs/Shown`: `list_by`)
pub no_byte_shown : (a b : Association) → list_of a b ≡ list_by (outlines_of a) (outlines_of b) (places_of a b)
unfolding list_of fields_of
no_byte_shown a b = ap differing (fields_by_lem codes (readings_of a) (readings_of b))

-- ---- how long it is

differing_short : (fs : List Field) → length (differing fs) ≤ length fs
differing_short [] = omega arith
differing_short (f ∷ fs) =
    either_way f fs (λ (gs : List Field). length gs ≤ suc (length fs)) (λ d. omega (arith, differing_short fs)) (λ d. omega (arith, differing_short fs))

from_short : (cs : List ℕ) (ls rs : List Reading) → length (fields_from cs ls rs) ≤ length cs
from_short [] ls rs = omega arith
from_short (c ∷ cs) [] rs = omega arith
from_short (c ∷ cs) (l ∷ ls) [] = omega arith
from_short (c ∷ cs) (l ∷ ls) (r ∷ rs) = omega (arith, from_short cs ls rs)

-- no list has more than one entry for each field
-- promise no10.6: The longest list has 26 entries, 494 bytes, and with that buffer 71 is never given.
pub at_most : (a b : Association) → length (list_of a b) ≤ 26
unfolding list_of fields_of
at_most a b = omega (arith, differing_short (fields_of a b), from_short codes (readings_of a) (readings_of b))

pub entry_long : (f : Field) → length (entry_bytes f) ≡ 19
unfolding entry_bytes
entry_long f = refl

-- promise: no10.6
pub list_long : (fs : List Field) → length (list_bytes fs) ≡ 19 * length fs
list_long [] = refl
list_long (f ∷ fs) = length-append (entry_bytes f) (list_bytes fs) ∙ omega (arith, entry_long f, list_long fs)
