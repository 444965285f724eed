-- What stands before and after the first separator, by its place.
-- Assumes nothing.
use Rattle.std.proofs.Common.{◌≡◌, ℕ, ◌+◌, ◌<◌, Bool, true, false, eqb, ltb, List, [], ◌∷◌, length, take, drop, refl, sym, ap, ◌∙◌, Option, Some, None}
use Rattle.std.proofs.Common.{option_map, position, get_or, arith, suc, unwrap_or, Bor, option_copied, ◌⊎◌, inl, inr, ◌≤◌, ◌++◌, add-one, drop-cons}
use Rattle.std.proofs.Common.{length-drop}
use Rattle.std.specs.List.{position_or_len, slice_split, onto_first, before_first, after_first}
use Rattle.std.proofs.lemmas.Bool.{cond_both, cases_lt, lt-ltb, le-ltb}
use Rattle.std.specs.Iterator.{Yields}
use Rattle.std.proofs.lemmas.Iterator.{YieldsList}
use Rattle.std.proofs.lemmas.Iterator.Consumers.{YieldsList-turn, YieldsList-end}
use Rattle.std.proofs.lemmas.List.Splits.{length-slice_split, slice_split_first, slice_split_none}
use Rattle.std.proofs.lemmas.List.Sums.{fails_before_first}
use Rattle.std.proofs.Math.Seq.{take-suc}
use mathlib.Core.Path.{ap₂}
use Rattle.drill_text.specs.Values.{split_at, first_of}
use Rattle.drill_text.specs.Reads.{parts_of}

-- there is none
pub split_none : (text : List ℕ) (separator : ℕ) → None ≡ position (λ b. eqb b separator) text → None ≡ split_at text separator
split_none text separator e = ap (option_map (λ _. (before_first (λ b. eqb b separator) text, after_first (λ b. eqb b separator) text))) e

-- it is at `at`
pub split_found : (text : List ℕ) (separator at : ℕ) → Some at ≡ position (λ b. eqb b separator) text
    → split_at text separator ≡ Some (take at text, drop (at + 1) text)
split_found text separator at e =
    let p : ℕ → Bool = λ b. eqb b separator in
    cond_both (ltb (position_or_len p text) (length text)) (Some (position_or_len p text)) None
    (λ o. Some at ≡ o → option_map {U = List ℕ × List ℕ} (λ _. (before_first p text, after_first p text)) o ≡ Some (take at text, drop (at + 1) text))
    (λ _ s. let same : at ≡ position_or_len p text = cc in rw same refl) (λ _ s. cc) e

onto_head : (x : ℕ) (parts : List (List ℕ)) (d : List ℕ) → 0 < length parts → get_or (onto_first x parts) 0 d ≡ x ∷ get_or parts 0 d
onto_head x [] d some = absurd (omega arith)
onto_head x (part ∷ parts) d some = refl

-- the first part that a cut gives is what stands before the first place that passes
pub first_part : (p : ℕ → Bool) (xs : List ℕ) (d : List ℕ) → get_or (slice_split p xs) 0 d ≡ before_first p xs
first_part p [] d = refl
first_part p (x ∷ xs) d = go (p x) refl (first_part p xs d) where
  go : (b : Bool) → p x ≡ b → get_or (slice_split p xs) 0 d ≡ before_first p xs → get_or (slice_split p (x ∷ xs)) 0 d ≡ before_first p (x ∷ xs)
  go true e first = rw e refl
  go false e first = let next : 1 + position_or_len p xs ≡ suc (position_or_len p xs) =
      omega arith in rw (e, next) (onto_head x (slice_split p xs) d (omega (arith, length-slice_split p xs)) ∙ ap (λ part. x ∷ part) first)

-- and the first that an iterator over the parts gives
pub first_yielded : {S : Type 0} {steps : S → Option (Bor (List ℕ)) → S → Type 0} {s : S} (p : ℕ
    → Bool) (xs : List ℕ) (whole : Bor (List ℕ)) (r : Option (Bor (List ℕ))) (u : S) → steps s r u → YieldsList steps (λ x. x.now) s (slice_split p xs)
    → (unwrap_or r whole).now ≡ before_first p xs
first_yielded {s = s} p xs whole None u step road = absurd (omega (arith, (YieldsList-end road [] s refl None u refl step).1, length-slice_split p xs))
first_yielded {s = s} p xs whole (Some x) u step road = (YieldsList-turn road [] s refl (Some x) u x refl step).1 ∙ first_part p xs x.now

-- a chain proof for an iterator whose steps a loop's facts name
pub along : {S A B : Type 0} {steps : S → Option A → S → Type 0} {v : A → B} {s : S} {all : List B} (xs : List A) (t : S) → Yields steps s xs t
    → YieldsList steps v s all → YieldsList steps v s all
along xs t yielded road = road

-- what is left of a list: the parts of a text, or none
abbrev pub left_parts : Option (Bor (List ℕ)) → List (List ℕ)
left_parts None = []
left_parts (Some rest) = parts_of rest.now

-- and how much
abbrev pub left_length : Option (Bor (List ℕ)) → ℕ
left_length None = 0
left_length (Some rest) = suc (length rest.now)

abbrev is_comma : ℕ → Bool
is_comma = λ b. eqb b 44

cut_or_whole : (text : List ℕ)
    → ((position_or_len is_comma text < length text) × (split_at text 44 ≡ Some (before_first is_comma text, after_first is_comma text)))
    ⊎ ((length text ≤ position_or_len is_comma text) × (split_at text 44 ≡ None))
cut_or_whole text =
    elim (cases_lt (position_or_len is_comma text) (length text)) [
      | inl lt ↦ inl (lt, rw (lt-ltb (position_or_len is_comma text) (length text) lt) refl)
      | inr ge ↦ inr
          (ge, rw (le-ltb (position_or_len is_comma text) (length text) ge) refl)
    ]

-- taking the first part leaves the others
pub part_taken : (text part : List ℕ) (after : Option (Bor (List ℕ))) → (part, option_copied after) ≡ first_of text (split_at text 44)
    → (parts_of text ≡ part ∷ left_parts after) × (left_length after < suc (length text))
part_taken text part after e = go after e (cut_or_whole text) where
  go : (after : Option (Bor (List ℕ))) → (part, option_copied after) ≡ first_of text (split_at text 44)
      → ((position_or_len is_comma text < length text) × (split_at text 44 ≡ Some (before_first is_comma text, after_first is_comma text)))
      ⊎ ((length text ≤ position_or_len is_comma text) × (split_at text 44 ≡ None)) → (parts_of text ≡ part ∷ left_parts after)
      × (left_length after < suc (length text))
  go None e (inl (lt, s)) = let f = ap (λ q. q.1) (e ∙ ap (first_of text) s) in cc
  go (Some r) e (inl (lt, s)) =
      let f = e ∙ ap (first_of text) s in
      let first : part ≡ before_first is_comma text = ap (λ q. q.0) f in
      let found = ap (λ q. q.1) f in
      let rest : r.now ≡ after_first is_comma text = cc in (
        slice_split_first is_comma text 0 lt
            ∙ ap₂ (λ w ws. w ∷ parts_of ws) (sym first) (sym rest),
        omega (arith, ap length rest, length-drop (position_or_len is_comma text + 1) text),
      )
  go None e (inr (ge, s)) =
      let whole : part ≡ text = ap (λ q. q.0) (e ∙ ap (first_of text) s) in
      (slice_split_none is_comma text (λ k d l. fails_before_first is_comma text k d (omega arith)) ∙ ap (λ w. w ∷ []) (sym whole), omega arith)
  go (Some r) e (inr (ge, s)) = let f = ap (λ q. q.1) (e ∙ ap (first_of text) s) in cc

-- what a list is cut into at an index
pub next_of : (all : List (List ℕ)) (n : ℕ) (x : List ℕ) (ys : List (List ℕ)) → drop n all ≡ x ∷ ys → (n < length all) × (drop (n + 1) all ≡ ys)
    × (take (n + 1) all ≡ take n all ++ x ∷ []) × (x ≡ get_or all n x)
next_of all n x ys e =
    let within : n < length all = omega (arith, ap length e, length-drop n all) in
    let cut = drop-cons all n x within in
    let first : x ≡ get_or all n x = cc in
    let others : drop (suc n) all ≡ ys = cc in
    (within, rw add-one others, rw add-one (take-suc all n x within ∙ ap (λ w. take n all ++ w ∷ []) (sym first)), first)
