-- Bytes that are read two digits after two: what is read so far, and what the digits that are left give.
-- Assumes nothing.
use Rattle.std.proofs.Common.{◌≡◌, ℕ, ◌<◌, List, [], ◌∷◌, ◌++◌, length, refl, sym, ap, ◌∙◌, append_assoc, append-nil, arith, Option, Some, None, option_map}
use Rattle.std.proofs.Common.{option_and_then, false, eqb, cond, replicate, ◌+◌, take, set, ◌≢◌, ◌⊎◌, inl, inr, ◌/◌, ◌%◌, ◌≤◌, ltb, leb, ◌&&◌, ok_or, Ok, Err}
use Rattle.std.proofs.Common.{Bor}
use Rattle.std.proofs.lemmas.Bool.{cond-true, cond-false, cond_both, eq-eqb, and_left, and_right, and_from, lt-ltb, le-ltb, le-leb, lt-leb}
use Rattle.std.proofs.lemmas.Grind.{take-set_at}
use Rattle.drill_text.specs.declared.fault.Fault.TheVariants.{Bad}
use Rattle.drill_text.specs.Reads.{bytes_read, bytes_up_to}
use Rattle.drill_text.specs.Values.{hexadecimal_of, bytes_of, is_none_sign, uid_from}

-- the bytes of a text are those that are read, and then those of the digits that are left
abbrev pub SoFar : List ℕ → List ℕ → List ℕ → Type 0
SoFar text read rest = bytes_of text ≡ option_map (λ bs. read ++ bs) (bytes_of rest)

pub nothing_read : (text : List ℕ) → SoFar text [] text
nothing_read text = none_before (bytes_of text) where
  none_before : (o : Option (List ℕ)) → o ≡ option_map (λ bs. [] ++ bs) o
  none_before None = refl
  none_before (Some bs) = refl

onto : (read : List ℕ) (b : ℕ) (o : Option (List ℕ)) → option_map (λ bs. read ++ bs) (option_map (λ bs. b ∷ bs) o) ≡ option_map (λ bs. (read ++ b ∷ []) ++ bs) o
onto read b None = refl
onto read b (Some bs) = rw append_assoc refl

-- two digits more
pub byte_read : (text read rest digits next : List ℕ) (b : ℕ) → SoFar text read rest → rest ≡ digits ++ next → length digits ≡ 2
    → Some b ≡ hexadecimal_of 2 digits → SoFar text (read ++ b ∷ []) next
byte_read text read rest [] next b s e two byte = absurd (omega arith)
byte_read text read rest (h ∷ []) next b s e two byte = absurd (omega arith)
byte_read text read rest (h ∷ l ∷ []) next b s e two byte =
    s ∙ ap (λ r. option_map (λ bs. read ++ bs) (bytes_of r)) e
    ∙ ap (λ o. option_map (λ bs. read ++ bs) (option_and_then (λ b. option_map (λ bs. b ∷ bs) (bytes_of next)) o)) (sym byte)
    ∙ onto read b (bytes_of next)
byte_read text read rest (h ∷ l ∷ x ∷ xs) next b s e two byte = absurd (omega arith)

-- two that are no digits
pub no_byte_read : (text read rest digits next : List ℕ) → SoFar text read rest → rest ≡ digits ++ next → length digits ≡ 2 → None ≡ hexadecimal_of 2 digits
    → bytes_of text ≡ None
no_byte_read text read rest [] next s e two byte = absurd (omega arith)
no_byte_read text read rest (h ∷ []) next s e two byte = absurd (omega arith)
no_byte_read text read rest (h ∷ l ∷ []) next s e two byte =
    s ∙ ap (λ r. option_map (λ bs. read ++ bs) (bytes_of r)) e
    ∙ ap (λ o. option_map (λ bs. read ++ bs) (option_and_then (λ b. option_map (λ bs. b ∷ bs) (bytes_of next)) o)) (sym byte)
no_byte_read text read rest (h ∷ l ∷ x ∷ xs) next s e two byte = absurd (omega arith)

-- none is left
pub all_read : (text read rest : List ℕ) → SoFar text read rest → length rest ≡ 0 → bytes_of text ≡ Some read
all_read text read [] s e = s ∙ rw append-nil refl
all_read text read (x ∷ rest) s e = absurd (omega arith)

-- an identifier that is not '-' is read from 64 digits
pub uid_read : (text : List ℕ) → is_none_sign text ≡ false → length text ≡ 64 → uid_from text ≡ bytes_of text
uid_read text digits long =
    cond-false (is_none_sign text) (Some (replicate 32 0)) (cond (eqb (length text) 64) (bytes_of text) None) digits
    ∙ cond-true (eqb (length text) 64) (bytes_of text) None (eq-eqb (length text) 64 long)

-- one more place of an array is written
pub byte_written : (bytes : List ℕ) (i at more b : ℕ) → at ≡ i → more ≡ i + 1 → i < length bytes → take i bytes ++ b ∷ [] ≡ take more (set bytes at b)
byte_written bytes i at more b e f room = sym (rw e (take-set_at bytes i more b f room))

-- ---- the bytes of a value

-- half a pair of digits is left over where their count is odd
odd_none : (text : List ℕ) → length text % 2 ≢ 0 → bytes_of text ≡ None
odd_none [] odd = absurd (odd refl)
odd_none (x ∷ []) odd = refl
odd_none (h ∷ l ∷ text) odd =
    ap (λ o. option_and_then (λ b. option_map (λ bs. b ∷ bs) o) (hexadecimal_of 2 (h ∷ l ∷ []))) (odd_none text (omega arith))
    ∙ nothing_after (hexadecimal_of 2 (h ∷ l ∷ [])) where
      nothing_after : (o : Option ℕ) → option_and_then (λ b. option_map (λ bs. b ∷ bs) None) o ≡ None
      nothing_after None = refl
      nothing_after (Some b) = refl

empty_none : (most : ℕ) (text : List ℕ) → length text ≡ 0 → bytes_up_to most text ≡ None
empty_none most text e =
    cond-false (ltb 0 (length text) && leb (length text / 2) most) (bytes_of text) None (and_left _ _ (le-ltb 0 (length text) (omega arith)))

long_none : (most : ℕ) (text : List ℕ) → most < length text / 2 → bytes_up_to most text ≡ None
long_none most text long =
    cond-false (ltb 0 (length text) && leb (length text / 2) most) (bytes_of text) None (and_right _ _ (lt-leb (length text / 2) most long))

pub bytes_within : (most : ℕ) (text : List ℕ) → length text ≢ 0 → length text / 2 ≤ most → bytes_up_to most text ≡ bytes_of text
bytes_within most text some few =
    cond-true (ltb 0 (length text) && leb (length text / 2) most) (bytes_of text) None
    (and_from _ _ (lt-ltb 0 (length text) (omega arith)) (le-leb (length text / 2) most few))

odd_up_to_none : (most : ℕ) (text : List ℕ) → length text % 2 ≢ 0 → bytes_up_to most text ≡ None
odd_up_to_none most text odd =
    cond_both (ltb 0 (length text) && leb (length text / 2) most) (bytes_of text) None (λ o. o ≡ None) (λ _. odd_none text odd) (λ _. refl)

-- what a value with such a text gives
pub bad_bytes : (key text : Bor (List ℕ)) (most : ℕ) (value : Option (Bor (List ℕ))) → value ≡ Some text → is_none_sign text.now ≡ false
    → bytes_up_to most text.now ≡ None → bytes_read key most value ≡ Err (Bad key)
bad_bytes key text most value e digits none =
    ap (bytes_read key most) e ∙ cond-false (is_none_sign text.now) (Ok []) (ok_or (bytes_up_to most text.now) (Bad key)) digits
    ∙ ap (λ o. ok_or o (Bad key)) none

pub fine_bytes : (key text : Bor (List ℕ)) (most : ℕ) (value : Option (Bor (List ℕ))) (bs : List ℕ) → value ≡ Some text → is_none_sign text.now ≡ false
    → bytes_up_to most text.now ≡ Some bs → bytes_read key most value ≡ Ok bs
fine_bytes key text most value bs e digits found =
    ap (bytes_read key most) e ∙ cond-false (is_none_sign text.now) (Ok []) (ok_or (bytes_up_to most text.now) (Bad key)) digits
    ∙ ap (λ o. ok_or o (Bad key)) found

-- a text with a wrong number of digits is bad
pub miscounted : (most : ℕ) (text : List ℕ) → (length text ≡ 0) ⊎ (length text % 2 ≢ 0) ⊎ (most < length text / 2) → bytes_up_to most text ≡ None
miscounted most text (inl e) = empty_none most text e
miscounted most text (inr (inl odd)) = odd_up_to_none most text odd
miscounted most text (inr (inr long)) = long_none most text long

-- a value that is not missing has its text
pub value_had : {V E : Type 0} (value : Option V) (fault : E) (v : V) → Ok v ≡ ok_or value fault → value ≡ Some v
value_had None fault v e = cc
value_had (Some w) fault v e = cc

pub value_lacked : {V E : Type 0} (value : Option V) (fault e : E) → Err e ≡ ok_or value fault → None ≡ value
value_lacked None fault e h = refl
value_lacked (Some w) fault e h = cc
