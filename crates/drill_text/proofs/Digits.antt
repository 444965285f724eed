-- What std's parser makes of digits: a text of hexadecimal digits is a numeral with no sign, and a number without '+' is a decimal one.
-- Assumes nothing.
use Rattle.std.proofs.Common.{◌≡◌, ◌≢◌, ℕ, ◌+◌, ◌^◌, ◌<◌, ◌≤◌, Bool, true, ◌&&◌, cond, eqb, leb, ltb, List, [], ◌∷◌, length, get_or, refl, sym, ap, ◌∙◌, Option}
use Rattle.std.proofs.Common.{Some, None, Result, Ok, Err, inl, inr, arith, rules, IsUtf8, IsAscii, lit<, MatchOption, codes}
use Rattle.std.specs.Char.{is_ascii_digit, is_ascii_hexdigit, digit_value}
use Rattle.std.specs.declared.num.ParseIntError.{ParseIntError}
use Rattle.std.specs.List.{list_all, starts_with}
use Rattle.std.specs.Option.{SomeIff}
use Rattle.std.specs.Result.{result_ok, OkIff}
use Rattle.std.specs.Str.Parse.{AllDigits, IsNumeral, digits_value, ParsesUnsigned, ExplainsUnsignedError, HasUnsignedDigitsIfOk}
use Rattle.std.proofs.lemmas.Bool.{and_parts, and_from, eq-eqb, lt-ltb, le-leb, ltb-true, leb-true, eqb-true, eqb-false, cond-true, cond-false, cond_both}
use Rattle.std.proofs.lemmas.Bool.{cases_Bool, leb-false}
use Rattle.std.proofs.lemmas.Bool.Decides.{nat_tests}
use Rattle.std.proofs.lemmas.Int.Digits.{digits_value-lt}
use Rattle.std.proofs.lemmas.Str.{IsUtf8-from_ascii}
use Rattle.std.proofs.lemmas.Str.Ascii.{IsAscii-nil, IsAscii-cons}
use Rattle.std.proofs.lemmas.Str.Parse.{without_leading_plus_none, digit_at, digit_from_value}
use Rattle.std.proofs.Math.Nat.{pow-le-pow_right}
use Rattle.drill_text.specs.Values.{hexadecimal_of, decimal_up_to, IsNumber}

hexdigit_below : (c : ℕ) → is_ascii_hexdigit c ≡ true → digit_value c < 16
hexdigit_below c h = grind (arith, nat_tests)

hexdigit_ascii : (c : ℕ) → is_ascii_hexdigit c ≡ true → c < 128
hexdigit_ascii c h = grind (arith, nat_tests)

hexdigit_is_no_plus : (c : ℕ) → is_ascii_hexdigit c ≡ true → c ≢ 43
hexdigit_is_no_plus c h = grind (arith, nat_tests)

hexadecimal_digits : (ds : List ℕ) → list_all is_ascii_hexdigit ds ≡ true → AllDigits 16 ds
hexadecimal_digits [] h = search rules
hexadecimal_digits (c ∷ cs) h =
    let p = and_parts (is_ascii_hexdigit c) (list_all is_ascii_hexdigit cs) h in
    (hexdigit_below c p.0, hexadecimal_digits cs p.1)

hexadecimal_ascii : (ds : List ℕ) → list_all is_ascii_hexdigit ds ≡ true → IsAscii ds
hexadecimal_ascii [] h = IsAscii-nil
hexadecimal_ascii (c ∷ cs) h =
    let p = and_parts (is_ascii_hexdigit c) (list_all is_ascii_hexdigit cs) h in
    IsAscii-cons c cs (hexdigit_ascii c p.0) (hexadecimal_ascii cs p.1)

hexadecimal_no_plus : (ds : List ℕ) → list_all is_ascii_hexdigit ds ≡ true → get_or ds 0 0 ≢ 43
hexadecimal_no_plus [] h = λ e. omega (arith, e)
hexadecimal_no_plus (c ∷ cs) h = hexdigit_is_no_plus c (and_parts (is_ascii_hexdigit c) (list_all is_ascii_hexdigit cs) h).0

-- hexadecimal digits are text
pub hexadecimal_utf8 : (ds : List ℕ) → list_all is_ascii_hexdigit ds ≡ true → IsUtf8 ds
hexadecimal_utf8 ds h = IsUtf8-from_ascii ds (hexadecimal_ascii ds h)

-- so many digits write a number below 16 to their count
pub hexadecimal_below : (ds : List ℕ) (count : ℕ) → list_all is_ascii_hexdigit ds ≡ true → length ds ≡ count → digits_value 16 ds < 16 ^ count
hexadecimal_below ds count h n = rw (← n) (digits_value-lt 16 ds (hexadecimal_digits ds h))

-- up to 16 of them are read as the number that they write
pub parsed_hexadecimal : {E : Type 0} (text : List ℕ) (count : ℕ) (r : Result ℕ E) → ParsesUnsigned 64 16 text r → list_all is_ascii_hexdigit text ≡ true
    → length text ≡ count → 0 < count → count ≤ 16 → result_ok r ≡ hexadecimal_of count text
parsed_hexadecimal text count (Ok x) p h n some fits =
    let plain = without_leading_plus_none text (hexadecimal_no_plus text h) in
    let e : x ≡ digits_value 16 text = p.1 ∙ ap (digits_value 16) plain in
    rw (eq-eqb (length text) count n, h, e) refl
parsed_hexadecimal text count (Err e) p h n some fits =
    let plain = without_leading_plus_none text (hexadecimal_no_plus text h) in
    let below : digits_value 16 text < 16 ^ count = hexadecimal_below text count h n in
    let most : 16 ^ count ≤ 2 ^ 64 = pow-le-pow_right {n = 16} (lit< tt) fits in
    absurd (p (rw plain ((omega arith, hexadecimal_digits text h), omega arith)))

-- what such a number gives where it is narrowed to a type that has room for its digits
pub narrowed : {E : Type 0} (count bound n : ℕ) (text : List ℕ) (r : Result ℕ E) → Some n ≡ hexadecimal_of count text → 16 ^ count ≤ bound
    → OkIff r (n < bound) n → result_ok r ≡ hexadecimal_of count text
narrowed count bound n text (Ok x) e room h = ap Some h.1 ∙ e
narrowed count bound n text (Err x) e room h =
    let digits = list_all is_ascii_hexdigit text in
    cond_both (eqb (length text) count && digits) (Some (digits_value 16 text)) None (λ o. Some n ≡ o → None ≡ o)
    (λ t s. let p = and_parts (eqb (length text) count) digits t in
    let below = hexadecimal_below text count p.1 (eqb-true (length text) count p.0) in
    let same : n ≡ digits_value 16 text = cc in absurd (h (omega arith)))
    (λ _ s. refl) e

digit_below : (c : ℕ) → is_ascii_digit c ≡ true → digit_value c < 10
digit_below c h = grind (arith, nat_tests)

digit_from : (c : ℕ) → digit_value c < 10 → is_ascii_digit c ≡ true
digit_from c h = let d = digit_from_value c h in grind (arith, nat_tests)

decimal_digits : (ds : List ℕ) → list_all is_ascii_digit ds ≡ true → AllDigits 10 ds
decimal_digits [] h = search rules
decimal_digits (c ∷ cs) h =
    let p = and_parts (is_ascii_digit c) (list_all is_ascii_digit cs) h in
    (digit_below c p.0, decimal_digits cs p.1)

decimal_from_digits : (ds : List ℕ) → AllDigits 10 ds → list_all is_ascii_digit ds ≡ true
decimal_from_digits [] h = refl
decimal_from_digits (c ∷ cs) h = and_from (is_ascii_digit c) (list_all is_ascii_digit cs) (digit_from c h.0) (decimal_from_digits cs h.1)

-- decimal digits are text
pub decimal_ascii : (ds : List ℕ) → AllDigits 10 ds → IsAscii ds
decimal_ascii [] h = IsAscii-nil
decimal_ascii (c ∷ cs) h = IsAscii-cons c cs (let d = digit_from_value c h.0 in omega arith) (decimal_ascii cs h.1)

-- a text begins with '+' exactly where its first byte is that
pub plus_first : (text : List ℕ) → starts_with eqb text (codes "+") ≡ eqb (get_or text 0 0) 43
plus_first [] = refl
plus_first (c ∷ cs) = grind (arith, nat_tests)

decimal_no_plus : (text : List ℕ) → AllDigits 10 text → 0 < length text → get_or text 0 0 ≢ 43
decimal_no_plus text h some = λ e. let d = digit_at text 0 h some in omega (arith, d)

-- a decimal number below a bound: one digit or more, and nothing else
abbrev pub IsDecimal : ℕ → List ℕ → Type 0
IsDecimal bound text = IsNumeral 10 text × (digits_value 10 text < bound)

-- what std's parser gives at an unsigned type of k bits
abbrev pub parses_unsigned : ℕ → List ℕ → Result ℕ ParseIntError → Type 0
parses_unsigned k bs r = ParsesUnsigned k 10 bs r × ExplainsUnsignedError 10 bs r × HasUnsignedDigitsIfOk bs r

-- where it is asked, what is read is a decimal number of the type
pub decimal_number : (k : ℕ) (text : List ℕ) (o : Option ℕ) → IsNumber (parses_unsigned k) text o → SomeIff o (IsDecimal (2 ^ k) text) (digits_value 10 text)
decimal_number k text (Some n) h =
    let plain = without_leading_plus_none text (eqb-false (get_or text 0 0) 43 (sym (plus_first text) ∙ h.0)) in
    rw plain at h.2.0
decimal_number k text None (inl plus) =
    λ d. decimal_no_plus text d.0.1 d.0.0 (eqb-true (get_or text 0 0) 43 (sym (plus_first text) ∙ plus))
decimal_number k text None (inr (inl bytes)) =
    λ d. bytes (IsUtf8-from_ascii text (decimal_ascii text d.0.1))
decimal_number k text None (inr (inr (e, p))) =
    λ d. let plain = without_leading_plus_none text (decimal_no_plus text d.0.1 d.0.0) in
    p.0 (rw plain d)

decimal_yes : (most : ℕ) (text : List ℕ) → IsNumeral 10 text → digits_value 10 text ≤ most → decimal_up_to most text ≡ Some (digits_value 10 text)
decimal_yes most text h le =
    rw (lt-ltb 0 (length text) h.0, decimal_from_digits text h.1, le-leb (digits_value 10 text) most le) refl

decimal_no : (most : ℕ) (text : List ℕ) → ¬ (IsNumeral 10 text × (digits_value 10 text ≤ most)) → decimal_up_to most text ≡ None
decimal_no most text fails =
    let numeral : Bool = ltb 0 (length text) && list_all is_ascii_digit text in
    cond_both (numeral && leb (digits_value 10 text) most) (Some (digits_value 10 text)) None (λ x. x ≡ None)
    (λ passes. let p = and_parts numeral (leb (digits_value 10 text) most) passes in
    let q = and_parts (ltb 0 (length text)) (list_all is_ascii_digit text) p.0 in
    absurd (fails ((ltb-true 0 (length text) q.0, decimal_digits text q.1), leb-true (digits_value 10 text) most p.1)))
    (λ _. refl)

-- a decimal number of a type whose largest is `most`
pub decimal_is : (most : ℕ) (text : List ℕ) (o : Option ℕ) → SomeIff o (IsDecimal (most + 1) text) (digits_value 10 text) → o ≡ decimal_up_to most text
decimal_is most text (Some n) h = ap Some h.1 ∙ sym (decimal_yes most text h.0.0 (omega (arith, h.0.1)))
decimal_is most text None h = sym (decimal_no most text (λ d. h (d.0, omega (arith, d.1))))

-- and up to a limit within the type, which is what a filter leaves
pub decimal_filtered : (most k : ℕ) (text : List ℕ) (o r : Option ℕ) (Q : ℕ → Type 0) → ((n : ℕ) → Q n → r ≡ cond (leb n most) (Some n) None) → most < 2 ^ k
    → SomeIff o (IsDecimal (2 ^ k) text) (digits_value 10 text) → MatchOption o (r ≡ None) Q → r ≡ decimal_up_to most text
decimal_filtered most k text (Some n) r Q kept fits h f =
    elim (cases_Bool (leb n most)) [
      | inl e ↦ kept n f ∙ cond-true (leb n most) (Some n) None e ∙ ap Some h.1 ∙ sym (decimal_yes most text h.0.0 (omega (arith, h.1, leb-true n most e)))
      | inr e ↦ kept n f ∙ cond-false (leb n most) (Some n) None e ∙ sym (decimal_no most text (λ d. omega (arith, h.1, d.1, leb-false n most e)))
    ]
decimal_filtered most k text None r Q kept fits h f = f ∙ sym (decimal_no most text (λ d. h (d.0, omega (arith, d.1))))
