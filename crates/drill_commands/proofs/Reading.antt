-- What a parsed value says of the words of its line.
-- Assumes nothing.
use Rattle.std.proofs.Common.{◌≡◌, ◌∙◌, ℕ, ℤ, Bool, true, false, cond, List, [], ◌∷◌, sym, ap, refl, subst, Option, Some, None, Result, Ok, Err, ok_or}
use Rattle.std.proofs.Common.{option_copied, option_and_then, unwrap_or, Bor}
use mir.Syntax.{w8}
use mir.Val.{to_z, of_z}
use mir.Facts.{to_z-of_z}
use Rattle.std.specs.Option.{option_or}
use Rattle.std.specs.declared.num.ParseIntError.{ParseIntError}
use Rattle.std.specs.Str.Parse.{ParsesSigned, ExplainsSignedError, HasSignedDigitsIfOk, AllDigits, without_leading_sign}
use Rattle.drill_text.specs.declared.fault.Fault.{Fault}
use Rattle.drill_text.specs.declared.fault.Fault.TheVariants.{Bad}
use Rattle.drill_text.specs.Lines.{value_in}
use Rattle.drill_text.specs.Reads.{IsParsed, bytes_read, bytes_up_to}
use Rattle.drill_text.specs.Values.{IsNumber, is_none_sign}
use Rattle.std.specs.List.{starts_with}
use Rattle.std.proofs.lemmas.Bool.{both_ways, eqb-true}
use Rattle.std.proofs.lemmas.Str.{IsUtf8-from_ascii}
use Rattle.std.proofs.lemmas.Str.Ascii.{IsAscii-nil, IsAscii-cons}
use Rattle.std.proofs.Common.{inl, inr, eqb, codes, IsUtf8, arith, FitsSigned}
use Rattle.drill_text.proofs.Bytes.{value_had, value_lacked}
use Rattle.drill_text.proofs.Digits.{decimal_ascii, plus_first}
use Rattle.drill_commands.specs.Settings.{read_by, read_or, IsSigned, HasSigned, list_of}

pub read_value : {V : Type 0} (parse : List ℕ → Option V) (gives : List ℕ → Option V
    → Type 0) (words : List (List ℕ)) (key : List ℕ) (k : Bor (List ℕ)) (text there : Option (Bor (List ℕ))) (v : V)
    → IsParsed gives k text (Ok v) → ((t : List ℕ) (o : Option V) → gives t o → o ≡ parse t) → text ≡ there → option_copied there ≡ value_in words key
    → read_by parse words key ≡ Some v
read_value parse gives words key k None there v h f e same = cc
read_value parse gives words key k (Some t) there v h f e same =
    ap (option_and_then parse) (sym same ∙ ap option_copied (sym e)) ∙ sym (f t.now h.0 h.1) ∙ value_had h.0 (Bad k) v h.2

-- the text of a value with a default
default_text : (words : List (List ℕ)) (key : List ℕ) (t default : Bor (List ℕ)) (there : Option (Bor (List ℕ))) → Some t ≡ option_or there (Some default)
    → option_copied there ≡ value_in words key → unwrap_or (value_in words key) default.now ≡ t.now
default_text words key t default None e same = let d : default ≡ t = cc in ap (λ o. unwrap_or o default.now) (sym same) ∙ ap (λ r. r.now) d
default_text words key t default (Some w) e same = let d : w ≡ t = cc in ap (λ o. unwrap_or o default.now) (sym same) ∙ ap (λ r. r.now) d

-- and of a value with a default
pub read_default : {V : Type 0} (parse : List ℕ → Option V) (gives : List ℕ → Option V
    → Type 0) (words : List (List ℕ)) (key : List ℕ) (k default : Bor (List ℕ)) (text there : Option (Bor (List ℕ))) (v : V)
    → IsParsed gives k text (Ok v) → ((t : List ℕ) (o : Option V) → gives t o → o ≡ parse t) → text ≡ option_or there (Some default)
    → option_copied there ≡ value_in words key → read_or parse words key default.now ≡ Some v
read_default parse gives words key k default None there v h f e same = cc
read_default parse gives words key k default (Some t) there v h f e same =
    ap parse (default_text words key t default there e same) ∙ sym (f t.now h.0 h.1) ∙ value_had h.0 (Bad k) v h.2

-- a signed number, which the poll limits hold as a word of 8 bits
abbrev pub parses_signed : List ℕ → Result ℤ ParseIntError → Type 0
parses_signed bs r = ParsesSigned w8 10 bs r × ExplainsSignedError 10 bs r × HasSignedDigitsIfOk bs r

pub read_signed : (gives : List ℕ → Option ℤ → Type 0) (words : List (List ℕ)) (key : List ℕ) (k : Bor (List ℕ)) (text there : Option (Bor (List ℕ))) (z : ℤ)
    → IsParsed gives k text (Ok z) → ((t : List ℕ) (o : Option ℤ) → gives t o → IsNumber parses_signed t o) → text ≡ there
    → option_copied there ≡ value_in words key → HasSigned words key (to_z w8 (of_z w8 z))
read_signed gives words key k None there z h f e same = cc
read_signed gives words key k (Some t) there z h f e same =
    let n = subst (IsNumber parses_signed t.now) (value_had h.0 (Bad k) z h.2) (f t.now h.0 h.1) in (
      t.now,
      sym same
          ∙ ap option_copied (sym e),
      (
        subst (FitsSigned w8) (sym (ap (λ y. to_z w8 (of_z w8 y)) n.2.0.1
            ∙ to_z-of_z n.2.0.0.1)) n.2.0.0.1,
        n.0,
        n.2.0.0.0,
        ap (λ y. to_z w8 (of_z w8 y)) n.2.0.1 ∙ to_z-of_z n.2.0.0.1,
      ),
    )

-- a list of bytes
list_had : (b : Bool) (o : Option (List ℕ)) (fault : Fault) (bs : List ℕ) → cond b (Ok []) (ok_or o fault) ≡ Ok bs → cond b (Some []) o ≡ Some bs
list_had true o fault bs e = cc
list_had false o fault bs e = value_had o fault bs (sym e)

pub read_list : (words : List (List ℕ)) (key : List ℕ) (k default : Bor (List ℕ)) (text there : Option (Bor (List ℕ))) (bs : List ℕ)
    → bytes_read k 4096 text ≡ Ok bs → text ≡ option_or there (Some default) → option_copied there ≡ value_in words key
    → read_or list_of words key default.now ≡ Some bs
read_list words key k default None there bs h e same = cc
read_list words key k default (Some t) there bs h e same =
    ap list_of (default_text words key t default there e same) ∙ list_had (is_none_sign t.now) (bytes_up_to 4096 t.now) (Bad k) bs h

-- ---- and what one that is not parsed says

pub lacks_value : {V : Type 0} (parse : List ℕ → Option V) (gives : List ℕ → Option V
    → Type 0) (words : List (List ℕ)) (key : List ℕ) (k : Bor (List ℕ)) (text there : Option (Bor (List ℕ))) (fault : Fault)
    → IsParsed gives k text (Err fault) → ((t : List ℕ) (o : Option V) → gives t o → o ≡ parse t) → text ≡ there → option_copied there ≡ value_in words key
    → read_by parse words key ≡ None
lacks_value parse gives words key k None there fault h f e same = ap (option_and_then parse) (sym same ∙ ap option_copied (sym e))
lacks_value parse gives words key k (Some t) there fault h f e same =
    ap (option_and_then parse) (sym same ∙ ap option_copied (sym e)) ∙ sym (f t.now h.0 h.1) ∙ sym (value_lacked h.0 (Bad k) fault h.2)

pub lacks_default : {V : Type 0} (parse : List ℕ → Option V) (gives : List ℕ → Option V
    → Type 0) (words : List (List ℕ)) (key : List ℕ) (k default : Bor (List ℕ)) (text there : Option (Bor (List ℕ))) (fault : Fault)
    → IsParsed gives k text (Err fault) → ((t : List ℕ) (o : Option V) → gives t o → o ≡ parse t) → text ≡ option_or there (Some default)
    → option_copied there ≡ value_in words key → read_or parse words key default.now ≡ None
lacks_default parse gives words key k default None None fault h f e same = cc
lacks_default parse gives words key k default None (Some w) fault h f e same = cc
lacks_default parse gives words key k default (Some t) there fault h f e same =
    ap parse (default_text words key t default there e same) ∙ sym (f t.now h.0 h.1) ∙ sym (value_lacked h.0 (Bad k) fault h.2)

list_lacked : (b : Bool) (o : Option (List ℕ)) (fault other : Fault) → cond b (Ok []) (ok_or o fault) ≡ Err other → cond b (Some []) o ≡ None
list_lacked true o fault other e = cc
list_lacked false o fault other e = sym (value_lacked o fault other (sym e))

pub lacks_list : (words : List (List ℕ)) (key : List ℕ) (k default : Bor (List ℕ)) (text there : Option (Bor (List ℕ))) (fault : Fault)
    → bytes_read k 4096 text ≡ Err fault → text ≡ option_or there (Some default) → option_copied there ≡ value_in words key
    → read_or list_of words key default.now ≡ None
lacks_list words key k default None None fault h e same = cc
lacks_list words key k default None (Some w) fault h e same = cc
lacks_list words key k default (Some t) there fault h e same =
    ap list_of (default_text words key t default there e same) ∙ list_lacked (is_none_sign t.now) (bytes_up_to 4096 t.now) (Bad k) fault h

-- a signed number is text
signed_utf8 : (text : List ℕ) → starts_with eqb text (codes "+") ≡ false → AllDigits 10 (without_leading_sign text) → IsUtf8 text
signed_utf8 [] none digits = IsUtf8-from_ascii [] IsAscii-nil
signed_utf8 (c ∷ cs) none digits = go (eqb c 45) refl where
  go : (b : Bool) → eqb c 45 ≡ b → IsUtf8 (c ∷ cs)
  go true minus = IsUtf8-from_ascii (c ∷ cs) (IsAscii-cons c cs (omega (arith, eqb-true c 45 minus)) (decimal_ascii cs (rw minus at digits)))
  go false other = IsUtf8-from_ascii (c ∷ cs) (decimal_ascii (c ∷ cs) (rw (other, sym (plus_first (c ∷ cs)) ∙ none) at digits))

not_signed : (text : List ℕ) (z : ℤ) → IsSigned z text → IsNumber parses_signed text None → ⊥
not_signed text z is (inl plus) = both_ways (starts_with eqb text (codes "+")) is.1 plus
not_signed text z is (inr (inl bytes)) = bytes (signed_utf8 text is.1 is.2.1)
not_signed text z is (inr (inr (e, p))) = p.0 (is.2, subst (FitsSigned w8) is.3 is.0)

pub lacks_signed : (gives : List ℕ → Option ℤ
    → Type 0) (words : List (List ℕ)) (key : List ℕ) (k : Bor (List ℕ)) (text there : Option (Bor (List ℕ))) (fault : Fault)
    → IsParsed gives k text (Err fault) → ((t : List ℕ) (o : Option ℤ) → gives t o → IsNumber parses_signed t o) → text ≡ there
    → option_copied there ≡ value_in words key → (z : ℤ) → ¬ (HasSigned words key z)
lacks_signed gives words key k None there fault h f e same z w = let none = sym (ap option_copied e ∙ same) in let some = w.1 in cc
lacks_signed gives words key k (Some t) there fault h f e same z w =
    let here = sym (ap option_copied e ∙ same) ∙ refl in
    let both : t.now ≡ w.0 = let some = w.1 in cc in
    let is = subst (IsSigned z) (sym both) w.2 in
    not_signed t.now z is (subst (IsNumber parses_signed t.now) (sym (value_lacked h.0 (Bad k) fault h.2)) (f t.now h.0 h.1))
