-- A version by its two readings: the words without tries, and the number behind `upgrading:`.
-- Assumes nothing.
use Rattle.std.proofs.Common.{◌≡◌, ℕ, true, false, List, take, drop, sym, ap, ◌∙◌, Option, None, option_map, bytes_eq, codes}
use mathlib.Core.Path.{ap₂}
use Rattle.std.specs.Option.{option_or}
use Rattle.std.proofs.lemmas.Bool.{cond-true, cond-false}
use Rattle.version.specs.declared.ProtocolVersion.{ProtocolVersion}
use Rattle.version.specs.declared.ProtocolVersion.TheVariants.{Upgrading}
use Rattle.drill_text.specs.Values.{decimal_up_to, kind_without_tries_of, upgrading_of, version_of}

pub version_read : (text : List ℕ) (kind upgrading : Option ProtocolVersion) → kind ≡ kind_without_tries_of text → upgrading ≡ upgrading_of text
    → option_map (λ k. record { kind = k }) (option_or kind upgrading) ≡ version_of text
version_read text kind upgrading e f = ap₂ (λ k u. option_map (λ k. record { kind = k }) (option_or k u)) e f

pub upgrading_read : (text rest : List ℕ) (tries : Option ℕ) → bytes_eq (take 10 text) (codes "upgrading:") ≡ true → rest ≡ drop 10 text
    → tries ≡ decimal_up_to 255 rest → option_map (λ n. Upgrading n) tries ≡ upgrading_of text
upgrading_read text rest tries begins e f =
    ap (option_map (λ n. Upgrading n)) (f ∙ ap (decimal_up_to 255) e)
    ∙ sym (cond-true (bytes_eq (take 10 text) (codes "upgrading:")) (option_map (λ n. Upgrading n) (decimal_up_to 255 (drop 10 text))) None begins)

pub upgrading_none : (text : List ℕ) → bytes_eq (take 10 text) (codes "upgrading:") ≡ false → None ≡ upgrading_of text
upgrading_none text other =
    sym (cond-false (bytes_eq (take 10 text) (codes "upgrading:")) (option_map (λ n. Upgrading n) (decimal_up_to 255 (drop 10 text))) None other)
