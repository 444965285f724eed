-- The settings' record: what is written has 27 bytes, is of a kind and is read back; 27 bytes whose codes are of a kind are written as they were read; 26
-- bytes are read as
-- those with the byte 8 behind them.
-- Assumes nothing.
use Prim.Native.Nat.{ℕ, suc, ◌+◌, ◌^◌, ◌≤◌, ◌<◌}
use mathlib.Core.Path.{◌≡◌, refl, sym, ap, ◌∙◌}
use mathlib.Core.Bool.{true}
use mathlib.Core.List.{List, [], ◌∷◌, ◌++◌}
use native.Mathlib.Omega.{arith}
use lib.ListN.{length, get_or, drop, take, drop_of_length-le, length-drop, get_or-append, get_or-eq_default}
use lib.Seq.{drop-cons, take-append-le, drop-append-le, get_or-append_seam}
use mir.Syntax.{w8}
use mir.Val.{SFits}
use Rattle.words.specs.Bytes.{be, part}
use Rattle.words.specs.Signed.{signed}
use Rattle.words.proofs.Bytes.{Bytes, part_drop, word, word_again}
use Rattle.words.proofs.Readings.{signed_unsigned, unsigned_signed}
use Rattle.words.proofs.Tests.{both}
use Rattle.association.specs.declared.Settings.{Settings}
use Rattle.identifiers.specs.Names.{named}
use Rattle.time_types.specs.Poll.{interval}
use Rattle.version.specs.Upgrade.{version}
use Rattle.handover_groups.specs.Codes.{yes_of, kind_of}
use Rattle.handover_groups.specs.Settings.{settings_bytes, settings_of, settings_known}
use Rattle.handover_groups.proofs.OfCodes.{yes_kept, yes_again, kind_kept, kind_again}

-- what the types say of settings
pub record SettingsFit (s : Settings) : Type 0 where
  pub min : SFits w8 s.min.0
  pub max : SFits w8 s.max.0
  pub window : s.window < 2 ^ 64
  pub upgrademark : s.upgrademark < 2 ^ 64
  pub source : s.source.0 < 2 ^ 32

-- promise: no6.1 (each body to bytes and back), no12.5
pub settings_back : (s : Settings) → SettingsFit s → settings_of (settings_bytes s) ≡ s
unfolding settings_of settings_bytes part
settings_back s f =
    rw (
      signed_unsigned w8 s.min.0 f.min,
      signed_unsigned w8 s.max.0 f.max,
      word 8 s.window f.window,
      word 8 s.upgrademark f.upgrademark,
      (kind_kept s.start.kind).0,
      (yes_kept s.nts).0,
      word 4 s.source.0 f.source,
    )

pub settings_known_lem : (s : Settings) → settings_known (settings_bytes s) ≡ true
unfolding settings_known settings_bytes
settings_known_lem s = rw ((kind_kept s.start.kind).1, (yes_kept s.nts).1)

-- promise: no6.1, no12.5
pub settings_long : (s : Settings) → length (settings_bytes s) ≡ 27
unfolding settings_bytes
settings_long s = refl

module _ (b : List ℕ) (n : length b ≡ 27) where
  -- a byte, and what follows it
  first : (i : ℕ) → i < 27 → get_or b i 0 ∷ drop (suc i) b ≡ drop i b
  first i h = sym (drop-cons b i 0 (omega arith))

  -- 27 bytes, field by field
  fields : get_or b 0 0 ∷ get_or b 1 0 ∷ get_or b 2 0
      ∷ (part b 3 8 ++ (part b 11 8 ++ (get_or b 19 0 ∷ get_or b 20 0 ∷ get_or b 21 0 ∷ (part b 22 4 ++ (get_or b 26 8 ∷ []))))) ≡ b
  fields =
      let end : get_or b 26 8 ∷ [] ≡ drop 26 b = ap (λ (l : List ℕ). get_or b 26 8 ∷ l) (sym (drop_of_length-le b {i = 27} (omega arith)))
      ∙ sym (drop-cons b 26 8 (omega arith)) in
      let last : part b 22 4 ++ (get_or b 26 8 ∷ []) ≡ drop 22 b = ap (λ (l : List ℕ). part b 22 4 ++ l) end ∙ part_drop b 22 4 in
      let codes : get_or b 19 0 ∷ get_or b 20 0 ∷ get_or b 21 0 ∷ (part b 22 4 ++ (get_or b 26 8 ∷ [])) ≡ drop 19 b
      = ap (λ (l : List ℕ). get_or b 19 0 ∷ get_or b 20 0 ∷ get_or b 21 0 ∷ l) last
      ∙ ap (λ (l : List ℕ). get_or b 19 0 ∷ get_or b 20 0 ∷ l) (first 21 (omega arith))
      ∙ ap (λ (l : List ℕ). get_or b 19 0 ∷ l) (first 20 (omega arith))
      ∙ first 19 (omega arith) in
      let words : part b 3 8 ++ (part b 11 8 ++ (get_or b 19 0 ∷ get_or b 20 0 ∷ get_or b 21 0 ∷ (part b 22 4 ++ (get_or b 26 8 ∷ [])))) ≡ drop 3 b
      = ap (λ (l : List ℕ). part b 3 8 ++ (part b 11 8 ++ l)) codes ∙ ap (λ (l : List ℕ). part b 3 8 ++ l) (part_drop b 11 8) ∙ part_drop b 3 8 in
      ap (λ (l : List ℕ). get_or b 0 0 ∷ get_or b 1 0 ∷ get_or b 2 0 ∷ l) words
      ∙ ap (λ (l : List ℕ). get_or b 0 0 ∷ get_or b 1 0 ∷ l) (first 2 (omega arith))
      ∙ ap (λ (l : List ℕ). get_or b 0 0 ∷ l) (first 1 (omega arith))
      ∙ first 0 (omega arith)

  pub settings_again : Bytes b → settings_known b ≡ true → settings_bytes (settings_of b) ≡ b
  unfolding settings_bytes settings_of settings_known
  settings_again y e =
      let k = both _ _ e in
      let v = kind_again (get_or b 19 0) (get_or b 20 0) k.0 in
      let low = unsigned_signed w8 (get_or b 0 0) (y 0) in
      let high = unsigned_signed w8 (get_or b 1 0) (y 1) in
      let window = word_again b 3 8 y (omega arith) in
      let mark = word_again b 11 8 y (omega arith) in
      let nts = yes_again (get_or b 21 0) k.1 in
      let source = word_again b 22 4 y (omega arith) in
      (λ i. low i ∷ high i ∷ get_or b 2 0 ∷ (window i ++ (mark i ++ (v.0 i ∷ v.1 i ∷ nts i ∷ (source i ++ (get_or b 26 8 ∷ [])))))) ∙ fields

-- ---- a record of before, without the capacity

module _ (b : List ℕ) (n : length b ≡ 26) where
  abbrev more : List ℕ
  more = b ++ (8 ∷ [])

  byte_same : (i : ℕ) → i < 26 → get_or more i 0 ≡ get_or b i 0
  byte_same i h = get_or-append b (8 ∷ []) 0 i (omega arith)

  part_same : (at k : ℕ) → at + k ≤ 26 → part more at k ≡ part b at k
  unfolding part
  part_same at k h = ap (take k) (drop-append-le at b (8 ∷ []) (omega arith)) ∙ take-append-le k (drop at b) (8 ∷ []) (omega (arith, length-drop at b))

  -- it is read as the one with the byte 8 behind it
  pub settings_old : settings_of b ≡ settings_of more
  unfolding settings_of
  settings_old =
      let end : get_or b 26 8 ≡ get_or more 26 8 = get_or-eq_default b 8 {n = 26} (omega arith)
      ∙ sym (ap (λ (k : ℕ). get_or more k 8) (sym n) ∙ get_or-append_seam b 8 [] 8) in
      λ i. record {
        min = interval (signed (2 ^ 7) (sym (byte_same 0 (omega arith)) i));
        max = interval (signed (2 ^ 7) (sym (byte_same 1 (omega arith)) i));
        startup = sym (byte_same 2 (omega arith)) i;
        window = be (sym (part_same 3 8 (omega arith)) i);
        upgrademark = be (sym (part_same 11 8 (omega arith)) i);
        start = version (kind_of (sym (byte_same 19 (omega arith)) i) (sym (byte_same 20 (omega arith)) i));
        nts = yes_of (sym (byte_same 21 (omega arith)) i);
        source = named (be (sym (part_same 22 4 (omega arith)) i));
        capacity = end i;
      }

  pub known_old : settings_known b ≡ settings_known more
  unfolding settings_known
  known_old = rw (byte_same 19 (omega arith), byte_same 20 (omega arith), byte_same 21 (omega arith))
