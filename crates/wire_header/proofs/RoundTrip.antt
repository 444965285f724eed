-- The header's reader and writer undo each other, and the reader refuses exactly what is too short or of another version.
-- Assumes nothing.
use mathlib.Core.Path.{◌≡◌, refl, sym, ◌∙◌, ap, subst}
use mathlib.Core.Bool.{Bool, true, false, cond}
use mathlib.Core.List.{List, [], ◌∷◌, ◌++◌, append_assoc}
use mathlib.Core.Logic.{◌↔◌, ◌⊎◌, inl, inr}
use Rattle.std.specs.Prelude.{Option, Some, None}
use Prim.Native.Nat.{ℕ, ◌≤◌, ◌<◌}
use native.Mathlib.Omega.{arith}
use borrow.Author.Tests.{ltb-true, ltb-false, eqb-true, eqb-false}
use lib.Dec.{ltb, eqb}
use lib.ListN.{length, get_or, take}
use mir.Syntax.{w8}
use Rattle.words.specs.Bytes.{part}
use Rattle.words.proofs.Bytes.{Bytes, part_add, word, word_again}
use Rattle.words.proofs.Readings.{unsigned_signed, signed_unsigned}
use Rattle.wire_header.specs.Header.{version_code, version_bits, fields, header_of, refusal_of, bytes_of}
use Rattle.wire_header.specs.declared.HeaderVersion.{HeaderVersion}
use Rattle.wire_header.specs.declared.HeaderVersion.TheVariants.{V3, V4}
use Rattle.wire_header.specs.declared.Header.{Header}
use Rattle.wire_header.proofs.Fit.{Fit}
use Rattle.wire_header.proofs.Codes.{leap_kept, mode_kept, first_leap, first_version, first_mode, first_again}

-- ---- reading what was written

by_version : (v : HeaderVersion) (p : List ℕ)
    → cond (eqb (version_code v) 3) (Some (fields V3 p)) (cond (eqb (version_code v) 4) (Some (fields V4 p)) None) ≡ Some (fields v p)
by_version V3 p = refl
by_version V4 p = refl

module _ (h : Header) (f : Fit h) where
  back : fields h.version (bytes_of h) ≡ h
  unfolding fields bytes_of part
  back =
      rw (
        first_leap h.leap h.version h.mode,
        first_mode h.leap h.version h.mode,
        (leap_kept h.leap).0,
        (mode_kept h.mode).0,
        signed_unsigned w8 h.poll.0 f.poll,
        signed_unsigned w8 h.precision f.precision,
        word 4 h.rootdelay f.rootdelay,
        word 4 h.rootdisp f.rootdisp,
        word 4 h.refid.0 f.refid,
        word 8 h.reftime.0 f.reftime,
        word 8 h.origin.0 f.origin,
        word 8 h.receive.0 f.receive,
        word 8 h.transmit.0 f.transmit,
      )

  -- promise: 6.3 (reading what was written gives the header)
  pub read_write : header_of (bytes_of h) ≡ Some h
  unfolding header_of bytes_of
  read_write = rw (first_version h.leap h.version h.mode) (by_version h.version (bytes_of h)) ∙ ap Some back

-- ---- what reading says of the bytes

pub data Read (p : List ℕ) : Option Header → Type 0 where
  short : length p < 48 → Read p None
  other : (version_bits p ≡ 3 → ⊥) → (version_bits p ≡ 4 → ⊥) → Read p None
  read : (v : HeaderVersion) → 48 ≤ length p → version_bits p ≡ version_code v → Read p (Some (fields v p))

pub view : (p : List ℕ) → Read p (header_of p)
unfolding header_of
view p = go (ltb (length p) 48) (eqb (version_bits p) 3) (eqb (version_bits p) 4) refl refl refl
  where
    go : (s t u : Bool) → ltb (length p) 48 ≡ s → eqb (version_bits p) 3 ≡ t → eqb (version_bits p) 4 ≡ u
        → Read p (cond s None (cond t (Some (fields V3 p)) (cond u (Some (fields V4 p)) None)))
    go true t u es et eu = short (ltb-true (length p) 48 es)
    go false true u es et eu = read V3 (ltb-false (length p) 48 es) (eqb-true _ 3 et)
    go false false true es et eu = read V4 (ltb-false (length p) 48 es) (eqb-true _ 4 eu)
    go false false false es et eu = other (eqb-false _ 3 et) (eqb-false _ 4 eu)

-- fewer than 48 bytes, or version bits that are neither 3 nor 4
abbrev pub HeaderRefused : List ℕ → Type 0
HeaderRefused p = (length p < 48) ⊎ ((version_bits p ≡ 3 → ⊥) × (version_bits p ≡ 4 → ⊥))

-- the number 1, and no other, is that of bytes that are not decodable
refused_by : (r : Option Header) (n : ℕ) → refusal_of r ≡ Some n → (n ≡ 1) × (r ≡ None)
refused_by (Some h) n e = let z : ◌≡◌ {A = ℕ} 0 1 = cc in absurd (omega arith)
refused_by None n e = (cc, refl)

undecodable : (p : List ℕ) → header_of p ≡ None → HeaderRefused p
undecodable p e = go (subst (Read p) e (view p))
  where
    go : Read p None → HeaderRefused p
    go (short h) = inl h
    go (other a b) = inr (a, b)

then_refused : (p : List ℕ) → HeaderRefused p → header_of p ≡ None
then_refused p f = go (header_of p) (view p) f
  where
    go : (r : Option Header) → Read p r → HeaderRefused p → r ≡ None
    go _ (short h) f = refl
    go _ (other a b) f = refl
    go _ (read v l e) (inl h) = absurd (omega arith)
    go _ (read V3 l e) (inr n) = absurd (n.0 e)
    go _ (read V4 l e) (inr n) = absurd (n.1 e)

-- the reader refuses with number 1 of RULES exactly what is refused, and with no other number
-- promise: 6.1 (1 exactly if too short or of another version), 6.2, 6.4
pub refused : (p : List ℕ) (n : ℕ) → (refusal_of (header_of p) ≡ Some n) ↔ ((n ≡ 1) × HeaderRefused p)
refused p n = (
  λ e. (let b = refused_by (header_of p) n e in (b.0, undecodable p b.1)),
  λ f. ap refusal_of (then_refused p f.1) ∙ ap Some (sym f.0),
)

-- ---- writing what was read

-- the first four bytes, one by one
four : (p : List ℕ) → 4 ≤ length p → part p 0 4 ≡ get_or p 0 0 ∷ get_or p 1 0 ∷ get_or p 2 0 ∷ get_or p 3 0 ∷ []
unfolding part
four [] h = absurd (omega arith)
four (a ∷ []) h = absurd (omega arith)
four (a ∷ b ∷ []) h = absurd (omega arith)
four (a ∷ b ∷ c ∷ []) h = absurd (omega arith)
four (a ∷ b ∷ c ∷ d ∷ l) h = refl

-- the header's fields, in order, are the first 48 bytes
laid : (p : List ℕ) → 48 ≤ length p
    → get_or p 0 0 ∷ get_or p 1 0 ∷ get_or p 2 0 ∷ get_or p 3 0
    ∷ (part p 4 4 ++ part p 8 4 ++ part p 12 4 ++ part p 16 8 ++ part p 24 8 ++ part p 32 8 ++ part p 40 8) ≡ part p 0 48
laid p h =
    sym
    (part_add p 0 4 44
    ∙ rw (
      four p (omega arith),
      part_add p 4 4 40,
      part_add p 8 4 36,
      part_add p 12 4 32,
      part_add p 16 8 24,
      part_add p 24 8 16,
      part_add p 32 8 8,
    )
    (simp append_assoc))

-- equal parts make equal bytes
parts : {b s x y b' x' y' : ℕ} {d e i f o r t d' e' i' f' o' r' t' : List ℕ} → b ≡ b' → x ≡ x' → y ≡ y'
    → d ≡ d' → e ≡ e' → i ≡ i' → f ≡ f' → o ≡ o' → r ≡ r' → t ≡ t'
    → b ∷ s ∷ x ∷ y ∷ (d ++ e ++ i ++ f ++ o ++ r ++ t) ≡ b' ∷ s ∷ x' ∷ y' ∷ (d' ++ e' ++ i' ++ f' ++ o' ++ r' ++ t')
parts eb ex ey ed ee ei ef eo er et = rw (eb, ex, ey, ed, ee, ei, ef, eo, er, et)

module _ (p : List ℕ) (b : Bytes p) where
  fields_again : (v : HeaderVersion) → 48 ≤ length p → version_bits p ≡ version_code v → bytes_of (fields v p) ≡ part p 0 48
  unfolding bytes_of fields
  fields_again v l e =
      parts
      (first_again (get_or p 0 0) v (b 0) e)
      (unsigned_signed w8 (get_or p 2 0) (b 2))
      (unsigned_signed w8 (get_or p 3 0) (b 3))
      (word_again p 4 4 b (omega arith))
      (word_again p 8 4 b (omega arith))
      (word_again p 12 4 b (omega arith))
      (word_again p 16 8 b (omega arith))
      (word_again p 24 8 b (omega arith))
      (word_again p 32 8 b (omega arith))
      (word_again p 40 8 b (omega arith))
      ∙ laid p l

  -- promise: 6.3 (writing what was read gives the first 48 bytes)
  pub write_read : (h : Header) → header_of p ≡ Some h → bytes_of h ≡ take 48 p
  unfolding part
  write_read h e = go h (subst (Read p) e (view p))
    where
      go : (h : Header) → Read p (Some h) → bytes_of h ≡ take 48 p
      go _ (read v l e) = fields_again v l e
