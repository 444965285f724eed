-- The byte form of a reply is refused exactly where its header, its authenticated end or, with NTS, its decrypted fields do not hold.
-- Assumes nothing.
use mathlib.Core.Path.{◌≡◌, refl, sym, ap, ◌∙◌}
use mathlib.Core.Bool.{Bool, true, false, ◌&&◌, cond}
use mathlib.Core.List.{List}
use mathlib.Core.Logic.{◌↔◌, ◌⊎◌, inl, inr, ⊎_elim}
use Rattle.std.specs.Prelude.{Option, Some, None}
use Prim.Native.Nat.{ℕ}
use native.Mathlib.Omega.{arith}
use borrow.Author.Tests.{ne_eqb, eqb-false}
use Rattle.wire_header.specs.declared.HeaderVersion.{HeaderVersion}
use Rattle.wire_header.specs.declared.HeaderVersion.TheVariants.{V3, V4}
use Rattle.wire_header.specs.declared.Header.{Header}
use Rattle.wire_header.specs.Header.{version_code, version_bits, fields, header_of}
use Rattle.wire_header.proofs.RoundTrip.{Read, short, other, read, view}
use Rattle.wire_fields.specs.Walk.{Walk, field, ends, broken, decrypted_walk, walked_of, whole, is_place}
use Rattle.wire_fields.proofs.Sound.{not_whole, place_iff}
use Rattle.wire_incoming.specs.declared.Reply.{Reply}
use Rattle.wire_incoming.specs.Incoming.{end_valid, decrypted_valid, bytes_read, on_header, read_of, refusal_of}
use Rattle.wire_incoming.specs.Refused.{PacketRefused}

-- a test is not both true and false
not_both : (t : Bool) → t ≡ true → t ≡ false → ⊥
not_both t e f = let z : ◌≡◌ {A = ℕ} 0 1 = cc in omega arith

-- of two tests that both must hold, one fails
one_fails : (a b : Bool) (r : Reply) → cond (a && b) (Some r) None ≡ None → (a ≡ false) ⊎ (b ≡ false)
one_fails true true r e = let z : ◌≡◌ {A = ℕ} 0 1 = cc in absurd (omega arith)
one_fails true false r e = inr refl
one_fails false b r e = inl refl

then_refused : (a b : Bool) (r : Reply) → (a ≡ false) ⊎ (b ≡ false) → cond (a && b) (Some r) None ≡ None
then_refused true true r e = absurd (⊎_elim (not_both true refl) (not_both true refl) e)
then_refused true false r e = refl
then_refused false b r e = refl

-- the number 1, and no other, is that of a reply that is not decodable
refused_by : (r : Option Reply) (n : ℕ) → refusal_of r ≡ Some n → (n ≡ 1) × (r ≡ None)
refused_by (Some v) n e = let z : ◌≡◌ {A = ℕ} 0 1 = cc in absurd (omega arith)
refused_by None n e = (cc, refl)

is_broken : (w : Walk) → whole w ≡ false → walked_of w ≡ None
is_broken (field f w) e = is_broken w e
is_broken (ends at) e = absurd (not_both true refl e)
is_broken broken e = refl

module _ (nts : Bool) (p : List ℕ) (end : ℕ) (decrypted : List ℕ) where
  end_refused : (v : HeaderVersion) → version_bits p ≡ version_code v → end_valid v p end ≡ false → PacketRefused nts p end decrypted
  end_refused V3 e f = inr (inl (e, eqb-false end 48 f))
  end_refused V4 e f = inr (inr (inl (e, λ q. not_both (is_place p end) ((place_iff p end).1 q) f)))

  decrypted_refused : decrypted_valid nts decrypted ≡ false → PacketRefused nts p end decrypted
  decrypted_refused f = by nts refl f
    where
      by : (b : Bool) → nts ≡ b → decrypted_valid b decrypted ≡ false → PacketRefused nts p end decrypted
      by true e f = inr (inr (inr (e, is_broken (decrypted_walk decrypted) f)))
      by false e f = absurd (not_both true refl f)

  -- of what is refused and has a header that is read, the end or the decrypted fields do not hold
  which_fails : (v : HeaderVersion) → version_bits p ≡ version_code v → (header_of p ≡ None → ⊥) → PacketRefused nts p end decrypted
      → (end_valid v p end ≡ false) ⊎ (decrypted_valid nts decrypted ≡ false)
  which_fails v e n (inl h) = absurd (n h)
  which_fails V3 e n (inr (inl f)) = inl (ne_eqb end 48 f.1)
  which_fails V4 e n (inr (inl f)) = absurd (omega arith)
  which_fails V3 e n (inr (inr (inl f))) = absurd (omega arith)
  which_fails V4 e n (inr (inr (inl f))) = inl (no_place (is_place p end) refl)
    where
      no_place : (t : Bool) → is_place p end ≡ t → t ≡ false
      no_place true q = absurd (f.1 ((place_iff p end).0 q))
      no_place false q = refl
  which_fails v e n (inr (inr (inr f))) = inr (rw f.0 (not_whole (decrypted_walk decrypted) f.1))

  undecodable : (uid : List ℕ) → (read_of nts uid p end decrypted ≡ None) ↔ PacketRefused nts p end decrypted
  unfolding read_of bytes_read fields
  undecodable uid = (there (header_of p) (view p) refl, back (header_of p) (view p) refl)
    where
      there : (r : Option Header) → Read p r → header_of p ≡ r → on_header (bytes_read nts uid p end decrypted) r ≡ None → PacketRefused nts p end decrypted
      there _ (short l) e q = inl e
      there _ (other a b) e q = inl e
      there _ (read v l b) e q = ⊎_elim (end_refused v b) decrypted_refused (one_fails (end_valid v p end) (decrypted_valid nts decrypted) _ q)

      back : (r : Option Header) → Read p r → header_of p ≡ r → PacketRefused nts p end decrypted → on_header (bytes_read nts uid p end decrypted) r ≡ None
      back _ (short l) e q = refl
      back _ (other a b) e q = refl
      back _ (read v l b) e q = then_refused (end_valid v p end) (decrypted_valid nts decrypted) _
          (which_fails v b (λ u. let z : ◌≡◌ {A = ℕ} 0 1 = cc in omega arith) q)

  -- the byte form is refused with number 1 of RULES exactly there, and with no other number
  -- promise: 7.7 (the byte form has 1 exactly if its header, its end or, with NTS, its decrypted fields are not valid; `refusal_of`)
  pub refused : (uid : List ℕ) (n : ℕ) → (refusal_of (read_of nts uid p end decrypted) ≡ Some n) ↔ ((n ≡ 1) × PacketRefused nts p end decrypted)
  refused uid n = (
    λ e. (let b = refused_by (read_of nts uid p end decrypted) n e in (b.0, (undecodable uid).0 b.1)),
    λ f. ap refusal_of ((undecodable uid).1 f.1) ∙ ap Some (sym f.0),
  )
