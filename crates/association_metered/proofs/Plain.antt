-- A metered association is a plain one (RULES, No. 11): the call gives the check's number, on 0 the very record that `new` makes, and on any other number the
-- blank one.
-- So what is proved of every record that `new` gives is proved of every one that this call gives.
-- Assumes nothing.
use mathlib.Core.Path.{◌≡◌, refl, sym, ap, subst}
use mathlib.Core.Bool.{Bool, true, false}
use mathlib.Core.List.{List, []}
use mathlib.Core.Logic.{◌⊎◌, inl, inr}
use Prim.Native.Nat.{ℕ}
use native.Mathlib.Omega.{arith}
use lib.Dec.{eqb}
use borrow.Author.Tests.{eq-eqb, ne_eqb, eqb-true, eqb-false}
use Rattle.words.proofs.Tests.{when, unless}
use Rattle.association.specs.declared.Settings.{Settings}
use Rattle.association.specs.declared.Association.{Association}
use Rattle.association.specs.declared.NewOut.{NewOut}
use Rattle.association.specs.Settings.{settings_valid}
use Rattle.association.specs.Record.{blank_of}
use Rattle.association.specs.Numbers.{bad_settings, made}
use Rattle.association.specs.Whole.{Whole}
use Rattle.association.specs.New as new
use Rattle.association.proofs.New.{new_gives}
use Rattle.association.proofs.Numbers as plain
use Rattle.std.specs.Prelude.{Result}
use Rattle.association_metered.specs.declared.ProfileRefusal.{ProfileRefusal}
use Rattle.association_metered.specs.Profile.{number_of, profile_of, metered_of}
use Rattle.association_metered.specs.Numbers as N
use Rattle.association_metered.specs.Numbers.{bad_settings, broken_list, low_poll_min_lem, high_startup_lem, upgrading_start, long_cookie_lem, met}
use Rattle.association_metered.proofs.Numbers.{given}

module _ (s : Settings) (list : List ℕ) where
  -- the call gives the check's answer, whatever it is
  -- promise: no11.2
  pub same_answer : (metered_of s list).answer ≡ profile_of s list
  unfolding metered_of
  same_answer = refl

  -- promise no11.3: On 0 of `metered` the record is the one that the plain call makes of the same settings and list.
  pub same_record : number_of (profile_of s list) ≡ 0 → (metered_of s list).association ≡ (new.new_of s list).association
  unfolding metered_of
  same_record e = when _ _ (eq-eqb _ _ e)

  -- with what the plain call says fell out of the list
  -- promise: no5.5, no11.3 (what fell out of the list too)
  pub same_dropped : number_of (profile_of s list) ≡ 0 → (metered_of s list).dropped ≡ (new.new_of s list).dropped
  unfolding metered_of
  same_dropped e = when _ _ (eq-eqb _ _ e)

  -- on any other number it is the blank one
  -- promise: no11.2
  pub refused_blank : (number_of (profile_of s list) ≡ 0 → ⊥) → (metered_of s list).association ≡ blank_of
  unfolding metered_of
  refused_blank u = unless _ _ (ne_eqb _ _ u)

  -- what was tested before a 0
  passed : {n : ℕ} {r : Result (Unit {0}) ProfileRefusal} → N.Given s list n r → n ≡ 0 → N.Settled s list
  passed (bad_settings v) e = absurd (omega arith)
  passed (broken_list v b) e = absurd (omega arith)
  passed (low_poll_min_lem p t) e = absurd (omega arith)
  passed (high_startup_lem w t) e = absurd (omega arith)
  passed (upgrading_start f t) e = absurd (omega arith)
  passed (long_cookie_lem d t) e = absurd (omega arith)
  passed (met d t) e = d

  pub settled : number_of (profile_of s list) ≡ 0 → N.Settled s list
  settled e = passed (given s list) e

  -- and there the plain call answers 0 too
  -- promise: no11.3 (the plain call answers 0 too)
  pub plain_made : number_of (profile_of s list) ≡ 0 → new.number_of (new.new_of s list).answer ≡ 0
  plain_made e = let d = settled e in let p = d.brief.slow.plain in (plain.number s list 0).1 (_, made p.valid p.unbroken d.start)

  -- with a whole record
  -- promise: no11.3
  pub metered_whole : number_of (profile_of s list) ≡ 0 → Whole (metered_of s list).association
  metered_whole e = subst Whole (sym (same_record e)) (by (new_gives s list))
    where
      by : ((new.number_of (new.new_of s list).answer ≡ 0) × Whole (new.new_of s list).association)
          ⊎ ((new.number_of (new.new_of s list).answer ≡ 0 → ⊥) × ((new.new_of s list).association ≡ blank_of)) →
          Whole (new.new_of s list).association
      by (inl w) = w.1
      by (inr w) = absurd (w.0 (plain_made e))

-- a record that the plain call gives, of some settings and list
pub record OfNew (a : Association) : Type 0 where
  pub settings : Settings
  pub list : List ℕ
  pub same : a ≡ (new.new_of settings list).association

blank_bad : settings_valid blank_of.settings ≡ false
unfolding settings_valid blank_of
blank_bad = refl

-- the blank one is what it gives to settings outside the ranges, such as the blank record's own
blank_of_new : OfNew blank_of
blank_of_new =
    record {
      settings = blank_of.settings;
      list = [];
      same = sym (ap (λ (o : NewOut). o.association) (plain.only blank_of.settings [] (bad_settings blank_bad)));
    }

-- every record that this call gives the plain one gives too
-- promise: no11.4 (every record of this call is one of the plain call, the blank one too)
pub of_new : (s : Settings) (list : List ℕ) → OfNew (metered_of s list).association
of_new s list = by (eqb (number_of (profile_of s list)) 0) refl
  where
    by : (b : Bool) → eqb (number_of (profile_of s list)) 0 ≡ b → OfNew (metered_of s list).association
    by true e = record { settings = s; list = list; same = same_record s list (eqb-true _ _ e) }
    by false e = subst OfNew (sym (refused_blank s list (eqb-false _ _ e))) blank_of_new

-- so what holds of every record of the plain call holds of every one of this call: proved once over both
-- promise: no11.4 (what holds of every record of the plain call holds of every one of this call)
pub once_over_both : (P : Association → Type 0) → ((s : Settings) (list : List ℕ) → P (new.new_of s list).association) → (s : Settings) (list : List ℕ) →
    P (metered_of s list).association
once_over_both P p s list = let o = of_new s list in subst P (sym o.same) (p o.settings o.list)
