-- Each number of acceptance is given exactly under its rule (specs/Numbers.antt).
-- Assumes nothing.
use mathlib.Core.Path.{◌≡◌, refl, ap, subst, ◌∙◌}
use mathlib.Core.Bool.{Bool, true, false, ◌||◌}
use mathlib.Core.List.{List}
use mathlib.Core.Logic.{◌↔◌}
use Prim.Native.Nat.{ℕ}
use lib.Dec.{leb}
use Rattle.words.proofs.Tests.{or_true, either}
use Rattle.reach.specs.Register.{reachable_of}
use Rattle.association.specs.declared.Association.{Association}
use Rattle.association.specs.Record.{whole_of}
use Rattle.association_accept.specs.declared.Bloom.{Bloom}
use Rattle.std.specs.Prelude.{Result, Err}
use Rattle.std.proofs.lemmas.Bool.{or_right}
use Rattle.association_accept.specs.declared.AcceptRefusal.{AcceptRefusal}
use Rattle.association_accept.specs.declared.AcceptRefusal.TheVariants.{Loop}
use Rattle.association_accept.specs.Accept.{number_of, is_present, is_ours, served_by_us, loops, accept_seen, accept_of}
use Rattle.association_accept.specs.Numbers as N
use Rattle.association_accept.specs.Numbers.{not_whole, too_high, ours, served_by_us_lem, in_the_filter, unreached, accepted}

module _ (a : Association) (stratum : ℕ) (local : List ℕ) (bloom : Bloom) where
  abbrev Given : ℕ → Result (Unit {0}) AcceptRefusal → Type 0
  Given = N.Given a stratum local bloom

  abbrev Told : Result (Unit {0}) AcceptRefusal → Type 0
  Told r = Given (number_of r) r

  abbrev ourself : Bool
  ourself = is_ours a.state.source.stratum a.settings.source.0 local

  abbrev served_back : Bool
  served_back = served_by_us a.state.source.stratum a.state.source.refid.0 local

  abbrev looping : Bool
  looping = loops a.state.source.stratum a.settings.source.0 a.state.source.refid.0 local bloom

  -- the first of the three tests that hits
  by_test : N.Below a stratum local bloom → (o s p : Bool) → ourself ≡ o → served_back ≡ s → is_present bloom ≡ p → ((o || s) || p) ≡ true → Told (Err Loop)
  by_test b true s p eo es ep l = ours b eo
  by_test b false true p eo es ep l = served_by_us_lem b es
  by_test b false false p eo es ep l = in_the_filter b (ep ∙ l)

  -- what is given is given under the rule of its number
  -- promise: 12.1
  pub given : Told (accept_of a stratum local bloom)
  unfolding accept_seen whole_of
  given =
      either Told (whole_of a)
      (λ w. either Told (leb stratum a.state.source.stratum) (too_high w)
      (λ s. let b : N.Below a stratum local bloom = record { whole = w; below = s } in
      either Told looping (by_test b ourself served_back (is_present bloom) refl refl refl)
      (λ l. let u : N.Unlooped a stratum local bloom = record { below = b; free = l } in
      either Told (reachable_of a.state.effort.reach) (accepted u) (unreached u))))
      not_whole

  -- where a number's rule holds, that rule's answer is given
  -- promise: 12.1
  pub only : {n : ℕ} {r : Result (Unit {0}) AcceptRefusal} → Given n r → accept_of a stratum local bloom ≡ r
  unfolding accept_seen whole_of
  only (not_whole w) = rw w
  only (too_high w s) = rw (w, s)
  only (ours b l) = rw (b.whole, b.below, l)
  only (served_by_us_lem b l) = rw (b.whole, b.below, or_true (is_present bloom) (or_right ourself _ l))
  only (in_the_filter b l) = rw (b.whole, b.below, or_right (ourself || served_back) _ l)
  only (unreached u e) = rw (u.below.whole, u.below.below, u.free, e)
  only (accepted u e) = rw (u.below.whole, u.below.below, u.free, e)

  numbered : {n : ℕ} {r : Result (Unit {0}) AcceptRefusal} → Given n r → number_of r ≡ n
  numbered (not_whole w) = refl
  numbered (too_high w s) = refl
  numbered (ours b l) = refl
  numbered (served_by_us_lem b l) = refl
  numbered (in_the_filter b l) = refl
  numbered (unreached u e) = refl
  numbered (accepted u e) = refl

  -- so a number is given if and only if its rule holds
  -- promise: 12.1, 12.2 (at 41)
  pub number : (n : ℕ) → (number_of (accept_of a stratum local bloom) ≡ n) ↔ ((r : Result (Unit {0}) AcceptRefusal) × Given n r)
  number n = (
    λ e. (accept_of a stratum local bloom, subst (λ (k : ℕ). Given k (accept_of a stratum local bloom)) e given),
    λ g. ap number_of (only g.1) ∙ numbered g.1,
  )
