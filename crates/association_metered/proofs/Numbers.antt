-- Each number of the check is given exactly under its rule (specs/Numbers.antt).
-- Assumes nothing.
use mathlib.Core.Path.{◌≡◌, refl, ap, subst, ◌∙◌}
use mathlib.Core.List.{List}
use mathlib.Core.Logic.{◌↔◌}
use Prim.Native.Nat.{ℕ}
use Rattle.words.proofs.Tests.{either}
use Rattle.cookielist.specs.List.{list_broken}
use Rattle.version.specs.Upgrade.{upgrading}
use Rattle.association.specs.declared.Settings.{Settings}
use Rattle.association.specs.Settings.{settings_valid}
use Rattle.std.specs.Prelude.{Result}
use Rattle.association_metered.specs.declared.ProfileRefusal.{ProfileRefusal}
use Rattle.association_metered.specs.Profile.{number_of, low_poll_min, high_startup, long_cookie, profile_of}
use Rattle.association_metered.specs.Numbers as N
use Rattle.association_metered.specs.Numbers.{bad_settings, broken_list, low_poll_min_lem, high_startup_lem, upgrading_start, long_cookie_lem, met}

module _ (s : Settings) (list : List ℕ) where
  abbrev Given : ℕ → Result (Unit {0}) ProfileRefusal → Type 0
  Given = N.Given s list

  abbrev Told : Result (Unit {0}) ProfileRefusal → Type 0
  Told r = Given (number_of r) r

  -- what is given is given under the rule of its number
  -- promise: no11.1
  pub given : Told (profile_of s list)
  unfolding profile_of
  given =
      either Told (settings_valid s)
      (λ v. either Told (list_broken s.nts list) (broken_list v)
      (λ b. let p : N.Plain s list = record { valid = v; unbroken = b } in
      either Told (low_poll_min s) (low_poll_min_lem p)
      (λ m. let w : N.Slow s list = record { plain = p; min = m } in
      either Told (high_startup s) (high_startup_lem w)
      (λ h. let f : N.Brief s list = record { slow = w; startup = h } in
      either Told (upgrading s.start.kind) (upgrading_start f)
      (λ u. let d : N.Settled s list = record { brief = f; start = u } in
      either Told (long_cookie s.nts list) (long_cookie_lem d) (met d))))))
      bad_settings

  -- where a number's rule holds, that rule's answer is given
  -- promise: no11.1
  pub only : {n : ℕ} {r : Result (Unit {0}) ProfileRefusal} → Given n r → profile_of s list ≡ r
  unfolding profile_of
  only (bad_settings v) = rw v
  only (broken_list v b) = rw (v, b)
  only (low_poll_min_lem p e) = rw (p.valid, p.unbroken, e)
  only (high_startup_lem w e) = rw (w.plain.valid, w.plain.unbroken, w.min, e)
  only (upgrading_start f e) = let w = f.slow in rw (w.plain.valid, w.plain.unbroken, w.min, f.startup, e)
  only (long_cookie_lem d e) = let f = d.brief in let w = f.slow in rw (w.plain.valid, w.plain.unbroken, w.min, f.startup, d.start, e)
  only (met d e) = let f = d.brief in let w = f.slow in rw (w.plain.valid, w.plain.unbroken, w.min, f.startup, d.start, e)

  numbered : {n : ℕ} {r : Result (Unit {0}) ProfileRefusal} → Given n r → number_of r ≡ n
  numbered (bad_settings v) = refl
  numbered (broken_list v b) = refl
  numbered (low_poll_min_lem p e) = refl
  numbered (high_startup_lem w e) = refl
  numbered (upgrading_start f e) = refl
  numbered (long_cookie_lem d e) = refl
  numbered (met d e) = refl

  -- so a number is given if and only if its rule holds
  -- promise: no11.1, no14.2 (at 36)
  pub number : (n : ℕ) → (number_of (profile_of s list) ≡ n) ↔ ((r : Result (Unit {0}) ProfileRefusal) × Given n r)
  number n = (
    λ e. (profile_of s list, subst (λ (k : ℕ). Given k (profile_of s list)) e given),
    λ g. ap number_of (only g.1) ∙ numbered g.1,
  )
