-- Each number of `new` is given exactly under its rule (specs/Numbers.antt).
-- Assumes nothing.
use mathlib.Core.Path.{◌≡◌, refl, ap, subst, ◌∙◌}
use mathlib.Core.List.{List}
use mathlib.Core.Logic.{◌↔◌}
use Prim.Native.Nat.{ℕ}
use native.Mathlib.Omega.{arith}
use Rattle.words.proofs.Tests.{either}
use Rattle.cookielist.specs.List.{list_broken}
use Rattle.version.specs.Upgrade.{upgrading}
use Rattle.association.specs.declared.Settings.{Settings}
use Rattle.association.specs.declared.NewOut.{NewOut}
use Rattle.association.specs.Settings.{settings_valid}
use Rattle.association.specs.New.{number_of, new_made, new_of}
use Rattle.association.specs.Numbers as N
use Rattle.association.specs.Numbers.{bad_settings, broken_list, retired, made}

module _ (s : Settings) (list : List ℕ) where
  abbrev Given : ℕ → NewOut → Type 0
  Given = N.Given s list

  abbrev Told : NewOut → Type 0
  Told o = Given (number_of o.answer) o

  -- what is given is given under the rule of its number
  -- promise: whole.4, no14.1
  pub given : Told (new_of s list)
  unfolding new_of
  given =
      either Told (settings_valid s)
      (λ v. either Told (list_broken s.nts list) (broken_list v) (λ b. either Told (upgrading s.start.kind) (retired v b) (made v b)))
      bad_settings

  -- where a number's rule holds, that rule's answer and record are given
  -- promise: whole.4, no14.1
  pub only : {n : ℕ} {o : NewOut} → Given n o → new_of s list ≡ o
  unfolding new_of
  only (bad_settings v) = rw v
  only (broken_list v b) = rw (v, b)
  only (retired v b u) = rw (v, b, u)
  only (made v b u) = rw (v, b, u)

  numbered : {n : ℕ} {o : NewOut} → Given n o → number_of o.answer ≡ n
  numbered (bad_settings v) = refl
  numbered (broken_list v b) = refl
  numbered (retired v b u) = refl
  numbered (made v b u) = refl

  -- so a number is given if and only if its rule holds
  -- promise: whole.4 (each number exactly under its rule, `specs/Numbers`: `Given`), no14.1
  pub number : (n : ℕ) → (number_of (new_of s list).answer ≡ n) ↔ ((o : NewOut) × Given n o)
  number n = (
    λ e. (new_of s list, subst (λ (k : ℕ). Given k (new_of s list)) e given),
    λ g. ap (λ (o : NewOut). number_of o.answer) (only g.1) ∙ numbered g.1,
  )

  -- 0 makes the association
  pub is_made : number_of (new_of s list).answer ≡ 0 → new_of s list ≡ new_made s list
  is_made = by given
    where
      by : {n : ℕ} {o : NewOut} → Given n o → n ≡ 0 → o ≡ new_made s list
      by (bad_settings v) e = absurd (omega arith)
      by (broken_list v b) e = absurd (omega arith)
      by (retired v b u) e = absurd (omega arith)
      by (made v b u) e = refl
