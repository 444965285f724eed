-- Codes: what is written is read back, and is of a kind; a code of a kind is written as it was read.
-- Assumes nothing.
use Prim.Native.Nat.{ℕ, zero, suc}
use mathlib.Core.Path.{◌≡◌, refl, sym}
use mathlib.Core.Bool.{Bool, true, false}
use native.Mathlib.Omega.{arith}
use borrow.Author.Tests.{leb-true, eqb-true}
use mir.Val.{bool_byte}
use Rattle.words.proofs.Tests.{both}
use Rattle.version.specs.declared.ProtocolVersion.{ProtocolVersion}
use Rattle.version.specs.declared.ProtocolVersion.TheVariants.{V4, Upgrading, Upgraded, V5}
use Rattle.handover_groups.specs.Codes.{yes_code, yes_of, yes_known, kind_code, tries_code, kind_of, kind_known}

-- ---- yes or no

pub yes_byte : (b : Bool) → bool_byte b ≡ yes_code b
yes_byte true = refl
yes_byte false = refl

pub yes_kept : (b : Bool) → (yes_of (yes_code b) ≡ b) × (yes_known (yes_code b) ≡ true)
yes_kept true = (refl, refl)
yes_kept false = (refl, refl)

pub yes_again : (n : ℕ) → yes_known n ≡ true → yes_code (yes_of n) ≡ n
yes_again zero e = refl
yes_again (suc zero) e = refl
yes_again (suc (suc n)) e = absurd (omega (arith, leb-true (suc (suc n)) 1 e))

-- ---- versions

pub kind_kept : (k : ProtocolVersion) → (kind_of (kind_code k) (tries_code k) ≡ k) × (kind_known (kind_code k) (tries_code k) ≡ true)
kind_kept V4 = (refl, refl)
kind_kept (Upgrading tries) = (refl, refl)
kind_kept Upgraded = (refl, refl)
kind_kept V5 = (refl, refl)

pub kind_again : (k tries : ℕ) → kind_known k tries ≡ true → (kind_code (kind_of k tries) ≡ k) × (tries_code (kind_of k tries) ≡ tries)
kind_again zero tries e = (refl, sym (eqb-true tries 0 e))
kind_again (suc zero) tries e = (refl, refl)
kind_again (suc (suc zero)) tries e = (refl, sym (eqb-true tries 0 e))
kind_again (suc (suc (suc zero))) tries e = (refl, sym (eqb-true tries 0 e))
kind_again (suc (suc (suc (suc k)))) tries e = absurd (omega (arith, leb-true (suc (suc (suc (suc k)))) 3 (both _ _ e).0))
