-- A file that loads begins with 26 or 27 bytes of settings (RULES, No. 6 and No. 12).
-- Assumes nothing.
use Prim.Native.Nat.{ℕ}
use mathlib.Core.Path.{◌≡◌, refl, ap, ◌∙◌}
use mathlib.Core.Bool.{Bool, true, false, ◌||◌}
use mathlib.Core.List.{List, [], ◌∷◌, ◌++◌}
use mathlib.Core.Logic.{◌⊎◌, inl, inr}
use native.Mathlib.Omega.{arith}
use borrow.Author.Tests.{eqb-true}
use lib.Dec.{eqb}
use lib.ListN.{length}
use Rattle.words.specs.Bytes.{to_be}
use Rattle.words.specs.Put.{record_of}
use Rattle.words.proofs.Bytes.{Bytes}
use Rattle.handover_file.specs.declared.LoadOut.{LoadOut}
use Rattle.handover_file.specs.Answers.{load_number, load_of}
use Rattle.handover_file.specs.Numbers.{LoadGiven, wrong_mark, wrong_length, left_over, no_association, association}
use Rattle.handover_file.proofs.Numbers.{load_given}

-- the file starts with the mark S E, a length of 26 or 27 in two bytes, and a body so long
pub record SettingsLong (f : List ℕ) : Type 0 where
  pub body : List ℕ
  pub rest : List ℕ
  pub file : f ≡ 0x53 ∷ 0x45 ∷ 0 ∷ length body ∷ (body ++ rest)
  pub long : (length body ≡ 26) ⊎ (length body ≡ 27)

one_of : (n : ℕ) (t : Bool) → eqb n 27 ≡ t → (t || eqb n 26) ≡ true → (n ≡ 26) ⊎ (n ≡ 27)
one_of n true e f = inr (eqb-true n 27 e)
one_of n false e f = inl (eqb-true n 26 f)

in_two : (n : ℕ) → (n ≡ 26) ⊎ (n ≡ 27) → to_be 2 n ≡ 0 ∷ n ∷ []
in_two n (inl e) = rw e
in_two n (inr e) = rw e

begins : (f b rest : List ℕ) → f ≡ record_of 0x5345 b ++ rest → (length b ≡ 26) ⊎ (length b ≡ 27) → SettingsLong f
unfolding record_of
begins f b rest e h = record { body = b; rest = rest; file = e ∙ ap (λ (q : List ℕ). 0x53 ∷ 0x45 ∷ (q ++ (b ++ rest))) (in_two (length b) h); long = h }

long_by : (f : List ℕ) {n : ℕ} {o : LoadOut} → LoadGiven f n o → n ≡ 0 → SettingsLong f
long_by f (wrong_mark ss ts s bs l e g h d) z = absurd (omega arith)
long_by f (wrong_length ss ts s bs l e g x) z = absurd (omega arith)
long_by f (left_over bs l g h) z = absurd (omega arith)
long_by f (no_association bs g e w) z = absurd (omega arith)
long_by f (association [] g e w) z = absurd g
long_by f (association (b ∷ bs) g e w) z = begins f b _ e (one_of (length b) (eqb (length b) 27) refl g.2)

pub settings_26_or_27 : (f : List ℕ) → Bytes f → load_number (load_of f).answer ≡ 0 → SettingsLong f
settings_26_or_27 f y e = long_by f (load_given f y) e
