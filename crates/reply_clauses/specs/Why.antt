-- RULES, No. 3: how the three numbers in 3's place relate to each other.
-- Assumes nothing.
use Rattle.std.specs.Prelude.{◌≡◌, Bool, true, false, ℕ}
use Rattle.association.specs.declared.Pending.{Pending}
use Rattle.reply_clauses.specs.After.{no_live, never_sent, already_measured, expired}

-- one of three tests holds, and the other two do not
-- promise: no3.4
pub data OnlyOne : Bool → Bool → Bool → Type 0 where
  first : OnlyOne true false false
  second : OnlyOne false true false
  third : OnlyOne false false true

-- each old 3 is exactly one of the new, and each new one was a 3
-- promise: no3.4
pub record ToldApart (q : Pending) (time : ℕ) : Type 0 where
  pub exactly_one : no_live q time ≡ true → OnlyOne (never_sent q) (already_measured q) (expired q time)
  pub never_sent_was : never_sent q ≡ true → no_live q time ≡ true
  pub already_measured_was : already_measured q ≡ true → no_live q time ≡ true
  pub expired_was : expired q time ≡ true → no_live q time ≡ true
