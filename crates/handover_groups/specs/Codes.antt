-- Codes of one byte (RULES, No. 6): yes or no, and the kinds of version. A reader is total; `..Known` says whether a code is known.
-- Assumes nothing.
use Rattle.std.specs.Prelude.{ℕ, Bool, ◌&&◌, ◌||◌, cond, leb, eqb}
use Rattle.version.specs.declared.ProtocolVersion.{ProtocolVersion}
use Rattle.version.specs.declared.ProtocolVersion.TheVariants.{V4, Upgrading, Upgraded, V5}

-- yes or no: 1 or 0
abbrev pub yes_code : Bool → ℕ
yes_code b = cond b 1 0

abbrev pub yes_of : ℕ → Bool
yes_of n = eqb n 1

abbrev pub yes_known : ℕ → Bool
yes_known n = leb n 1

-- a version: 0 V4, 1 upgrading, 2 upgraded, 3 V5
abbrev pub kind_code : ProtocolVersion → ℕ
kind_code V4 = 0
kind_code (Upgrading tries) = 1
kind_code Upgraded = 2
kind_code V5 = 3

-- tries is 0 unless upgrading
abbrev pub tries_code : ProtocolVersion → ℕ
tries_code V4 = 0
tries_code (Upgrading tries) = tries
tries_code Upgraded = 0
tries_code V5 = 0

abbrev pub kind_of : ℕ → ℕ → ProtocolVersion
kind_of k tries = cond (eqb k 0) V4 (cond (eqb k 1) (Upgrading tries) (cond (eqb k 2) Upgraded V5))

-- tries with another kind is an unknown code
abbrev pub kind_known : ℕ → ℕ → Bool
kind_known k tries = leb k 3 && (eqb k 1 || eqb tries 0)
