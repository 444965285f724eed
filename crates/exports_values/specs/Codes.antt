-- Numbers for what a caller cannot be trusted to write: a version is a kind and the tries left, a boolean is 0 or 1. Each value has one form.
-- Assumes nothing.
use Rattle.std.specs.Prelude.{Bool, true, ◌&&◌, cond, ℕ, eqb, leb}
use Rattle.version.specs.declared.ProtocolVersion.{ProtocolVersion}
use Rattle.version.specs.declared.ProtocolVersion.TheVariants.{V4, Upgrading, Upgraded, V5}
use Rattle.version.specs.declared.Version.{Version}
use Rattle.handover_groups.specs.Codes.{kind_code, tries_code}
use Rattle.version.specs.declared.SendKind.{SendKind}
use Rattle.version.specs.declared.SendKind.TheVariants as S

-- 0 V4, 1 upgrading with so many tries left, 2 upgraded, 3 V5; only upgrading has tries left
abbrev pub is_kind : ℕ → ℕ → Bool
is_kind kind left = cond (eqb kind 1) true (leb kind 3 && eqb left 0)

abbrev pub kind_in : ℕ → ℕ → ProtocolVersion
kind_in kind left = cond (eqb kind 1) (Upgrading left) (cond (eqb kind 2) Upgraded (cond (eqb kind 3) V5 V4))

-- promise: exports.7
abbrev pub version_in : ℕ → ℕ → Version
version_in kind left = record { kind = kind_in kind left }

abbrev pub kind_out : ProtocolVersion → ℕ
kind_out = kind_code

abbrev pub left_out : ProtocolVersion → ℕ
left_out = tries_code

abbrev pub is_bit : ℕ → Bool
is_bit n = leb n 1

abbrev pub truth : ℕ → Bool
truth n = eqb n 1

abbrev pub bit_of : Bool → ℕ
bit_of b = cond b 1 0

-- what a request is written as: 1 V4, 2 V4 with the upgrade mark, 4 NTS V4; V5 is not written, so every other code gives V5
-- promise: exports.10
abbrev pub send_in : ℕ → SendKind
send_in code = cond (eqb code 1) S.V4 (cond (eqb code 2) S.V4Upgrade (cond (eqb code 4) S.NtsV4 S.V5))
