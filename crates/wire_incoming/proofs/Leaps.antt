-- A leap kind's number is read as the kind, and no other number is read as one.
-- Assumes nothing.
use Rattle.std.proofs.Common.{◌≡◌, refl, ap, sym, ◌∙◌, ℕ, zero, suc, Result, Ok, Err, rules}
use Rattle.wire_incoming.specs.declared.NtpLeapIndicator.{NtpLeapIndicator}
use Rattle.wire_incoming.specs.declared.NtpLeapIndicator.TheVariants.{NoWarning, Leap61, Leap59, Unknown, Unsynchronized}
use Rattle.wire_incoming.specs.declared.UnknownLeap.{UnknownLeap}
use Rattle.wire_incoming.specs.Incoming.{leap_printed, leap_coded}

-- promise: exports.7
pub printed_is_read : (leap : NtpLeapIndicator) → leap_coded (leap_printed leap) ≡ Ok leap
printed_is_read NoWarning = refl
printed_is_read Leap61 = refl
printed_is_read Leap59 = refl
printed_is_read Unknown = refl
printed_is_read Unsynchronized = refl

-- the number of what is read
abbrev number_in : Result NtpLeapIndicator UnknownLeap → ℕ
number_in (Ok leap) = leap_printed leap
number_in (Err unknown) = unknown.0

number_again : (n : ℕ) → number_in (leap_coded n) ≡ n
number_again zero = refl
number_again (suc zero) = refl
number_again (suc (suc zero)) = refl
number_again (suc (suc (suc zero))) = refl
number_again (suc (suc (suc (suc zero)))) = refl
number_again (suc (suc (suc (suc (suc n))))) = search rules

-- promise: exports.7
pub read_is_printed : (n : ℕ) (leap : NtpLeapIndicator) → leap_coded n ≡ Ok leap → leap_printed leap ≡ n
read_is_printed n leap read = sym (ap number_in read) ∙ number_again n
