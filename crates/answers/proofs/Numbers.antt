-- The number of an answer: as a definition over the whole answer gives it, and 0 only where nothing was refused.
-- Assumes nothing.
use Rattle.std.specs.Prelude.{◌≡◌, ◌≢◌, ℕ, true, Result, Ok, Err, is_ok}
use Rattle.std.proofs.Common.{refl, sym}
use Rattle.answers.specs.Answers.{number_in}

-- a definition over the whole answer that is 0 at Ok is its number
pub number_in_is : {T E : Type 0} (of : Result T E → ℕ) → ((value : T) → of (Ok value) ≡ 0) → (answer : Result T E) →
    number_in (λ refusal. of (Err refusal)) answer ≡ of answer
number_in_is of zero_at_ok (Ok value) = sym (zero_at_ok value)
number_in_is of zero_at_ok (Err refusal) = refl

-- 0 is the number of nothing but Ok
-- promise: answers.1
pub zero_is_ok : {T E : Type 0} (of : E → ℕ) → ((refusal : E) → of refusal ≢ 0) → (answer : Result T E) → number_in of answer ≡ 0 → is_ok answer ≡ true
zero_is_ok of never_zero (Ok value) zero = refl
zero_is_ok of never_zero (Err refusal) zero = absurd (never_zero refusal zero)
