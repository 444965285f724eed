-- The number of an answer.
-- Assumes nothing.
use Rattle.std.specs.Prelude.{ℕ, Result, Ok, Err}

-- promise answers.1: The number of an answer is 0 if nothing was refused, and otherwise that of the refusal, which is never 0.
--     edit: answers/an_accepted_answer_is_a_refusal, answers/a_refusal_is_taken_for_nothing
abbrev pub number_in : {T E : Type 0} → (E → ℕ) → Result T E → ℕ
number_in of (Ok _) = 0
number_in of (Err refusal) = of refusal
