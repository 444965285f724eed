-- The unanswered polls along a log (RULES, No. 8): they depend only on the numbers of its calls.
-- Assumes nothing.
use Rattle.std.specs.Prelude.{cond, List, [], ◌∷◌, ℕ, ◌+◌, min, eqb}
use Rattle.association.specs.declared.Association.{Association}
use Rattle.timer.specs.Numbers.{tries_poll}
use Rattle.laws_log.specs.Log.{Entry, timed, replied}
use Rattle.laws.specs.Association.{rule}

abbrev pub unanswered_in : Association → ℕ
unanswered_in a = a.state.effort.unanswered

-- a timer answering 20, 23 or 24 adds one up to 8, a measured reply makes it 0, and nothing else changes it
-- promise no8.5: The numbers of a log determine the unanswered polls: over any log from any record, starting at 8 for a new association.
abbrev pub count_after : ℕ → List (Entry rule) → ℕ
count_after n [] = n
count_after n (timed t k ∷ later) = count_after (cond (tries_poll k) (min (n + 1) 8) n) later
count_after n (replied r k ∷ later) = count_after (cond (eqb k 0) 0 n) later
