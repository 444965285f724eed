-- A log, and what it alone says (RULES, "The three demands"): the log holds each call's inputs and number. Nothing here depends on a record.
-- Assumes nothing.
use Rattle.std.specs.Prelude.{Bool, true, false, cond, not, ◌&&◌, ◌||◌, List, [], ◌∷◌, ℕ, suc, T, eqb, Option, Some, None}

-- What RULES says about the inputs: the request that a sent poll asks for, part 8 for a reply's identifiers, and its time at most the deadline.
pub record Rule : Type 1 where
  pub Settings : Type 0
  pub Timer : Type 0
  pub Reply : Type 0
  pub Request : Type 0
  pub asks : Settings → Timer → Request
  pub answers : Settings → Request → Reply → Bool
  pub unexpired : Request → Reply → Bool

-- A call as the log has it: its inputs and its number.
pub data Entry (D : Rule) : Type 0 where
  timed : D.Timer → ℕ → Entry D
  replied : D.Reply → ℕ → Entry D

-- Numbers: a poll is sent with 20; a reply is measured with 0; an accepted timer returns neither 31 nor 32, a well-formed reply neither 1, 32 nor 33.
abbrev pub well_formed : ℕ → Bool
well_formed n = not (eqb n 1 || eqb n 32 || eqb n 33)

abbrev pub accepted : {D : Rule} → Entry D → Bool
accepted (timed t n) = not (eqb n 31 || eqb n 32)
accepted (replied r n) = well_formed n

-- promise no3.6: Demand 3 has 12, 13 and 14 in place of 3, in all its parts.
abbrev pub refusal : ℕ → Bool
refusal n = eqb n 2 || eqb n 4 || eqb n 12 || eqb n 13 || eqb n 14

abbrev pub sent : {D : Rule} → Entry D → Bool
sent (timed t n) = eqb n 20
sent (replied r n) = false

abbrev pub measured : {D : Rule} → Entry D → Bool
measured (timed t n) = false
measured (replied r n) = eqb n 0

abbrev pub Accepted : {D : Rule} → List (Entry D) → Type 0
Accepted [] = Unit {0}
Accepted (e ∷ es) = T (accepted e) × Accepted es

abbrev pub NoPoll : {D : Rule} → List (Entry D) → Type 0
NoPoll [] = Unit {0}
NoPoll (e ∷ es) = T (not (sent e)) × NoPoll es

abbrev pub measured_in : {D : Rule} → List (Entry D) → ℕ
measured_in [] = 0
measured_in (e ∷ es) = cond (measured e) (suc (measured_in es)) (measured_in es)

-- The request that is asked for after one more call: a sent poll asks, a measured reply leaves none, and nothing else changes it.
abbrev pub next : (D : Rule) → D.Settings → Option D.Request → Entry D → Option D.Request
next D s q (timed t n) = cond (eqb n 20) (Some (D.asks s t)) q
next D s q (replied r n) = cond (eqb n 0) None q

abbrev pub asked_from : (D : Rule) → D.Settings → Option D.Request → List (Entry D) → Option D.Request
asked_from D s q [] = q
asked_from D s q (e ∷ es) = asked_from D s (next D s q e) es

-- The last poll sent, unmeasured, as a log from a new association says it.
-- promise: demand.3 (by the log alone)
abbrev pub asked : (D : Rule) → D.Settings → List (Entry D) → Option D.Request
asked D s log = asked_from D s None log

-- Whether a reply has been measured since the last sent poll (RULES, No. 3): a sent poll makes it no, a measured reply yes, and nothing else changes it.
-- promise: no3.5
abbrev pub next_answered : {D : Rule} → Bool → Entry D → Bool
next_answered w (timed t n) = cond (eqb n 20) false w
next_answered w (replied r n) = cond (eqb n 0) true w

abbrev pub answered_from : {D : Rule} → Bool → List (Entry D) → Bool
answered_from w [] = w
answered_from w (e ∷ es) = answered_from (next_answered w e) es

-- Why a reply has no live request: 12 never sent, 13 already measured, 14 deadline before now; 0 if what is asked for is unexpired.
-- promise no3.5: By the log alone, from a new association: 12 exactly if no poll was sent; 13 if one was sent and measured since; 14 if the last one sent is
--     unmeasured and its deadline < now. This holds of each reply that was read, with an unbroken list and an expected version.
--     edit: laws_log/a_measured_poll_was_never_sent
abbrev pub reason : (D : Rule) → Option D.Request → Bool → D.Reply → ℕ
reason D None false r = 12
reason D None true r = 13
reason D (Some q) w r = cond (D.unexpired q r) 0 14

-- Which of these a number says, 0 if none; and the numbers of replies that get this far: well-formed, and of a version that is expected (not 2).
abbrev pub says : ℕ → ℕ
says n = cond (eqb n 12 || eqb n 13 || eqb n 14) n 0

-- promise: no3.5
abbrev pub considered : ℕ → Bool
considered n = well_formed n && not (eqb n 2)

-- The reply answers what is asked for, in time.
abbrev pub live : (D : Rule) → D.Settings → Option D.Request → D.Reply → Bool
live D s None r = false
live D s (Some q) r = D.unexpired q r && D.answers s q r

abbrev pub strikes : (D : Rule) → D.Settings → Option D.Request → Entry D → Bool
strikes D s q (timed t n) = false
strikes D s q (replied r n) = not (live D s q r)

-- Whether an entry is struck, given the log before it: it is a reply that does not answer the last poll sent, unmeasured and unexpired.
-- promise: demand.3
abbrev pub struck : (D : Rule) → D.Settings → List (Entry D) → Entry D → Bool
struck D s before e = strikes D s (asked D s before) e

-- Each entry of a log with its mark, true if it is struck; and a list without what is marked.
abbrev pub marks_from : (D : Rule) → D.Settings → Option D.Request → List (Entry D) → List Bool
marks_from D s q [] = []
marks_from D s q (e ∷ es) = strikes D s q e ∷ marks_from D s (next D s q e) es

abbrev pub marks : (D : Rule) → D.Settings → List (Entry D) → List Bool
marks D s log = marks_from D s None log

abbrev pub strike : {A : Type 0} → List Bool → List A → List A
strike [] xs = xs
strike (m ∷ ms) [] = []
strike (true ∷ ms) (x ∷ xs) = strike ms xs
strike (false ∷ ms) (x ∷ xs) = x ∷ strike ms xs

-- promise: demand.3
abbrev pub shorter : (D : Rule) → D.Settings → List (Entry D) → List (Entry D)
shorter D s log = strike (marks D s log) log
