-- Nine timers in a row (RULES, No. 14): which timers count, what may come between them, and what one of them answers. Nothing here depends on a record.
-- Assumes nothing.
use Rattle.std.specs.Prelude.{◌≡◌, Bool, cond, ◌||◌, List, [], ◌∷◌, ◌++◌, ℕ, suc, ◌≤◌, T, eqb}
use Rattle.laws_log.specs.Log.{Rule, Entry, timed, replied}
use Rattle.laws_log.specs.Why.{NoZero}
use Rattle.laws_log.specs.Machine.{Machine, Call, log_of}

-- a timer is rejected with 31 or 32
-- promise no14.7: Nine timers: among any nine timers in a row that were not rejected, with no reply measured between the first and the ninth, one answers 21,
--     22, 23 or 24. That nine is the least is run: `drills/nine-timers.drill`.
--     edit: laws/eight_timers_are_enough, laws/a_timer_of_a_broken_record_counts
abbrev pub refused : ℕ → Bool
refused n = eqb n 31 || eqb n 32

-- how many timers of a log were not rejected
-- promise: no14.7
abbrev pub timers_in : {D : Rule} → List (Entry D) → ℕ
timers_in [] = 0
timers_in (timed t n ∷ es) = cond (refused n) (timers_in es) (suc (timers_in es))
timers_in (replied r n ∷ es) = timers_in es

-- a reset is 21, 23 or 24, and a demobilize is 22
-- promise: no14.7
abbrev pub gives_up : ℕ → Bool
gives_up n = eqb n 21 || eqb n 22 || eqb n 23 || eqb n 24

-- a timer of the log answered one of these
-- promise: no14.7
pub record GaveUp {D : Rule} (log : List (Entry D)) : Type 0 where
  pub older : List (Entry D)
  pub newer : List (Entry D)
  pub poll : D.Timer
  pub number : ℕ
  pub parts : log ≡ older ++ timed poll number ∷ newer
  pub gave_up : T (gives_up number)

-- in any stretch of the log that has nine such timers and no measured reply. Between them may be anything else that a log has: rejected timers, and replies of
-- any number but 0
-- promise: no14.7
abbrev pub NineTimers : {D : Rule} (M : Machine D) → M.Record → List (Call D) → Type 0
NineTimers {D} M a calls =
    (before nine behind : List (Entry D)) → log_of M a calls ≡ before ++ (nine ++ behind) → NoZero nine → 9 ≤ timers_in nine → GaveUp nine
