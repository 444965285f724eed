-- What No. 3 says about any calls made to a record of a machine, from the log alone: why a reply had no live request.
-- Assumes nothing.
use Rattle.std.specs.Prelude.{◌≡◌, false, not, List, [], ◌∷◌, ◌++◌, ◌↔◌, ℕ, T}
use Rattle.laws_log.specs.Log.{Rule, Entry, timed, replied, measured, NoPoll, considered}
use Rattle.laws_log.specs.Machine.{Machine, Call, log_of}

abbrev pub NoZero : {D : Rule} → List (Entry D) → Type 0
NoZero [] = Unit {0}
NoZero (e ∷ es) = T (not (measured e)) × NoZero es

module _ {D : Rule} where
  -- a poll was sent, and a reply has been measured since the last one
  -- promise: no3.5
  pub record Answered (log : List (Entry D)) : Type 0 where
    pub older : List (Entry D)
    pub since : List (Entry D)
    pub reply : D.Reply
    pub parts : log ≡ older ++ replied reply 0 ∷ since
    pub polled : NoPoll older → ⊥
    pub last : NoPoll since

  -- the last poll sent is unmeasured, and its deadline is before the reply's now
  -- promise: no3.5
  pub record Late (s : D.Settings) (log : List (Entry D)) (r : D.Reply) : Type 0 where
    pub older : List (Entry D)
    pub since : List (Entry D)
    pub poll : D.Timer
    pub parts : log ≡ older ++ timed poll 20 ∷ since
    pub last : NoPoll since
    pub unmeasured : NoZero since
    pub passed : D.unexpired (D.asks s poll) r ≡ false

-- For each reply that was read, with a list that is not broken and of a version that is expected.
-- promise: no3.5
pub record Why {D : Rule} (M : Machine D) (a : M.Record) (calls : List (Call D)) : Type 0 where
  pub never_sent_lem : (before behind : List (Entry D)) (r : D.Reply) (n : ℕ) → log_of M a calls ≡ before ++ replied r n ∷ behind → T (considered n) →
      (n ≡ 12) ↔ NoPoll before
  pub already_measured_lem : (before behind : List (Entry D)) (r : D.Reply) (n : ℕ) → log_of M a calls ≡ before ++ replied r n ∷ behind → T (considered n) →
      (n ≡ 13) ↔ Answered before
  pub late : (before behind : List (Entry D)) (r : D.Reply) (n : ℕ) → log_of M a calls ≡ before ++ replied r n ∷ behind → T (considered n) →
      (n ≡ 14) ↔ Late (M.settings a) before r
