-- What demand 3 says about any calls made to a record of a machine. What is struck depends only on the log, its inputs and numbers.
-- Assumes nothing.
use Rattle.std.specs.Prelude.{◌≡◌, true, false, List, ◌∷◌, ◌++◌, ℕ, ◌≤◌, T}
use Rattle.laws_log.specs.Log.{Rule, Entry, replied, refusal, NoPoll, measured_in, struck, marks, strike, shorter}
use Rattle.laws_log.specs.Machine.{Machine, Call, Done, of_reply, calls_of, note, logged, run, after, log_of}

-- promise demand.3: Striking: a log from a new or a loaded association, without the replies that answer no live poll, gives the same end and the same
--     answers. None of these replies caused an action.
--     edit: laws_log/the_end_is_the_start, laws_log/nothing_was_struck, laws_log/a_kept_reply_is_quiet, laws_log/no_reply_is_measured,
--       laws_log/struck_past_the_next_poll, laws_log/unasked_is_answered, laws_log/measured_leaves_it_asked, laws_log/a_refusal_measures,
--       laws/the_log_forgets_the_window, laws/a_reply_is_measured_twice, laws/a_poll_is_not_remembered, laws/the_bytes_handed_out_are_left_out
pub record Demand3 {D : Rule} (M : Machine D) (a : M.Record) (calls : List (Call D)) : Type 0 where
  -- the shorter log gives the same end record
  -- promise: demand.3
  pub same_end : after M a (calls_of (shorter D (M.settings a) (log_of M a calls))) ≡ after M a calls
  -- and the same answer to all that remains
  -- promise: demand.3
  pub same_answers : run M a (calls_of (shorter D (M.settings a) (log_of M a calls))) ≡ strike (marks D (M.settings a) (log_of M a calls)) (run M a calls)
  -- and so the shorter log is itself the log of what it holds
  -- promise: demand.3
  pub same_log : log_of M a (calls_of (shorter D (M.settings a) (log_of M a calls))) ≡ shorter D (M.settings a) (log_of M a calls)
  -- a struck reply caused no action
  -- promise: demand.3
  pub no_action : (before behind : List (Done M)) (r : D.Reply) (x : M.ReplyAnswer) → run M a calls ≡ before ++ of_reply r x ∷ behind →
      struck D (M.settings a) (logged M before) (note M (of_reply r x)) ≡ true → M.Quiet x × T (refusal (M.reply_number x))
  -- in a stretch with no sent poll at most one reply is measured
  -- promise: demand.3
  pub one_measured : (before mid behind : List (Entry D)) → log_of M a calls ≡ before ++ (mid ++ behind) → NoPoll mid → measured_in mid ≤ 1
  -- it is not struck
  -- promise: demand.3
  pub measured_kept : (before behind : List (Entry D)) (r : D.Reply) → log_of M a calls ≡ before ++ replied r 0 ∷ behind →
      struck D (M.settings a) before (replied r 0) ≡ false
  -- and is the last such: each reply after it, with no sent poll between, is struck, and not measured
  -- promise: demand.3
  pub rest_struck : (before mid behind : List (Entry D)) (r r' : D.Reply) (n : ℕ) →
      log_of M a calls ≡ before ++ replied r 0 ∷ (mid ++ replied r' n ∷ behind) → NoPoll mid →
      (struck D (M.settings a) (before ++ replied r 0 ∷ mid) (replied r' n) ≡ true) × (n ≡ 0 → ⊥)
