-- The unanswered polls along any log (RULES, No. 8): the numbers of the calls tell them; and from a whole record they stay the trailing zeros of reach.
-- Assumes nothing.
use mathlib.Core.Path.{◌≡◌, refl, ap, ◌∙◌}
use mathlib.Core.List.{List, [], ◌∷◌}
use Rattle.std.specs.Prelude.{Ok}
use Prim.Native.Nat.{ℕ}
use lib.ListN.{length}
use Rattle.reach.specs.Register.{unanswered_of}
use Rattle.association.specs.declared.Settings.{Settings}
use Rattle.association.specs.declared.Association.{Association}
use Rattle.association.specs.Whole.{Whole}
use Rattle.association.specs.New.{number_of, new_of}
use Rattle.association.proofs.New.{new_unanswered}
use Rattle.timer.proofs.After.{rang}
use Rattle.timer.proofs.Kept.{timer_whole}
use Rattle.reply.proofs.Numbers.{given}
use Rattle.reply.proofs.After.{heard}
use Rattle.reply.proofs.Kept.{reply_whole}
use Rattle.laws_log.specs.Machine as M
use Rattle.laws.specs.Association.{arrival_of, rule, machine}
use Rattle.laws.proofs.Bridge.{Ran, ran_is_run}
use Rattle.laws.specs.Unanswered.{unanswered_in, count_after}
use Rattle.laws.proofs.Along.{along}
use Rattle.laws.proofs.Rate.{read_by}

-- ---- the numbers tell them

-- over any log from any record, whole or not, refused calls and all
-- promise: no8.5
pub count_along : (a : Association) (calls : List (M.Call rule)) →
    unanswered_in (M.after machine a calls) ≡ count_after (unanswered_in a) (M.log_of machine a calls)
count_along a [] = refl
count_along a (M.timer t ∷ cs) =
    let next = M.step machine a (M.timer t) in
    count_along next cs ∙ ap (λ (n : ℕ). count_after n (M.log_of machine next cs)) (rang a t.poll (length t.buffer)).unanswered
count_along a (M.reply r ∷ cs) =
    let next = M.step machine a (M.reply r) in
    count_along next cs ∙ ap (λ (n : ℕ). count_after n (M.log_of machine next cs))
    (heard a (read_by a r) (arrival_of r) (given a (read_by a r) (arrival_of r))).unanswered

-- from 8 on, where the association is new
-- promise: no8.5
pub new_count_along : (s : Settings) (list : List ℕ) → (new_of s list).answer ≡ Ok tt → (calls : List (M.Call rule)) →
    let a = (new_of s list).association in
    unanswered_in (M.after machine a calls) ≡ count_after 8 (M.log_of machine a calls)
new_count_along s list e calls =
    let a = (new_of s list).association in
    count_along a calls ∙ ap (λ (n : ℕ). count_after n (M.log_of machine a calls)) (new_unanswered s list (ap number_of e))

-- and over any run of the code's calls
-- promise: no8.5 (of the code's calls)
pub code_counts : {a b : Association} {calls : List (M.Call rule)} {done : List (M.Done machine)} → Ran a calls done b →
    unanswered_in b ≡ count_after (unanswered_in a) (M.log_of machine a calls)
code_counts {a} {calls} r = rw (ran_is_run r).1 (count_along a calls)

-- ---- and they are those of reach

pub call_whole : (a : Association) (c : M.Call rule) → Whole a → Whole (M.step machine a c)
call_whole a (M.timer t) w = timer_whole a w t.poll (length t.buffer)
call_whole a (M.reply r) w = reply_whole a (read_by a r) (arrival_of r) w

-- a whole record is whole after any log
-- promise: no8.1 (over any log)
pub whole_along : (a : Association) → Whole a → (calls : List (M.Call rule)) → Whole (M.after machine a calls)
whole_along a w calls = along machine Whole call_whole a w calls

-- promise: no8.1
pub reach_along : (a : Association) → Whole a → (calls : List (M.Call rule)) →
    let b = M.after machine a calls in
    unanswered_in b ≡ unanswered_of b.state.effort.reach
reach_along a w calls = (whole_along a w calls).counted

-- promise: no8.1 (over any run of the code's calls)
pub code_whole : {a b : Association} {calls : List (M.Call rule)} {done : List (M.Done machine)} → Whole a → Ran a calls done b → Whole b
code_whole {a} {calls} w r = rw (ran_is_run r).1 (whole_along a w calls)
