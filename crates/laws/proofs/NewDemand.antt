-- Demand 3 of the association, from any record with nothing pending, and so from a new one; and No. 3 along its logs.
-- Assumes nothing.
use mathlib.Core.Path.{◌≡◌, refl, ap}
use mathlib.Core.Bool.{Bool, true, false, cond}
use mathlib.Core.List.{List}
use Rattle.std.specs.Prelude.{None}
use Prim.Native.Nat.{ℕ}
use Rattle.cookiestash.specs.StoreList.{store_list_of}
use Rattle.association.specs.declared.Settings.{Settings}
use Rattle.association.specs.declared.Pending.{Pending}
use Rattle.association.specs.declared.NewOut.{NewOut}
use Rattle.association.specs.Record.{no_pending, blank_of, fresh_of, with_stash}
use Rattle.association.specs.New.{made_of, new_of}
use Rattle.association.specs.Numbers.{Given, bad_settings, broken_list, retired, made}
use Rattle.association.proofs.Numbers.{given}
use Rattle.laws_log.specs.Log.{Accepted}
use Rattle.laws_log.specs.Machine.{Call, log_of}
use Rattle.laws_log.specs.Demand.{Demand3}
use Rattle.laws_log.specs.Why.{Why}
use Rattle.laws_log.proofs.Strike.{demand3}
use Rattle.laws_log.proofs.Why.{why_told}
use Rattle.laws.specs.Association.{rule, pending_in, machine}
use Rattle.laws.proofs.Obeys.{laws}

blank_request : blank_of.state.request ≡ no_pending false
unfolding blank_of
blank_request = refl

made_request : (s : Settings) (list : List ℕ) → (made_of s list).state.request ≡ no_pending false
unfolding made_of fresh_of
made_request s list = by s.nts
  where
    by : (nts : Bool) → (cond nts (with_stash (fresh_of s) (store_list_of s.capacity (fresh_of s).stash list)) (fresh_of s)).state.request ≡ no_pending false
    by true = refl
    by false = refl

-- whatever `new` answers, nothing is pending, and no reply was measured
new_request : (s : Settings) (list : List ℕ) → (new_of s list).association.state.request ≡ no_pending false
new_request s list = by (given s list)
  where
    by : {n : ℕ} {o : NewOut} → Given s list n o → o.association.state.request ≡ no_pending false
    by (bad_settings v) = blank_request
    by (broken_list v b) = blank_request
    by (retired v b u) = blank_request
    by (made v b u) = made_request s list

pub new_pends_nothing : (s : Settings) (list : List ℕ) → pending_in (new_of s list).association.state.request ≡ None
unfolding no_pending
new_pends_nothing s list = ap pending_in (new_request s list)

pub new_unanswered : (s : Settings) (list : List ℕ) → (new_of s list).association.state.request.answered ≡ false
unfolding no_pending
new_unanswered s list = ap (λ (q : Pending). q.answered) (new_request s list)

-- any log of accepted timers and well-formed replies from a new association, with or without NTS, in all versions and both forms, with clocks jumping either
-- way
-- promise: demand.3 (from a new association)
pub association_demand3 : (s : Settings) (list : List ℕ) (calls : List (Call rule)) →
    let a = (new_of s list).association in
    Accepted (log_of machine a calls) → Demand3 machine a calls
association_demand3 s list calls ok = demand3 machine laws (new_of s list).association calls (new_pends_nothing s list) ok

-- any log at all from a new association says by itself why a reply had no live request
-- promise: no3.5
pub association_why : (s : Settings) (list : List ℕ) (calls : List (Call rule)) → Why machine (new_of s list).association calls
association_why s list calls = why_told machine laws (new_of s list).association calls (new_pends_nothing s list) (new_unanswered s list)
