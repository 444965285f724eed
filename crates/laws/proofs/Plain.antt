-- A metered association answers any log as the plain one of the same settings and list does, and what is proved of logs from a new association is proved of
-- its logs too (RULES, No. 11).
-- Assumes nothing.
use mathlib.Core.Path.{◌≡◌, ap, ◌∙◌}
use mathlib.Core.List.{List, []}
use Prim.Native.Nat.{ℕ}
use Rattle.association.specs.declared.Settings.{Settings}
use Rattle.association.specs.declared.Association.{Association}
use Rattle.association.specs.New.{new_of}
use Rattle.laws_log.specs.Log.{Accepted}
use Rattle.laws_log.specs.Machine.{Call, Done, logged, run, after, log_of}
use Rattle.laws_log.specs.Demand.{Demand3}
use Rattle.laws_log.specs.Why.{Why}
use Rattle.laws.specs.Association.{rule, machine}
use Rattle.laws.proofs.NewDemand.{association_demand3, association_why}
use Rattle.laws.proofs.Bridge.{Ran, ran_is_run}
use Rattle.laws.specs.Rate.{CrateSame}
use Rattle.laws.proofs.Rate.{new_same}
use Rattle.laws.specs.Some.{SomeOf, Placed}
use Rattle.laws.specs.Cookies.{stored_from, handed_out}
use Rattle.laws.proofs.Some.{placed}
use Rattle.laws.proofs.Order.{cookie_order}
use Rattle.association_metered.specs.Profile.{number_of, profile_of, metered_of}
use Rattle.association_metered.proofs.Plain.{same_record, once_over_both}

module _ (s : Settings) (list : List ℕ) (met : number_of (profile_of s list) ≡ 0) where
  -- the same answers, to the last byte, and the same record at the end; every beginning of a log is a log, so it is the same all along
  -- promise no11.4: So a metered association behaves as a plain one in all else, proved once for both.
  -- promise: no11.4 (over any log the same answers, to the last byte, and the same record)
  pub same_run : (calls : List (Call rule)) →
      (run machine (metered_of s list).association calls ≡ run machine (new_of s list).association calls)
      × (after machine (metered_of s list).association calls ≡ after machine (new_of s list).association calls)
  same_run calls =
      let e = same_record s list met in
      (ap (λ (a : Association). run machine a calls) e, ap (λ (a : Association). after machine a calls) e)

  -- and so do the code's calls: those on a metered association give what the machine gives from the plain one
  -- promise: no11.4 (over any run of the code's calls)
  pub code_same_run : {b : Association} {calls : List (Call rule)} {done : List (Done machine)} → Ran (metered_of s list).association calls done b →
      (done ≡ run machine (new_of s list).association calls) × (b ≡ after machine (new_of s list).association calls)
  code_same_run {calls} r = let k = ran_is_run r in let e = same_run calls in (k.0 ∙ e.0, k.1 ∙ e.1)

  -- the order of the cookies (RULES, No. 14): those handed out are some of those stored, at places that rise
  -- promise: no14.9
  pub metered_cookie_order : (calls : List (Call rule)) → let done = run machine (metered_of s list).association calls in
      SomeOf (handed_out done) (stored_from s list done)
  metered_cookie_order calls = rw (same_run calls).0 (cookie_order s list calls)

  -- promise: no14.9
  pub metered_cookie_places : (calls : List (Call rule)) → let done = run machine (metered_of s list).association calls in
      Placed [] (handed_out done) (stored_from s list done)
  metered_cookie_places calls = placed [] (metered_cookie_order calls)

  -- promise: no14.9
  pub code_metered_cookie_order : {b : Association} {calls : List (Call rule)} {done : List (Done machine)} → Ran (metered_of s list).association calls done b →
      SomeOf (handed_out done) (stored_from s list done)
  code_metered_cookie_order {calls} r = rw (code_same_run r).0 (cookie_order s list calls)

-- demand 3 of the plain call is demand 3 of this one
-- promise: no11.4 (striking)
pub metered_demand3 : (s : Settings) (list : List ℕ) (calls : List (Call rule)) →
    let a = (metered_of s list).association in
    Accepted (log_of machine a calls) → Demand3 machine a calls
metered_demand3 s list calls =
    once_over_both (λ (a : Association). Accepted (log_of machine a calls) → Demand3 machine a calls) (λ s list. association_demand3 s list calls) s list

-- and so is what the log says of a reply without a live request (RULES, No. 3)
-- promise: no14.9
pub metered_why : (s : Settings) (list : List ℕ) (calls : List (Call rule)) → Why machine (metered_of s list).association calls
metered_why s list calls = once_over_both (λ (a : Association). Why machine a calls) (λ s list. association_why s list calls) s list

-- both of any run of the code's calls
-- promise: no14.9
pub code_metered_demand3 : (s : Settings) (list : List ℕ) {b : Association} {cs : List (Call rule)} {ds : List (Done machine)} →
    let a = (metered_of s list).association in
    Ran a cs ds b → Accepted (logged machine ds) → (ds ≡ run machine a cs) × (b ≡ after machine a cs) × Demand3 machine a cs
code_metered_demand3 s list {cs} r ok =
    let k = ran_is_run r in
    (k.0, k.1, metered_demand3 s list cs (rw k.0 at ok))

-- promise: no14.9
pub code_metered_why : (s : Settings) (list : List ℕ) {b : Association} {cs : List (Call rule)} {ds : List (Done machine)} →
    let a = (metered_of s list).association in
    Ran a cs ds b → (logged machine ds ≡ log_of machine a cs) × Why machine a cs
code_metered_why s list {cs} r = (ap (logged machine) (ran_is_run r).0, metered_why s list cs)

-- and so it is with the crate's rule of RATE, which no log from either call tells from ours
-- promise: no11.4 (the crate's rule of RATE)
pub metered_same : (s : Settings) (list : List ℕ) (calls : List (Call rule)) → CrateSame (metered_of s list).association calls
metered_same s list calls = once_over_both (λ (a : Association). CrateSame a calls) (λ s list. new_same s list calls) s list
