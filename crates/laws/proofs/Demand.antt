-- Demand 3 and No. 3 of the association, from a loaded one, of its logs and of runs of the code's calls: whatever a file is read as, nothing is pending and
-- no reply was measured.
-- Assumes nothing.
use mathlib.Core.Path.{◌≡◌, refl, ap}
use mathlib.Core.Bool.{false}
use mathlib.Core.List.{List}
use Rattle.std.specs.Prelude.{None}
use Prim.Native.Nat.{ℕ}
use Rattle.words.proofs.Tests.{either}
use Rattle.association.specs.declared.Association.{Association}
use Rattle.association.specs.Record.{no_pending, blank_of, whole_of}
use Rattle.handover_file.specs.declared.LoadOut.{LoadOut}
use Rattle.handover_file.specs.Sections.{Cut, bodies, misplaced, missized, cut_as}
use Rattle.handover_file.specs.File.{shapes, known, record_in, settled_state, settled}
use Rattle.handover_file.specs.Answers.{load_in, on_cut, load_of}
use Rattle.laws_log.specs.Log.{Accepted}
use Rattle.laws_log.specs.Machine.{Call, Done, logged, run, after, log_of}
use Rattle.laws_log.specs.Demand.{Demand3}
use Rattle.laws_log.specs.Why.{Why}
use Rattle.laws_log.proofs.Strike.{demand3}
use Rattle.laws_log.proofs.Why.{why_told}
use Rattle.laws.specs.Association.{rule, pending_in, machine}
use Rattle.laws.proofs.Obeys.{laws}
use Rattle.laws.proofs.Bridge.{Ran, ran_is_run}

abbrev pub Nothing : LoadOut → Type 0
Nothing o = (pending_in o.association.state.request ≡ None) × (o.association.state.request.answered ≡ false)

cut_nothing : (c : Cut) → Nothing (on_cut c)
unfolding load_in record_in settled settled_state blank_of no_pending
cut_nothing (bodies bs) =
    either Nothing (known bs) (λ k. either Nothing (whole_of (settled (record_in bs))) (λ e. (refl, refl)) (λ e. (refl, refl))) (λ k. (refl, refl))
cut_nothing misplaced = (refl, refl)
cut_nothing missized = (refl, refl)

-- promise: no6.10
pub load_nothing : (f : List ℕ) → Nothing (load_of f)
unfolding load_of
load_nothing f = cut_nothing (cut_as shapes f)

-- any log of accepted timers and well-formed replies from a loaded association
-- promise no6.10: Demand 3 and No. 3 hold from a loaded association, for every file that loads: nothing is pending in it, and no reply was measured.
-- promise: demand.3 (from a loaded one)
pub loaded_demand3 : (f : List ℕ) (calls : List (Call rule)) →
    let a = (load_of f).association in
    Accepted (log_of machine a calls) → Demand3 machine a calls
loaded_demand3 f calls ok = demand3 machine laws (load_of f).association calls (load_nothing f).0 ok

-- any log at all from a loaded association says by itself why a reply had no live request
-- promise no14.9: The reasons of No. 3 and the order of the cookies hold from a loaded, from a metered and (the order) from any whole record, and of the
--     code's calls.
-- promise: no6.10
pub loaded_why : (f : List ℕ) (calls : List (Call rule)) → Why machine (load_of f).association calls
loaded_why f calls = why_told machine laws (load_of f).association calls (load_nothing f).0 (load_nothing f).1

-- and so of any run of the code's calls
-- promise: no6.10 (of the code's calls), no14.9
pub code_loaded_demand3 : (f : List ℕ) {b : Association} {cs : List (Call rule)} {ds : List (Done machine)} →
    let a = (load_of f).association in
    Ran a cs ds b → Accepted (logged machine ds) → (ds ≡ run machine a cs) × (b ≡ after machine a cs) × Demand3 machine a cs
code_loaded_demand3 f {cs} r ok =
    let k = ran_is_run r in
    (k.0, k.1, loaded_demand3 f cs (rw k.0 at ok))

-- promise: no6.10, no14.9
pub code_loaded_why : (f : List ℕ) {b : Association} {cs : List (Call rule)} {ds : List (Done machine)} →
    let a = (load_of f).association in
    Ran a cs ds b → (logged machine ds ≡ log_of machine a cs) × Why machine a cs
code_loaded_why f {cs} r = (ap (logged machine) (ran_is_run r).0, loaded_why f cs)
