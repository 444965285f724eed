-- Demand 3 and No. 3 over logs that hold saves beside timers and replies, from a new, a metered and a loaded association.
-- Assumes nothing.
use mathlib.Core.Path.{◌≡◌, refl, ◌∙◌}
use mathlib.Core.Bool.{Bool, true, false}
use mathlib.Core.List.{List}
use Rattle.std.specs.Prelude.{Option, None, Some}
use Prim.Native.Nat.{ℕ}
use lib.Dec.{ltb, eqb}
use lib.ListN.{length}
use Rattle.words.proofs.Tests.{either}
use Rattle.association.specs.declared.Settings.{Settings}
use Rattle.association.specs.declared.Pending.{Pending}
use Rattle.association.specs.declared.Association.{Association}
use Rattle.association.specs.Record.{whole_of}
use Rattle.association.specs.New.{new_of}
use Rattle.handover_file.specs.declared.SaveOut.{SaveOut}
use Rattle.handover_file.specs.File.{file_of, emptied}
use Rattle.handover_file.specs.Answers.{save_number, save_of, load_of}
use Rattle.laws_log.specs.Log.{Accepted, next, next_answered, reason, live}
use Rattle.laws_log.specs.Machine as M
use Rattle.laws_log.specs.Machine.{Call, log_of}
use Rattle.laws_log.specs.Demand.{Demand3}
use Rattle.laws_log.specs.Why.{Why}
use Rattle.laws_log.proofs.Strike.{demand3}
use Rattle.laws_log.proofs.Why.{why_told}
use Rattle.laws.specs.Association.{ReplyIn, pending_in, rule}
use Rattle.laws.proofs.NewDemand.{new_pends_nothing, new_unanswered}
use Rattle.laws.proofs.Obeys.{laws}
use Rattle.association_metered.specs.Profile.{metered_of}
use Rattle.association_metered.proofs.Plain.{once_over_both}
use Rattle.laws.specs.Saving.{poll, save, saving_rule, saving_machine}
use Rattle.laws.proofs.Saves.{save_stash_alone}
use Rattle.laws.proofs.Demand.{load_nothing}

-- a save's number is not 20, and it leaves the request
record Unasked (a : Association) (o : SaveOut) : Type 0 where
  not_sent : eqb (save_number o.answer) 20 ≡ false
  request : o.association.state.request ≡ a.state.request

unasked : (a : Association) (room : ℕ) → Unasked a (save_of a room)
unfolding save_of emptied
unasked a room =
    either (Unasked a) (whole_of a)
    (λ w.
    either (Unasked a) (ltb room (length (file_of a)))
    (λ s. record { not_sent = refl; request = refl })
    (λ s. record { not_sent = refl; request = refl }))
    (λ w. record { not_sent = refl; request = refl })

settings_kept : (a : Association) (c : Call saving_rule) → (M.step saving_machine a c).settings ≡ a.settings
settings_kept a (M.timer (poll t)) = laws.settings_kept a (M.timer t)
settings_kept a (M.timer (save b)) = (save_stash_alone a (length b)).settings
settings_kept a (M.reply r) = laws.settings_kept a (M.reply r)

pending_next : (a : Association) (c : Call saving_rule) →
    pending_in (M.step saving_machine a c).state.request
    ≡ next saving_rule a.settings (pending_in a.state.request) (M.note saving_machine (M.made saving_machine a c))
pending_next a (M.timer (poll t)) = laws.pending_next a (M.timer t)
pending_next a (M.timer (save b)) = let u = unasked a (length b) in rw (u.not_sent, u.request)
pending_next a (M.reply r) = laws.pending_next a (M.reply r)

answered_next : (a : Association) (c : Call saving_rule) →
    (M.step saving_machine a c).state.request.answered ≡ next_answered a.state.request.answered (M.note saving_machine (M.made saving_machine a c))
answered_next a (M.timer (poll t)) = laws.answered_next a (M.timer t)
answered_next a (M.timer (save b)) = let u = unasked a (length b) in rw (u.not_sent, u.request)
answered_next a (M.reply r) = laws.answered_next a (M.reply r)

-- what the log says of a reply does not ask what a timer is
same_reason : (q : Option Pending) (w : Bool) (r : ReplyIn) → reason rule q w r ≡ reason saving_rule q w r
same_reason None true r = refl
same_reason None false r = refl
same_reason (Some q) w r = refl

same_live : (s : Settings) (q : Option Pending) (r : ReplyIn) → live rule s q r ≡ live saving_rule s q r
same_live s None r = refl
same_live s (Some q) r = refl

-- promise: no6.11
pub saving_laws : M.Laws saving_machine
saving_laws =
    record {
      settings_kept = settings_kept;
      pending_next = pending_next;
      answered_next = answered_next;
      told = λ a r h. laws.told a r h ∙ same_reason (pending_in a.state.request) a.state.request.answered r;
      refused = λ a r n h. laws.refused a r (same_live a.settings (pending_in a.state.request) r ∙ n) h;
    }

-- promise: no6.11
pub saving_demand3 : (s : Settings) (list : List ℕ) (calls : List (Call saving_rule)) →
    let a = (new_of s list).association in
    Accepted (log_of saving_machine a calls) → Demand3 saving_machine a calls
saving_demand3 s list calls ok = demand3 saving_machine saving_laws (new_of s list).association calls (new_pends_nothing s list) ok

-- promise: no6.11
pub saving_why : (s : Settings) (list : List ℕ) (calls : List (Call saving_rule)) → Why saving_machine (new_of s list).association calls
saving_why s list calls = why_told saving_machine saving_laws (new_of s list).association calls (new_pends_nothing s list) (new_unanswered s list)

-- a metered association is one that `new` makes
-- promise: no6.11
pub saving_metered_demand3 : (s : Settings) (list : List ℕ) (calls : List (Call saving_rule)) →
    let a = (metered_of s list).association in
    Accepted (log_of saving_machine a calls) → Demand3 saving_machine a calls
saving_metered_demand3 s list calls =
    once_over_both (λ (a : Association). Accepted (log_of saving_machine a calls) → Demand3 saving_machine a calls)
    (λ s list. saving_demand3 s list calls) s list

-- promise: no6.11
pub saving_metered_why : (s : Settings) (list : List ℕ) (calls : List (Call saving_rule)) → Why saving_machine (metered_of s list).association calls
saving_metered_why s list calls = once_over_both (λ (a : Association). Why saving_machine a calls) (λ s list. saving_why s list calls) s list

-- promise: no6.11
pub saving_loaded_demand3 : (f : List ℕ) (calls : List (Call saving_rule)) →
    let a = (load_of f).association in
    Accepted (log_of saving_machine a calls) → Demand3 saving_machine a calls
saving_loaded_demand3 f calls ok = demand3 saving_machine saving_laws (load_of f).association calls (load_nothing f).0 ok

-- promise: no6.11
pub saving_loaded_why : (f : List ℕ) (calls : List (Call saving_rule)) → Why saving_machine (load_of f).association calls
saving_loaded_why f calls = why_told saving_machine saving_laws (load_of f).association calls (load_nothing f).0 (load_nothing f).1
