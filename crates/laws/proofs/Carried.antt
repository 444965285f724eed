-- Logs that hold saves (RULES, No. 7, No. 11 and No. 14): a save changes the stash alone, so what each timer and reply keeps is kept along such a log too.
-- Assumes nothing.
use mathlib.Core.Path.{◌≡◌, refl, sym, ap, subst, ◌∙◌}
use mathlib.Core.Bool.{true}
use mathlib.Core.List.{List, [], ◌∷◌, ◌++◌, append_assoc, append-nil}
use Prim.Native.Nat.{ℕ, ◌+◌, ◌≤◌}
use native.Mathlib.Omega.{arith}
use lib.IntN.{pos}
use lib.ListN.{length}
use lib.Dec.{ltb}
use lib.Signed.{◌≤ℤ◌, ≤ℤ_refl}
use Rattle.words.proofs.Bytes.{Bytes}
use Rattle.words.proofs.Tests.{both, either}
use Rattle.time_types.proofs.Rate.{≤ℤ_trans}
use Rattle.cookiestash.specs.Queue.{queue, cookies}
use Rattle.association.specs.declared.Settings.{Settings}
use Rattle.association.specs.declared.State.{State}
use Rattle.association.specs.declared.Association.{Association}
use Rattle.association.specs.Settings.{settings_valid}
use Rattle.association.specs.Record.{whole_seen, whole_of}
use Rattle.association.specs.New.{new_of}
use Rattle.association.proofs.New.{capacity_in}
use Rattle.timer.proofs.Numbers as timer-numbers
use Rattle.handover_file.specs.declared.SaveOut.{SaveOut}
use Rattle.handover_file.specs.Cookies.{empty_at}
use Rattle.handover_file.specs.File.{file_of, emptied}
use Rattle.handover_file.specs.Answers.{save_of, load_number, load_of}
use Rattle.laws_log.specs.Log as log
use Rattle.laws_log.specs.Why.{NoZero}
use Rattle.laws_log.specs.Machine as M
use Rattle.laws.specs.Association.{rule, machine}
use Rattle.laws.proofs.Obeys.{laws}
use Rattle.laws.specs.Along.{KeptWith}
use Rattle.laws.specs.Rate.{remote_of}
use Rattle.laws.proofs.Along.{along_with, no_cons}
use Rattle.laws.proofs.Rate.{never_falls}
use Rattle.laws.specs.Nine.{timers_in, GaveUp}
use Rattle.laws.proofs.Nine.{Unheard, turned, unmeasured, later, first, none_yet}
use Rattle.laws.specs.Some.{SomeOf, Placed}
use Rattle.laws.specs.Cookies.{stored_by, stored_in, stored_from, handed_by, handed_out}
use Rattle.laws.proofs.Some.{some_none, some_all, some_before, some_some, placed}
use Rattle.laws.proofs.Stash.{Holds, Holding}
use Rattle.laws.proofs.Order.{went, joined, from_new}
use Rattle.association_metered.specs.Profile.{number_of, profile_of, metered_of}
use Rattle.association_metered.proofs.Plain.{same_record}
use Rattle.laws.specs.Polls.{Sparing}
use Rattle.laws.proofs.Polls.{Held, held_kept, metered_held}
use Rattle.laws.specs.Saving.{poll, save, saving_rule, saving_machine, unsaved_by, unsaved}
use Rattle.laws.proofs.Saves.{save_stash_alone}
use Rattle.laws.proofs.Cookies as loaded

-- ---- a property that each timer and each reply keeps

unsaved_more : (ds : List (M.Done saving_machine)) (d : M.Done saving_machine) → unsaved (ds ++ d ∷ []) ≡ unsaved ds ++ (unsaved_by d ++ [])
unsaved_more [] d = refl
unsaved_more (x ∷ ds) d =
    ap (λ (l : List (M.Done machine)). unsaved_by x ++ l) (unsaved_more ds d) ∙ sym (append_assoc (unsaved_by x) (unsaved ds) (unsaved_by d ++ []))

module _ (P : List (M.Done machine) → Association → Type 0) (kept : KeptWith machine P)
    (idle : (done : List (M.Done machine)) (a : Association) (room : ℕ) → P done a → P done (save_of a room).association) where
  saving_kept : KeptWith saving_machine (λ done. P (unsaved done))
  saving_kept done a (M.timer (poll t)) p = rw (unsaved_more done (M.made saving_machine a (M.timer (poll t)))) (kept (unsaved done) a (M.timer t) p)
  saving_kept done a (M.timer (save b)) p = rw (unsaved_more done (M.made saving_machine a (M.timer (save b))), append-nil (unsaved done))
      (idle (unsaved done) a (length b) p)
  saving_kept done a (M.reply r) p = rw (unsaved_more done (M.made saving_machine a (M.reply r))) (kept (unsaved done) a (M.reply r) p)

  -- holds along any log with saves
  -- promise: no6.11
  pub carried : (a : Association) → P [] a → (calls : List (M.Call saving_rule)) → P (unsaved (M.run saving_machine a calls)) (M.after saving_machine a calls)
  carried a p calls = along_with saving_machine (λ done. P (unsaved done)) saving_kept a p calls

-- a save leaves the state
state_left : (a : Association) (room : ℕ) → a.state ≡ (save_of a room).association.state
state_left a room = sym (save_stash_alone a room).state

-- No. 7: the remote minimum never falls
-- promise: no6.11
pub saving_never_falls : (a : Association) (calls : List (M.Call saving_rule)) → remote_of a ≤ℤ remote_of (M.after saving_machine a calls)
saving_never_falls a calls =
    carried (λ done b. remote_of a ≤ℤ remote_of b) (λ done b c h. ≤ℤ_trans h (never_falls b (c ∷ [])))
    (λ done b room h. subst (λ (s : State). remote_of a ≤ℤ s.polls.remote.0) (state_left b room) h)
    a (≤ℤ_refl (remote_of a)) calls

-- No. 11: no poll that a metered association sends has a last poll below 8
-- promise: no6.11
pub saving_never_below_8 : (s : Settings) (list : List ℕ) → number_of (profile_of s list) ≡ 0 → (calls : List (M.Call saving_rule)) →
    let a = (metered_of s list).association in Sparing (pos 8) (unsaved (M.run saving_machine a calls)) (M.after saving_machine a calls)
saving_never_below_8 s list e calls = (carried (Held (pos 8)) (held_kept (pos 8)) idle (metered_of s list).association (metered_held s list e) calls).sparing
  where
    idle : (done : List (M.Done machine)) (a : Association) (room : ℕ) → Held (pos 8) done a → Held (pos 8) done (save_of a room).association
    idle done a room h =
        record {
          sparing = record { sent = h.sparing.sent; last = subst (λ (s : State). pos 8 ≤ℤ s.polls.last.0) (state_left a room) h.sparing.last };
          remote = subst (λ (s : State). pos 8 ≤ℤ s.polls.remote.0) (state_left a room) h.remote;
        }

-- ---- No. 14: nine timers, with saves between them

abbrev log_from : Association → List (M.Call saving_rule) → List (log.Entry rule)
log_from a calls = M.logged machine (unsaved (M.run saving_machine a calls))

-- from where a part of such a log starts
record Onward (rest : List (log.Entry rule)) : Type 0 where
  start : Association
  calls : List (M.Call saving_rule)
  same : log_from start calls ≡ rest

onward : (calls : List (M.Call saving_rule)) (a : Association) (before rest : List (log.Entry rule)) → log_from a calls ≡ before ++ rest → Onward rest
onward calls a [] rest e = record { start = a; calls = calls; same = e }
onward [] a (x ∷ before) rest e = absurd (no_cons x (before ++ rest) e)
onward (M.timer (poll t) ∷ cs) a (x ∷ before) rest e = onward cs (M.step saving_machine a (M.timer (poll t))) before rest (cc)
onward (M.timer (save b) ∷ cs) a (x ∷ before) rest e = onward cs (M.step saving_machine a (M.timer (save b))) (x ∷ before) rest e
onward (M.reply r ∷ cs) a (x ∷ before) rest e = onward cs (M.step saving_machine a (M.reply r)) before rest (cc)

enough : (calls : List (M.Call saving_rule)) (k : ℕ) (a : Association) (nine behind : List (log.Entry rule)) → Unheard k a.state.effort →
    log_from a calls ≡ nine ++ behind → NoZero nine → 9 ≤ k + timers_in nine → GaveUp nine
enough calls k a [] behind u e z m = absurd (omega (arith, u.few))
enough [] k a (x ∷ nine) behind u e z m = absurd (no_cons x (nine ++ behind) e)
enough (M.timer (poll t) ∷ cs) k a (x ∷ nine) behind u e z m =
    let b = M.step machine a (M.timer t) in
    let here : M.note machine (M.made machine a (M.timer t)) ≡ x = cc in
    let rest : log_from b cs ≡ nine ++ behind = cc in
    subst (λ (y : log.Entry rule). GaveUp (y ∷ nine)) here
    (first t nine u (turned a t.poll (length t.buffer) u (timer-numbers.given a t.poll (length t.buffer)))
    (λ j v. enough cs j b nine behind v rest z.1)
    (subst (λ (y : log.Entry rule). 9 ≤ k + timers_in (y ∷ nine)) (sym here) m))
enough (M.timer (save b) ∷ cs) k a (x ∷ nine) behind u e z m =
    enough cs k (M.step saving_machine a (M.timer (save b))) (x ∷ nine) behind (subst (λ (s : State). Unheard k s.effort) (state_left a (length b)) u) e z m
enough (M.reply r ∷ cs) k a (x ∷ nine) behind u e z m =
    let b = M.step machine a (M.reply r) in
    let here : M.note machine (M.made machine a (M.reply r)) ≡ x = cc in
    let rest : log_from b cs ≡ nine ++ behind = cc in
    subst (λ (y : log.Entry rule). GaveUp (y ∷ nine)) here
    (later _ (enough cs k b nine behind (unmeasured a r u (subst (λ (y : log.Entry rule). NoZero (y ∷ [])) (sym here) (z.0, tt)).0) rest z.1
    (subst (λ (y : log.Entry rule). 9 ≤ k + timers_in (y ∷ nine)) (sym here) m)))

-- from any record, whole or not; a save is no timer, and whatever it answers it stands in nobody's way
-- promise: no6.11
pub saving_nine_timers : (a : Association) (calls : List (M.Call saving_rule)) (before nine behind : List (log.Entry rule)) →
    M.logged machine (unsaved (M.run saving_machine a calls)) ≡ before ++ (nine ++ behind) → NoZero nine → 9 ≤ timers_in nine → GaveUp nine
saving_nine_timers a calls before nine behind e z m =
    let s = onward calls a before (nine ++ behind) e in
    enough s.calls 0 s.start nine behind (none_yet s.start.state.effort) s.same z (omega (arith, m))

-- ---- No. 14: the order of the cookies, with saves between the calls

-- a stash that a save has emptied holds none
emptied_holds : (cap read : ℕ) → cap ≤ 8 → Holds cap (empty_at read) []
unfolding empty_at cookies queue
emptied_holds cap read few = record { held = refl; room = few }

-- a whole record has at most eight slots
capacity_few : (a : Association) → whole_of a ≡ true → a.settings.capacity ≤ 8
unfolding whole_of whole_seen
capacity_few a w = (capacity_in a.settings (both (settings_valid a.settings) _ w).0).1

-- what is held after a save is some of what was held: all of it where the save was refused, none where it was not
module _ (a : Association) (inside : List (List ℕ)) (h : Holds a.settings.capacity a.stash inside) where
  abbrev AfterSave : SaveOut → Type 0
  AfterSave o = Holding o.association.settings.capacity o.association.stash inside

  all_held : Holding a.settings.capacity a.stash inside
  all_held = record { inside = inside; holds = h; order = some_all inside }

  none_held : whole_of a ≡ true → Holding a.settings.capacity (empty_at a.stash.read) inside
  none_held w = record { inside = []; holds = emptied_holds a.settings.capacity a.stash.read (capacity_few a w); order = some_none inside }

  save_holds : (room : ℕ) → AfterSave (save_of a room)
  unfolding save_of emptied
  save_holds room =
      either AfterSave (whole_of a) (λ w. either AfterSave (ltb room (length (file_of a))) (λ s. all_held) (λ s. none_held w)) (λ w. all_held)

-- a timer or a reply, and the calls behind it
saving_call : (cs : List (M.Call saving_rule)) (a : Association) (inside : List (List ℕ)) → Holds a.settings.capacity a.stash inside → (c : M.Call rule) →
    let b = M.step machine a c in
    let more = unsaved (M.run saving_machine b cs) in
    ((left : List (List ℕ)) → Holds b.settings.capacity b.stash left → SomeOf (handed_out more) (left ++ stored_in b.settings.nts more)) →
    SomeOf (handed_out (M.made machine a c ∷ more)) (inside ++ stored_in a.settings.nts (M.made machine a c ∷ more))
saving_call cs a inside h c rest =
    let w = went a inside h c in
    let d = M.made machine a c in
    let more = unsaved (M.run saving_machine (M.step machine a c) cs) in
    joined (handed_by d) w.left inside (stored_by a.settings.nts d) (stored_in a.settings.nts more) w.order
    (subst (λ (g : Settings). SomeOf (handed_out more) (w.left ++ stored_in g.nts more)) (laws.settings_kept a c) (rest w.left w.holds))

saving_handed : (calls : List (M.Call saving_rule)) (a : Association) (inside : List (List ℕ)) → Holds a.settings.capacity a.stash inside →
    let done = unsaved (M.run saving_machine a calls) in SomeOf (handed_out done) (inside ++ stored_in a.settings.nts done)
saving_handed [] a inside h = some_none (inside ++ [])
saving_handed (M.timer (poll t) ∷ cs) a inside h = saving_call cs a inside h (M.timer t) (saving_handed cs (M.step machine a (M.timer t)))
saving_handed (M.timer (save b) ∷ cs) a inside h =
    let k = save_holds a inside h (length b) in
    let more = unsaved (M.run saving_machine (M.step saving_machine a (M.timer (save b))) cs) in
    some_some (saving_handed cs (M.step saving_machine a (M.timer (save b))) k.inside k.holds)
    (subst (λ (g : Settings). SomeOf (k.inside ++ stored_in g.nts more) (inside ++ stored_in a.settings.nts more))
    (sym (save_stash_alone a (length b)).settings)
    (some_before k.order (stored_in a.settings.nts more)))
saving_handed (M.reply r ∷ cs) a inside h = saving_call cs a inside h (M.reply r) (saving_handed cs (M.step machine a (M.reply r)))

-- from a new association
-- promise: no6.11
pub saving_cookie_order : (s : Settings) (list : List ℕ) (calls : List (M.Call saving_rule)) →
    let done = unsaved (M.run saving_machine (new_of s list).association calls) in SomeOf (handed_out done) (stored_from s list done)
saving_cookie_order s list calls =
    from_new s list (unsaved (M.run saving_machine (new_of s list).association calls)) (saving_handed calls (new_of s list).association)

-- promise: no6.11
pub saving_cookie_places : (s : Settings) (list : List ℕ) (calls : List (M.Call saving_rule)) →
    let done = unsaved (M.run saving_machine (new_of s list).association calls) in Placed [] (handed_out done) (stored_from s list done)
saving_cookie_places s list calls = placed [] (saving_cookie_order s list calls)

-- from a metered one
-- promise: no6.11
pub saving_metered_cookie_order : (s : Settings) (list : List ℕ) → number_of (profile_of s list) ≡ 0 → (calls : List (M.Call saving_rule)) →
    let done = unsaved (M.run saving_machine (metered_of s list).association calls) in SomeOf (handed_out done) (stored_from s list done)
saving_metered_cookie_order s list met calls = rw (same_record s list met) (saving_cookie_order s list calls)

-- and from a loaded one: some of what its file held and of what was stored since
-- promise: no6.11
pub saving_loaded_cookie_order : (f : List ℕ) → Bytes f → load_number (load_of f).answer ≡ 0 → (calls : List (M.Call saving_rule)) →
    let a = (load_of f).association in
    let done = unsaved (M.run saving_machine a calls) in SomeOf (handed_out done) (loaded.kept f ++ stored_in a.settings.nts done)
saving_loaded_cookie_order f y e calls = saving_handed calls (load_of f).association _ (loaded.box_holds f y e)
