-- The remote minimum along any log (RULES, No. 7): it never falls, and from a new association the crate's rule of RATE gives the same records.
-- Assumes nothing.
use mathlib.Core.Path.{◌≡◌, refl, sym, ap, subst, ◌∙◌}
use mathlib.Core.Bool.{Bool, true, false, cond, false≢true}
use mathlib.Core.List.{List}
use Rattle.std.specs.Prelude.{Option, None, Some}
use Prim.Native.Nat.{ℕ}
use native.Mathlib.Omega.{arith}
use lib.Dec.{eqb}
use lib.ListN.{length}
use lib.IntN.{ℤ}
use lib.Signed.{◌≤ℤ◌, ≤ℤ_refl}
use borrow.Author.Tests.{eqb-false}
use Rattle.words.proofs.Tests.{both, either, when, unless}
use Rattle.time_types.specs.declared.PollInterval.{PollInterval}
use Rattle.time_types.specs.Poll.{interval, larger}
use Rattle.time_types.proofs.Rate.{≤ℤ_trans, larger_left, larger_right, rate_most, rate_crate}
use Rattle.association.specs.declared.Settings.{Settings}
use Rattle.association.specs.declared.Polls.{Polls}
use Rattle.association.specs.declared.Pending.{Pending}
use Rattle.association.specs.declared.Association.{Association}
use Rattle.association.specs.Record.{no_pending, with_state}
use Rattle.association.specs.New.{new_of}
use Rattle.timer_rules.specs.declared.TimerInput.{TimerInput}
use Rattle.timer_rules.specs.Answer as timer
use Rattle.timer_rules.specs.Poll.{poll_of}
use Rattle.timer.proofs.After.{rang}
use Rattle.wire_incoming.specs.declared.Reply.{Reply}
use Rattle.reply_clauses.specs.After.{Arrival, stepped, after_rate_kiss}
use Rattle.reply.specs.declared.ReplyOut.{ReplyOut}
use Rattle.reply.specs.Numbers as N
use Rattle.reply.specs.Numbers.{
  not_whole,
  undecodable,
  broken_list,
  unexpected_version,
  never_sent_lem,
  already_measured_lem,
  late,
  no_match,
  rate,
  denied,
  denied_nts,
  ntsn,
  other_kiss,
  bad_stratum,
  not_server,
  measured,
}
use Rattle.reply.proofs.Numbers.{given}
use Rattle.reply.proofs.After.{Heard, heard, Paced, paced}
use Rattle.laws_log.specs.Machine as M
use Rattle.laws.specs.Association.{ReplyIn, arrival_of, read_as, rule, pending_in, timed, replied, machine}
use Rattle.laws.proofs.NewDemand.{new_pends_nothing}
use Rattle.laws.proofs.Bridge.{Ran, ran_is_run}
use Rattle.laws.specs.Rate.{remote_of, with_remote, crate_remote, crate_replied, CrateSame}
use Rattle.laws.proofs.Along.{between, same_logs}

-- what a reply is read as, beside the record that it meets
abbrev pub read_by : Association → ReplyIn → Option Reply
read_by a r = read_as a.settings a.state.request r

-- ---- it never falls

polled_remote : (b : Bool) (last : PollInterval) (p : Polls) → (cond b (record { last = last; remote = p.remote }) p).remote ≡ p.remote
polled_remote true last p = refl
polled_remote false last p = refl

call_raises : (a : Association) (c : M.Call rule) → remote_of a ≤ℤ remote_of (M.step machine a c)
call_raises a (M.timer t) =
    let sent = eqb (timer.number_of (timed a t).0.0) 20 in
    let polls = a.state.polls in
    let e = ap (λ (p : Polls). p.remote) (rang a t.poll (length t.buffer)).polls
    ∙ polled_remote sent (poll_of t.poll.desired polls.remote) polls in
    subst (λ (p : PollInterval). remote_of a ≤ℤ p.0) (sym e) (≤ℤ_refl (remote_of a))
call_raises a (M.reply r) = (paced a (read_by a r) (arrival_of r) (given a (read_by a r) (arrival_of r))).least

-- over any log from any record, whole or not, refused calls and all
-- promise: no7.2 (from any record, whole or not, with rejected calls too), no11.5
pub never_falls : (a : Association) (calls : List (M.Call rule)) → remote_of a ≤ℤ remote_of (M.after machine a calls)
never_falls a calls =
    between machine (λ a b. remote_of a ≤ℤ remote_of b)
    (record { none = λ a. ≤ℤ_refl (remote_of a); more = λ h k. ≤ℤ_trans h k; call = call_raises })
    a calls

-- and over any run of the code's calls
-- promise: no7.2 (of the code's calls)
pub code_never_falls : {a b : Association} {calls : List (M.Call rule)} {done : List (M.Done machine)} → Ran a calls done b → remote_of a ≤ℤ remote_of b
code_never_falls {a} {calls} r = rw (ran_is_run r).1 (never_falls a calls)

-- ---- and no log from a new association tells the crate's rule from ours

-- where a request is pending, the remote minimum is at most the limit or at most the last poll
abbrev Within : Settings → Polls → Pending → Type 0
Within g p q = q.present ≡ true → p.remote.0 ≤ℤ larger g.max.0 p.last.0

abbrev Inside : Association → Type 0
Inside a = Within a.settings a.state.polls a.state.request

-- a poll that is sent is at least the remote minimum
sent_inside : (b : Bool) (g : Settings) (i : TimerInput) (p : Polls) (q asked : Pending) → Within g p q →
    Within g (cond b (record { last = interval (larger i.desired.0 p.remote.0); remote = p.remote }) p) (cond b asked q)
sent_inside true g i p q asked w =
    λ _. ≤ℤ_trans (larger_right i.desired.0 p.remote.0) (larger_right g.max.0 (larger i.desired.0 p.remote.0))
sent_inside false g i p q asked w = w

-- after a reply that is not measured the request is pending still, and RATE raises the remote minimum to the limit or to the last poll at most
heard_inside : (a : Association) (n : ℕ) (o : ReplyOut) → Heard a n o → Paced a n o → Inside a → Inside o.association
unfolding no_pending
heard_inside a n o h p w = by (eqb n 0) refl
  where
    by : (b : Bool) → eqb n 0 ≡ b → Inside o.association
    by true e t = absurd (false≢true (sym (ap (λ (q : Pending). q.present) (h.request ∙ when _ _ e)) ∙ t))
    by false e t =
        let held = w (sym (ap (λ (q : Pending). q.present) (h.request ∙ unless _ _ e)) ∙ t) in
        let limit = a.settings.max.0 in
        let last = a.state.polls.last.0 in
        rw (h.settings, p.last, p.remote (eqb-false n 0 e))
        (either (λ (z : PollInterval). z.0 ≤ℤ larger limit last) (eqb n 5)
        (λ _. rate_most a.state.polls.remote.0 limit last held (larger_left limit last) (larger_right limit last))
        (λ _. held))

-- what is none is not pending
not_pending : (q : Pending) → q.present ≡ true → pending_in q ≡ None → ⊥
not_pending q t e = by q.present t e
  where
    by : (b : Bool) → b ≡ true → cond b (Some q) None ≡ None → ⊥
    by true t e = let z : ◌≡◌ {A = ℕ} 0 1 = cc in omega arith
    by false t e = false≢true t

inside_kept : (a : Association) (c : M.Call rule) → Inside a → Inside (M.step machine a c)
inside_kept a (M.timer t) w =
    let k = rang a t.poll (length t.buffer) in
    rw (k.settings, k.polls, k.request)
    (sent_inside (eqb (timer.number_of (timed a t).0.0) 20) a.settings t.poll a.state.polls a.state.request _ w)
inside_kept a (M.reply r) w =
    let g = given a (read_by a r) (arrival_of r) in
    heard_inside a _ _ (heard a (read_by a r) (arrival_of r) g) (paced a (read_by a r) (arrival_of r) g) w

-- a RATE kiss answers a pending request, so there the two rules agree
module _ (a : Association) (read : Option Reply) (t : Arrival) (w : Inside a) where
  same_remote : {n : ℕ} {o : ReplyOut} → N.Given a read t n o → cond (eqb n 5) (with_remote o.association (crate_remote a)) o.association ≡ o.association
  unfolding stepped after_rate_kiss
  same_remote (not_whole e) = refl
  same_remote (undecodable v e) = refl
  same_remote (broken_list d e) = refl
  same_remote (unexpected_version l e) = refl
  same_remote (never_sent_lem x e) = refl
  same_remote (already_measured_lem x e) = refl
  same_remote (late x e) = refl
  same_remote (no_match i e) = refl
  same_remote (rate m e) =
      let pending = (both a.state.request.present _ m.in_time.pending).0 in
      ap (λ (z : ℤ). with_remote (with_state a (stepped a.state)) (interval z))
      (rate_crate a.state.polls.remote.0 a.settings.max.0 a.state.polls.last.0 (w pending))
  same_remote (denied u e f) = refl
  same_remote (denied_nts u e f) = refl
  same_remote (ntsn v e) = refl
  same_remote (other_kiss k e) = refl
  same_remote (bad_stratum k e) = refl
  same_remote (not_server s e) = refl
  same_remote (measured s e) = refl

same_reply : (a : Association) (r : ReplyIn) → Inside a → crate_replied a r ≡ replied a r
same_reply a r w = λ i. ((replied a r).0, same_remote a (read_by a r) (arrival_of r) w (given a (read_by a r) (arrival_of r)) i)

-- promise: no7.3 (from any record with nothing pending)
pub unasked_same : (a : Association) → pending_in a.state.request ≡ None → (calls : List (M.Call rule)) → CrateSame a calls
unasked_same a e calls = same_logs machine Inside inside_kept crate_replied same_reply a (λ t. absurd (not_pending a.state.request t e)) calls

-- and so from a new association
-- promise: no7.3 (the same records and the same numbers along any log)
pub new_same : (s : Settings) (list : List ℕ) (calls : List (M.Call rule)) → CrateSame (new_of s list).association calls
new_same s list calls = unasked_same (new_of s list).association (new_pends_nothing s list) calls
