-- The association obeys the laws: its settings never change, what is pending follows the log's own rule, and so does whether a reply has been measured
-- since; by these a reply is told why no request was live; and a well-formed reply that answers nothing pending is refused and leaves the record.
-- Assumes nothing.
use mathlib.Core.Path.{◌≡◌, refl, sym, ap, ◌∙◌}
use mathlib.Core.Bool.{Bool, true, false, not, cond, false≢true}
use mathlib.Core.List.{[]}
use Rattle.std.specs.Prelude.{Option, None, Some}
use Prim.Native.Nat.{ℕ}
use lib.Dec.{T, eqb}
use lib.ListN.{length}
use borrow.Author.Tests.{not-true, ltb-true, lt-leb}
use Rattle.words.proofs.Tests.{passes, both}
use Rattle.association.specs.declared.Pending.{Pending}
use Rattle.association.specs.declared.Association.{Association}
use Rattle.association.specs.Record.{no_pending}
use Rattle.wire_incoming.specs.declared.Reply.{Reply}
use Rattle.timer_rules.specs.Answer as timer
use Rattle.timer_rules.specs.declared.TimerInput.{TimerInput}
use Rattle.timer_rules.specs.Poll.{pending_of}
use Rattle.timer.proofs.After.{rang}
use Rattle.reply_rules.specs.Answer as reply
use Rattle.reply_clauses.specs.After.{Arrival, unexpired, live}
use Rattle.reply_rules.proofs.Actions.{reply_acts}
use Rattle.reply.specs.declared.ReplyOut.{ReplyOut}
use Rattle.reply.specs.Numbers as N
use Rattle.reply.specs.Numbers.{
  not_whole,
  undecodable,
  broken_list,
  unexpected_version,
  never_sent_lem,
  already_measured_lem,
  late,
  no_match,
  rate,
  denied,
  denied_nts,
  ntsn,
  other_kiss,
  bad_stratum,
  not_server,
  measured,
}
use Rattle.reply.proofs.Numbers.{given}
use Rattle.reply.proofs.After.{heard}
use Rattle.laws_log.specs.Log as log
use Rattle.laws_log.specs.Machine as M
use Rattle.laws.specs.Association.{ReplyIn, arrival_of, read_as, answers_as, rule, pending_in, timed, replied, machine}

module _ {a : Association} {read : Option Reply} {t : Arrival} where
  -- a reply that matches answers what is pending, in time
  matches : {r : Reply} → N.Matching a read t r → (live a.state.request t.time ≡ true) × (answers_as a.settings a.state.request read ≡ true)
  matches m =
      let e = m.in_time.expected.listed.read_as.decoded in
      (m.in_time.pending, ap (answers_as a.settings a.state.request) e ∙ m.identifiers)

  -- a well-formed reply that does not is refused, causes no action and leaves the record
  refused_by : {n : ℕ} {o : ReplyOut} → N.Given a read t n o →
      ((live a.state.request t.time ≡ true) × (answers_as a.settings a.state.request read ≡ true) → ⊥) → T (log.well_formed n) →
      T (log.refusal n) × (reply.actions_of n ≡ []) × (o.association ≡ a)
  refused_by (not_whole e) dead w = absurd w
  refused_by (undecodable x e) dead w = absurd w
  refused_by (broken_list d e) dead w = absurd w
  refused_by (unexpected_version l e) dead w = (tt, reply_acts.none_2, refl)
  refused_by (never_sent_lem x e) dead w = (tt, reply_acts.none_12, refl)
  refused_by (already_measured_lem x e) dead w = (tt, reply_acts.none_13, refl)
  refused_by (late x e) dead w = (tt, reply_acts.none_14, refl)
  refused_by (no_match i e) dead w = (tt, reply_acts.none_4, refl)
  refused_by (rate m e) dead w = absurd (dead (matches m))
  refused_by (denied u e f) dead w = absurd (dead (matches u.matching))
  refused_by (denied_nts u e f) dead w = absurd (dead (matches u.matching))
  refused_by (ntsn v e) dead w = absurd (dead (matches v.unlimited.matching))
  refused_by (other_kiss x e) dead w = absurd (dead (matches x.undenied.unlimited.matching))
  refused_by (bad_stratum k e) dead w = absurd (dead (matches k.acknowledged.undenied.unlimited.matching))
  refused_by (not_server s e) dead w = absurd (dead (matches s.unkissed.acknowledged.undenied.unlimited.matching))
  refused_by (measured s e) dead w = absurd (dead (matches s.unkissed.acknowledged.undenied.unlimited.matching))

-- what a reply is read as, beside the record that it meets
abbrev read_by : Association → ReplyIn → Option Reply
read_by a r = read_as a.settings a.state.request r

-- what is pending after a choice of requests
pending_cond : (b : Bool) (q : Pending) → pending_in (cond b (no_pending true) q) ≡ cond b None (pending_in q)
unfolding no_pending
pending_cond true q = refl
pending_cond false q = refl

pending_asked : (b : Bool) (q p : Pending) → p.present ≡ true → pending_in (cond b p q) ≡ cond b (Some p) (pending_in q)
pending_asked true q p e = rw e
pending_asked false q p e = refl

pending_present : (nts : Bool) (window : ℕ) (i : TimerInput) → (pending_of nts window i).present ≡ true
unfolding pending_of
pending_present nts window i = refl

-- what is live by the log's rule is live by the rules of 12, 13, 14 and 4
live_by : (a : Association) (r : ReplyIn) → log.live rule a.settings (pending_in a.state.request) r ≡ false →
    (live a.state.request (arrival_of r).time ≡ true) × (answers_as a.settings a.state.request (read_by a r) ≡ true) → ⊥
live_by a r dead m =
    let p = both a.state.request.present _ m.0 in
    let pending : pending_in a.state.request ≡ Some a.state.request = rw p.0 in
    false≢true (sym dead ∙ ap (λ q. log.live rule a.settings q r) pending ∙ passes _ p.1 ∙ m.1)

settings_kept : (a : Association) (c : M.Call rule) → (M.step machine a c).settings ≡ a.settings
settings_kept a (M.timer t) = (rang a t.poll (length t.buffer)).settings
settings_kept a (M.reply r) = (heard a (read_by a r) (arrival_of r) (given a (read_by a r) (arrival_of r))).settings

pending_next : (a : Association) (c : M.Call rule) →
    pending_in (M.step machine a c).state.request ≡ log.next rule a.settings (pending_in a.state.request) (M.note machine (M.made machine a c))
pending_next a (M.timer t) =
    ap pending_in (rang a t.poll (length t.buffer)).request
    ∙ pending_asked (eqb (timer.number_of (timed a t).0.0) 20) a.state.request _ (pending_present a.settings.nts a.settings.window t.poll)
pending_next a (M.reply r) =
    ap pending_in (heard a (read_by a r) (arrival_of r) (given a (read_by a r) (arrival_of r))).request
    ∙ pending_cond (eqb (reply.number_of (replied a r).0.answer) 0) a.state.request

-- whether a reply has been measured after a choice of requests
answered_cond : (b : Bool) (q : Pending) → (cond b (no_pending true) q).answered ≡ cond b true q.answered
unfolding no_pending
answered_cond true q = refl
answered_cond false q = refl

answered_asked : (b nts : Bool) (window : ℕ) (i : TimerInput) (q : Pending) → (cond b (pending_of nts window i) q).answered ≡ cond b false q.answered
unfolding pending_of
answered_asked true nts window i q = refl
answered_asked false nts window i q = refl

answered_next : (a : Association) (c : M.Call rule) →
    (M.step machine a c).state.request.answered ≡ log.next_answered a.state.request.answered (M.note machine (M.made machine a c))
answered_next a (M.timer t) =
    ap (λ (q : Pending). q.answered) (rang a t.poll (length t.buffer)).request
    ∙ answered_asked (eqb (timer.number_of (timed a t).0.0) 20) a.settings.nts a.settings.window t.poll a.state.request
answered_next a (M.reply r) =
    ap (λ (q : Pending). q.answered) (heard a (read_by a r) (arrival_of r) (given a (read_by a r) (arrival_of r))).request
    ∙ answered_cond (eqb (reply.number_of (replied a r).0.answer) 0) a.state.request

-- ---- why no request was live

module _ (a : Association) (r : ReplyIn) where
  abbrev reason : ℕ
  reason = log.reason rule (pending_in a.state.request) a.state.request.answered r

  -- of a request that is absent or not, answered or not, and unexpired or not
  abbrev reason_of : Bool → Bool → Bool → ℕ
  reason_of present answered unexpired = cond present (cond unexpired 0 14) (cond answered 13 12)

  reason_is : reason ≡ reason_of a.state.request.present a.state.request.answered (unexpired a.state.request.deadline (arrival_of r).time)
  reason_is = by a.state.request.present a.state.request.answered
    where
      by : (present answered : Bool) → log.reason rule (cond present (Some a.state.request) None) answered r
          ≡ reason_of present answered (unexpired a.state.request.deadline (arrival_of r).time)
      by true answered = refl
      by false true = refl
      by false false = refl

  live_reason : live a.state.request (arrival_of r).time ≡ true → 0 ≡ reason
  live_reason e = let p = both a.state.request.present _ e in sym (reason_is ∙ rw (p.0, p.1))

  told_by : {n : ℕ} {o : ReplyOut} → N.Given a (read_by a r) (arrival_of r) n o → T (log.considered n) → log.says n ≡ reason
  told_by (not_whole e) w = absurd w
  told_by (undecodable x e) w = absurd w
  told_by (broken_list d e) w = absurd w
  told_by (unexpected_version l e) w = absurd w
  told_by (never_sent_lem x e) w = let p = both (not a.state.request.present) _ e in
      sym (reason_is ∙ rw (not-true a.state.request.present p.0, not-true a.state.request.answered p.1))
  told_by (already_measured_lem x e) w = let p = both (not a.state.request.present) _ e in
      sym (reason_is ∙ rw (not-true a.state.request.present p.0, p.1))
  told_by (late x e) w =
      let p = both a.state.request.present _ e in
      sym (reason_is ∙ rw (p.0, lt-leb _ _ (ltb-true _ _ p.1)))
  told_by (no_match i e) w = live_reason i.pending
  told_by (rate m e) w = live_reason m.in_time.pending
  told_by (denied u e f) w = live_reason u.matching.in_time.pending
  told_by (denied_nts u e f) w = live_reason u.matching.in_time.pending
  told_by (ntsn v e) w = live_reason v.unlimited.matching.in_time.pending
  told_by (other_kiss x e) w = live_reason x.undenied.unlimited.matching.in_time.pending
  told_by (bad_stratum k e) w = live_reason k.acknowledged.undenied.unlimited.matching.in_time.pending
  told_by (not_server s e) w = live_reason s.unkissed.acknowledged.undenied.unlimited.matching.in_time.pending
  told_by (measured s e) w = live_reason s.unkissed.acknowledged.undenied.unlimited.matching.in_time.pending

-- promise: demand.3 (the association obeys them)
pub laws : M.Laws machine
laws = record {
  settings_kept = settings_kept;
  pending_next = pending_next;
  answered_next = answered_next;
  told = λ a r. told_by a r (given a (read_by a r) (arrival_of r));
  refused = λ a r dead w. refused_by (given a (read_by a r) (arrival_of r)) (live_by a r dead) w;
}
