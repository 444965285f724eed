-- Each number is given exactly under its rule (specs/Numbers.antt), with that rule's answer and record. What is said is over what was read, and so holds of
-- both forms.
-- Assumes nothing.
use mathlib.Core.Path.{◌≡◌, refl, ap, subst, ◌∙◌}
use mathlib.Core.Bool.{true, not, cond}
use mathlib.Core.Logic.{◌↔◌}
use Prim.Native.Nat.{ℕ}
use lib.Dec.{ltb}
use borrow.Author.Tests.{not-true, not-false}
use Rattle.std.specs.Prelude.{Option, Some, None}
use Rattle.words.proofs.Tests.{either, when, unless}
use Rattle.cookiestash.specs.Whole.{seen_of}
use Rattle.version.specs.Upgrade.{expects_of}
use Rattle.association.specs.declared.Association.{Association}
use Rattle.association.specs.Record.{whole_of}
use Rattle.wire_incoming.specs.declared.Reply.{Reply}
use Rattle.reply_rules.specs.declared.ReplyAnswer.TheVariants.{Measured, NeverSent, AlreadyMeasured, Expired, NoMatch, NotServer}
use Rattle.reply_rules.specs.declared.Verdict.{Verdict}
use Rattle.reply_rules.specs.Answer.{number_of}
use Rattle.reply_clauses.specs.After.{Arrival, never_sent, already_measured, expired, answers, denies, stepped, after_measured, measurement_of}
use Rattle.reply_clauses.proofs.Why.{passed_live, live_passed, measured_only, expired_only}
use Rattle.cookielist.specs.List.{list_broken}
use Rattle.reply_rules.specs.Judge.{leaves, matched_of, judge_of, on_read, verdict_of}
use Rattle.reply.specs.declared.ReplyOut.{ReplyOut}
use Rattle.reply.specs.Reply.{judged, replied_of}
use Rattle.reply.specs.Numbers as N
use Rattle.reply.specs.Numbers.{
  not_whole,
  undecodable,
  broken_list,
  unexpected_version,
  never_sent_lem,
  already_measured_lem,
  late,
  no_match,
  rate,
  denied,
  denied_nts,
  ntsn,
  other_kiss,
  bad_stratum,
  not_server,
  measured,
}

module _ (a : Association) (read : Option Reply) (t : Arrival) where
  abbrev Given : ℕ → ReplyOut → Type 0
  Given = N.Given a read t

  -- a verdict is given under the rule of its own number
  abbrev Told : Verdict → Type 0
  Told v = Given (number_of v.answer) (judged a t.list v)

  abbrev verdict : Verdict
  verdict = verdict_of a.settings a.state (seen_of a.settings.capacity a.stash) read t

  matched_told : (r : Reply) → N.Matching a read t r → Told (matched_of a.settings (stepped a.state) r t.t1 t.t4 t.time)
  unfolding matched_of
  matched_told r m =
      either Told r.kisses.rate (rate m)
      (λ e5. let u : N.Unlimited a read t r = record { matching = m; rate = e5 } in
      either Told (denies r)
      (λ e. either Told a.settings.nts (denied_nts u e) (denied u e))
      (λ e6. let v : N.Undenied a read t r = record { unlimited = u; denial = e6 } in
      either Told r.kisses.ntsn (ntsn v)
      (λ e8. let w : N.Acknowledged a read t r = record { undenied = v; ntsn = e8 } in
      either Told r.kisses.any (other_kiss w)
      (λ e9. let k : N.Unkissed a read t r = record { acknowledged = w; kiss = e9 } in
      either Told (ltb 16 r.stratum) (bad_stratum k)
      (λ e10. let s : N.Ranked a read t r = record { unkissed = k; stratum = e10 } in
      either Told (not r.server) (λ e. not_server s (not-true _ e)) (λ e. measured s (not-false _ e)))))))

  judge_told : (r : Reply) → N.Read a read t r → Told (judge_of a.settings a.state r t)
  unfolding judge_of
  judge_told r d =
      either Told (list_broken a.settings.nts t.list) (broken_list d)
      (λ e33. let l : N.Listed a read t r = record { read_as = d; cookies = e33 } in
      either Told (not (expects_of a.state.version r.version)) (λ e. unexpected_version l (not-true _ e))
      (λ e2. let x : N.Expected a read t r = record { listed = l; version = not-false _ e2 } in
      either Told (never_sent a.state.request) (never_sent_lem x)
      (λ e12. either Told (already_measured a.state.request) (already_measured_lem x)
      (λ e13. either Told (expired a.state.request t.time) (late x)
      (λ e14. let i : N.InTime a read t r = record { expected = x; pending = passed_live a.state.request t.time e12 e13 e14 } in
      either Told (not (answers a.settings.nts a.state.request.id r)) (λ e. no_match i (not-true _ e))
      (λ e4. matched_told r (record { in_time = i; identifiers = not-false _ e4 })))))))

  told : Told verdict
  unfolding verdict_of whole_of
  told = either Told (whole_of a) (λ e. by e read refl) not_whole
    where
      by : whole_of a ≡ true → (got : Option Reply) → read ≡ got → Told (on_read a.settings a.state t got)
      by e (Some r) q = judge_told r (record { whole = e; decoded = q })
      by e None q = undecodable e q

  -- ---- how far a reply comes that passes the tests

  -- what a reply that answers what is pending comes to; and one to which a request is pending, or was
  abbrev matched : Reply → Verdict
  matched r = matched_of a.settings (stepped a.state) r t.t1 t.t4 t.time

  abbrev unsent : Reply → Verdict
  unsent r =
      cond (already_measured a.state.request) (leaves AlreadyMeasured a.state)
      (cond (expired a.state.request t.time) (leaves Expired a.state)
      (cond (not (answers a.settings.nts a.state.request.id r)) (leaves NoMatch a.state) (matched r)))

  to_read : {r : Reply} → N.Read a read t r → verdict ≡ judge_of a.settings a.state r t
  unfolding verdict_of whole_of
  to_read d = when _ _ d.whole ∙ ap (on_read a.settings a.state t) d.decoded

  to_expected : {r : Reply} → N.Expected a read t r → verdict ≡ cond (never_sent a.state.request) (leaves NeverSent a.state) (unsent r)
  unfolding judge_of
  to_expected x = let l = x.listed in to_read l.read_as ∙ unless _ _ l.cookies ∙ unless _ _ (ap not x.version)

  to_in_time : {r : Reply} → N.InTime a read t r →
      verdict ≡ cond (not (answers a.settings.nts a.state.request.id r)) (leaves NoMatch a.state) (matched r)
  to_in_time i =
      let p = live_passed a.state.request t.time i.pending in
      to_expected i.expected ∙ unless _ _ p.sent ∙ unless _ _ p.unmeasured ∙ unless _ _ p.in_time

  to_matched : {r : Reply} → N.Matching a read t r → verdict ≡ matched r
  to_matched m = to_in_time m.in_time ∙ unless _ _ (ap not m.identifiers)

  to_ranked : {r : Reply} → N.Ranked a read t r →
      let next = stepped a.state in
      verdict ≡ cond (not r.server) (leaves NotServer next)
      (record { answer = Measured (measurement_of r t.t1 t.t4 t.time); state = after_measured next r; stores = a.settings.nts })
  unfolding matched_of
  to_ranked s =
      let k = s.unkissed in
      let w = k.acknowledged in
      let v = w.undenied in
      let u = v.unlimited in
      to_matched u.matching ∙ unless _ _ u.rate ∙ unless _ _ v.denial ∙ unless _ _ w.ntsn ∙ unless _ _ k.kiss ∙ unless _ _ s.stratum

  -- where a number's rule holds, its verdict is given, and no other
  ruled : {n : ℕ} {o : ReplyOut} → Given n o → (number_of o.replied.answer ≡ n) × (judged a t.list verdict ≡ o)
  unfolding verdict_of whole_of judge_of matched_of
  ruled (not_whole e) = (refl, ap (judged a t.list) (unless _ _ e))
  ruled (undecodable w e) = (refl, ap (judged a t.list) (when _ _ w ∙ ap (on_read a.settings a.state t) e))
  ruled (broken_list d e) = (refl, ap (judged a t.list) (to_read d ∙ when _ _ e))
  ruled (unexpected_version l e) = (refl, ap (judged a t.list) (to_read l.read_as ∙ unless _ _ l.cookies ∙ when _ _ (ap not e)))
  ruled (never_sent_lem x e) = (refl, ap (judged a t.list) (to_expected x ∙ when _ _ e))
  ruled (already_measured_lem x e) =
      let p = measured_only a.state.request e in
      (refl, ap (judged a t.list) (to_expected x ∙ unless _ _ p ∙ when _ _ e))
  ruled (late x e) =
      let p = expired_only a.state.request t.time e in
      (refl, ap (judged a t.list) (to_expected x ∙ unless _ _ p.0 ∙ unless _ _ p.1 ∙ when _ _ e))
  ruled (no_match i e) = (refl, ap (judged a t.list) (to_in_time i ∙ when _ _ (ap not e)))
  ruled (rate m e) = (refl, ap (judged a t.list) (to_matched m ∙ when _ _ e))
  ruled (denied u e f) = (refl, ap (judged a t.list) (to_matched u.matching ∙ unless _ _ u.rate ∙ when _ _ e ∙ unless _ _ f))
  ruled (denied_nts u e f) = (refl, ap (judged a t.list) (to_matched u.matching ∙ unless _ _ u.rate ∙ when _ _ e ∙ when _ _ f))
  ruled (ntsn v e) =
      let u = v.unlimited in
      (refl, ap (judged a t.list) (to_matched u.matching ∙ unless _ _ u.rate ∙ unless _ _ v.denial ∙ when _ _ e))
  ruled (other_kiss w e) =
      let v = w.undenied in
      let u = v.unlimited in
      (refl, ap (judged a t.list) (to_matched u.matching ∙ unless _ _ u.rate ∙ unless _ _ v.denial ∙ unless _ _ w.ntsn ∙ when _ _ e))
  ruled (bad_stratum k e) =
      let w = k.acknowledged in
      let v = w.undenied in
      let u = v.unlimited in (
        refl,
        ap (judged a t.list) (to_matched u.matching ∙ unless _ _ u.rate ∙ unless _ _ v.denial ∙ unless _ _ w.ntsn ∙ unless _ _ k.kiss
            ∙ when _ _ e),
      )
  ruled (not_server s e) = (refl, ap (judged a t.list) (to_ranked s ∙ when _ _ (ap not e)))
  ruled (measured s e) = (refl, ap (judged a t.list) (to_ranked s ∙ unless _ _ (ap not e)))

  -- ---- what is given, it is given under the rule of its number

  -- promise: 11.1, no8.6 (at 32)
  pub given : Given (number_of (replied_of a read t).replied.answer) (replied_of a read t)
  unfolding replied_of
  given = told

  -- where a number's rule holds, that rule's answer and record are given
  -- promise: 11.1, no8.6 (at 32)
  pub only : {n : ℕ} {o : ReplyOut} → Given n o → replied_of a read t ≡ o
  unfolding replied_of
  only g = (ruled g).1

  -- so a number is given if and only if its rule holds
  -- promise: 11.1 (of both forms), 11.2 (at 12, 13 and 14), 11.7 (at 10)
  pub number : (n : ℕ) → (number_of (replied_of a read t).replied.answer ≡ n) ↔ ((o : ReplyOut) × Given n o)
  number n = (
    λ e. (replied_of a read t, subst (λ (k : ℕ). Given k (replied_of a read t)) e given),
    λ g. ap (λ (o : ReplyOut). number_of o.replied.answer) (only g.1) ∙ (ruled g.1).0,
  )
