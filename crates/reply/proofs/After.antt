-- What a reply leaves: on 1, 2, 4, 12, 13, 14, 32 and 33 the record; on 7 to 11 all but the version; on all but 0 the pending request and the fact beside it
-- (No. 3), which 0 clears and makes yes, and the unanswered polls (No. 8), of which 0 leaves none, with reach and tries; always the settings.
-- And the poll values: the last one stays, and the remote minimum never falls; on all but 0 and 5 it stays too.
-- Assumes nothing.
use mathlib.Core.Path.{◌≡◌, refl, sym, ap, ◌∙◌}
use mathlib.Core.Bool.{true, false, ◌&&◌, ◌||◌, cond}
use Prim.Native.Nat.{ℕ}
use lib.Dec.{T, leb, eqb}
use lib.Signed.{◌≤ℤ◌, ≤ℤ_refl}
use Rattle.std.specs.Prelude.{Option}
use Rattle.words.proofs.Tests.{unless}
use Rattle.time_types.specs.Poll.{interval, after_rate}
use Rattle.time_types.proofs.Rate.{rate_keeps}
use Rattle.association.specs.declared.Association.{Association}
use Rattle.association.specs.declared.Effort.{Effort}
use Rattle.association.specs.declared.Polls.{Polls}
use Rattle.association.specs.declared.State.{State}
use Rattle.association.specs.Record.{no_pending, with_state}
use Rattle.wire_incoming.specs.declared.Reply.{Reply}
use Rattle.reply_clauses.specs.After.{Arrival, stepped, after_rate_kiss, after_denial, after_measured}
use Rattle.reply_clauses.proofs.Remote.{raised_keeps}
use Rattle.reply_rules.specs.declared.ReplyAnswer.{ReplyAnswer}
use Rattle.reply.specs.declared.ReplyOut.{ReplyOut}
use Rattle.reply.specs.Reply.{out}
use Rattle.reply.specs.Numbers.{
  Given,
  not_whole,
  undecodable,
  broken_list,
  unexpected_version,
  never_sent_lem,
  already_measured_lem,
  late,
  no_match,
  rate,
  denied,
  denied_nts,
  ntsn,
  other_kiss,
  bad_stratum,
  not_server,
  measured,
}

-- what a reply that gives the number n leaves
pub record Heard (a : Association) (n : ℕ) (o : ReplyOut) : Type 0 where
  pub settings : o.association.settings ≡ a.settings
  pub request : o.association.state.request ≡ cond (eqb n 0) (no_pending true) a.state.request
  pub effort : (n ≡ 0 → ⊥) → o.association.state.effort ≡ a.state.effort
  pub unanswered : o.association.state.effort.unanswered ≡ cond (eqb n 0) 0 a.state.effort.unanswered
  pub same : T ((leb 1 n && leb n 4) || leb 12 n) → o.association ≡ a
  pub version : T (leb 7 n && leb n 11) → o.association ≡ with_state a (stepped a.state)

-- with most numbers nothing changes
unchanged : {a : Association} {n : ℕ} {r : ReplyAnswer} → eqb n 0 ≡ false → (T (leb 7 n && leb n 11) → ⊥) → Heard a n (out r a)
unchanged z v =
    record {
      settings = refl;
      request = sym (unless _ _ z);
      effort = λ _. refl;
      unanswered = sym (unless _ _ z);
      same = λ _. refl;
      version = λ t. absurd (v t);
    }

-- a matching reply that is not measured leaves effort and request
matched : {a : Association} {n : ℕ} {r : ReplyAnswer} (s : State) → eqb n 0 ≡ false → (T ((leb 1 n && leb n 4) || leb 12 n) → ⊥) →
    s.effort ≡ a.state.effort → s.request ≡ a.state.request → (T (leb 7 n && leb n 11) → s ≡ stepped a.state) → Heard a n (out r (with_state a s))
matched {a} s z k f q v =
    record {
      settings = refl;
      request = q ∙ sym (unless _ _ z);
      effort = λ _. f;
      unanswered = ap (λ (e : Effort). e.unanswered) f ∙ sym (unless _ _ z);
      same = λ t. absurd (k t);
      version = λ t. ap (with_state a) (v t);
    }

module _ (a : Association) (read : Option Reply) (t : Arrival) where
  -- promise 11.6: Kisses, 10 and 11 leave the request pending.
  --     edit: reply_rules/a_kiss_clears_the_request
  -- promise 11.9: The numbers 1, 2, 4, 12, 13, 14, 32 and 33 leave the record unchanged.
  -- promise: 11.6 (its `request`, `settings`, `version`), 11.9 (its `same`), no8.4 (its `unanswered`), demand.1
  pub heard : {n : ℕ} {o : ReplyOut} → Given a read t n o → Heard a n o
  unfolding stepped after_rate_kiss after_denial after_measured
  heard (not_whole e) = unchanged refl (λ t. t)
  heard (undecodable w e) = unchanged refl (λ t. t)
  heard (broken_list d e) = unchanged refl (λ t. t)
  heard (unexpected_version l e) = unchanged refl (λ t. t)
  heard (never_sent_lem x e) = unchanged refl (λ t. t)
  heard (already_measured_lem x e) = unchanged refl (λ t. t)
  heard (late x e) = unchanged refl (λ t. t)
  heard (no_match i e) = unchanged refl (λ t. t)
  heard (rate m e) = matched _ refl (λ t. t) refl refl absurd
  heard (denied u e f) = matched _ refl (λ t. t) refl refl absurd
  heard (denied_nts u e f) = matched _ refl (λ t. t) refl refl (λ _. refl)
  heard (ntsn v e) = matched _ refl (λ t. t) refl refl (λ _. refl)
  heard (other_kiss w e) = matched _ refl (λ t. t) refl refl (λ _. refl)
  heard (bad_stratum k e) = matched _ refl (λ t. t) refl refl (λ _. refl)
  heard (not_server s e) = matched _ refl (λ t. t) refl refl (λ _. refl)
  heard (measured s e) = record { settings = refl; request = refl; effort = λ u. absurd (u refl); unanswered = refl; same = absurd; version = absurd }

-- ---- the poll values

-- what a reply that gives the number n makes of them
pub record Paced (a : Association) (n : ℕ) (o : ReplyOut) : Type 0 where
  pub last : o.association.state.polls.last ≡ a.state.polls.last
  -- a 5 moves the remote minimum by the rule of RATE, and a 0 may raise it to the poll of a V5 reply
  pub remote : (n ≡ 0 → ⊥) → o.association.state.polls.remote ≡
      cond (eqb n 5) (interval (after_rate a.state.polls.remote.0 a.settings.max.0 a.state.polls.last.0)) a.state.polls.remote
  pub least : a.state.polls.remote.0 ≤ℤ o.association.state.polls.remote.0

unmoved : {a : Association} {n : ℕ} {o : ReplyOut} → eqb n 5 ≡ false → o.association.state.polls ≡ a.state.polls → Paced a n o
unmoved {a} e p =
    let same = ap (λ (x : Polls). x.remote) p in
    record { last = ap (λ (x : Polls). x.last) p; remote = λ _. same ∙ sym (unless _ _ e); least = rw same (≤ℤ_refl a.state.polls.remote.0) }

module _ (a : Association) (read : Option Reply) (t : Arrival) where
  -- promise: 11.4 (its `remote`, `last`)
  pub paced : {n : ℕ} {o : ReplyOut} → Given a read t n o → Paced a n o
  unfolding stepped after_rate_kiss after_denial after_measured
  paced (not_whole e) = unmoved refl refl
  paced (undecodable w e) = unmoved refl refl
  paced (broken_list d e) = unmoved refl refl
  paced (unexpected_version l e) = unmoved refl refl
  paced (never_sent_lem x e) = unmoved refl refl
  paced (already_measured_lem x e) = unmoved refl refl
  paced (late x e) = unmoved refl refl
  paced (no_match i e) = unmoved refl refl
  paced (rate m e) = record {
    last = refl;
    remote = λ _. refl;
    least = rate_keeps a.state.polls.remote.0 a.settings.max.0
        a.state.polls.last.0;
  }
  paced (denied u e f) = unmoved refl refl
  paced (denied_nts u e f) = unmoved refl refl
  paced (ntsn v e) = unmoved refl refl
  paced (other_kiss w e) = unmoved refl refl
  paced (bad_stratum k e) = unmoved refl refl
  paced (not_server s e) = unmoved refl refl
  paced (measured {r} s e) = record { last = refl; remote = λ u. absurd (u refl); least = raised_keeps a.state.polls.remote r }
