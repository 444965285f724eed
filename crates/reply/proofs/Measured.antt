-- RULES, part 11: a measured reply clears the denial; of version 5 it raises the remote minimum to its own poll, of another it leaves it.
-- Assumes nothing.
use mathlib.Core.Path.{◌≡◌, refl, ap, subst, ◌∙◌, sym}
use mathlib.Core.Bool.{Bool, true, false, cond}
use mathlib.Core.Logic.{◌⊎◌, inl, inr}
use Prim.Native.Nat.{ℕ}
use native.Mathlib.Omega.{arith}
use borrow.Author.Tests.{eq-eqb, ne_eqb, ltb-true, le-ltb}
use lib.IntN.{ℤ, pos, negsuc}
use lib.Signed.{lt_z}
use Rattle.std.specs.Prelude.{Option, Some}
use Rattle.time_types.specs.Poll.{larger}
use Rattle.association.specs.declared.Association.{Association}
use Rattle.wire_incoming.specs.declared.Reply.{Reply}
use Rattle.reply_clauses.specs.After.{Arrival, stepped, raised, after_measured}
use Rattle.reply_rules.specs.Answer.{number_of}
use Rattle.reply.specs.declared.ReplyOut.{ReplyOut}
use Rattle.reply.specs.Reply.{replied_of}
use Rattle.reply.specs.Numbers.{
  Given,
  not_whole,
  undecodable,
  broken_list,
  unexpected_version,
  never_sent_lem,
  already_measured_lem,
  late,
  no_match,
  rate,
  denied,
  denied_nts,
  ntsn,
  other_kiss,
  bad_stratum,
  not_server,
  measured,
}
use Rattle.reply.proofs.Numbers.{given}

-- the larger of two: neither is above it, and it is one of them
pub record Larger (a b c : ℤ) : Type 0 where
  pub one : (c ≡ a) ⊎ (c ≡ b)
  pub first : lt_z c a ≡ false
  pub second : lt_z c b ≡ false

-- what a measured reply leaves of the denial and of the remote minimum
pub record Left (a : Association) (r : Reply) (o : ReplyOut) : Type 0 where
  pub no_denial : o.association.state.source.denial ≡ false
  pub five : r.version ≡ 5 → Larger a.state.polls.remote.0 r.poll.0 o.association.state.polls.remote.0
  pub other : (r.version ≡ 5 → ⊥) → o.association.state.polls.remote ≡ a.state.polls.remote

same_not_below : (a : ℤ) → lt_z a a ≡ false
same_not_below (pos m) = le-ltb m m (omega arith)
same_not_below (negsuc m) = le-ltb m m (omega arith)

not_above : (a b : ℤ) → lt_z a b ≡ true → lt_z b a ≡ false
not_above (pos m) (pos n) e = le-ltb n m (omega (arith, ltb-true m n e))
not_above (pos m) (negsuc n) e = let z : ◌≡◌ {A = ℕ} 0 1 = cc in absurd (omega arith)
not_above (negsuc m) (pos n) e = refl
not_above (negsuc m) (negsuc n) e = le-ltb m n (omega (arith, ltb-true n m e))

larger_is : (a b : ℤ) → Larger a b (larger a b)
larger_is a b = by (lt_z a b) refl
  where
    by : (t : Bool) → lt_z a b ≡ t → Larger a b (cond t b a)
    by true e = record { one = inr refl; first = not_above a b e; second = same_not_below b }
    by false e = record { one = inl refl; first = same_not_below a; second = e }

decoded_same : {r x : Reply} → Some r ≡ Some x → r ≡ x
decoded_same e = cc

module _ (a : Association) (read : Option Reply) (t : Arrival) where
  left_by : {n : ℕ} {o : ReplyOut} → Given a read t n o → n ≡ 0 → (r : Reply) → read ≡ Some r → Left a r o
  unfolding stepped after_measured
  left_by (not_whole e) z x d = absurd (omega arith)
  left_by (undecodable w e) z x d = absurd (omega arith)
  left_by (broken_list l e) z x d = absurd (omega arith)
  left_by (unexpected_version l e) z x d = absurd (omega arith)
  left_by (never_sent_lem u e) z x d = absurd (omega arith)
  left_by (already_measured_lem u e) z x d = absurd (omega arith)
  left_by (late u e) z x d = absurd (omega arith)
  left_by (no_match i e) z x d = absurd (omega arith)
  left_by (rate m e) z x d = absurd (omega arith)
  left_by (denied u e f) z x d = absurd (omega arith)
  left_by (denied_nts u e f) z x d = absurd (omega arith)
  left_by (ntsn v e) z x d = absurd (omega arith)
  left_by (other_kiss w e) z x d = absurd (omega arith)
  left_by (bad_stratum k e) z x d = absurd (omega arith)
  left_by (not_server s e) z x d = absurd (omega arith)
  left_by (measured {r} s e) z x d =
      let same : r ≡ x = decoded_same (sym s.unkissed.acknowledged.undenied.unlimited.matching.in_time.expected.listed.read_as.decoded ∙ d) in
      record {
        no_denial = refl;
        five = λ f. subst (λ (y : Reply). Larger a.state.polls.remote.0 y.poll.0 (raised a.state.polls.remote r).0) same
            (rw (eq-eqb r.version 5 (ap (λ (y : Reply). y.version) same ∙ f)) (larger_is a.state.polls.remote.0 r.poll.0));
        other = λ f. rw (ne_eqb r.version 5 (λ q. f (sym (ap (λ (y : Reply). y.version) same) ∙ q)));
      }

  pub measured_leaves : number_of (replied_of a read t).replied.answer ≡ 0 → (r : Reply) → read ≡ Some r → Left a r (replied_of a read t)
  measured_leaves e r d = left_by (given a read t) e r d
