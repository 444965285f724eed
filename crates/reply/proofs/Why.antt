-- RULES, No. 3, of both forms of the call: a reply gives 12, 13 or 14 exactly where it gave 3. Which of them it gives, each number's own rule says (Numbers).
-- Assumes nothing.
use mathlib.Core.Path.{◌≡◌, refl, sym, subst}
use mathlib.Core.Bool.{Bool}
use mathlib.Core.Logic.{◌↔◌}
use Prim.Native.Nat.{ℕ}
use lib.Dec.{T}
use Rattle.std.specs.Prelude.{Option}
use Rattle.association.specs.declared.Association.{Association}
use Rattle.wire_incoming.specs.declared.Reply.{Reply}
use Rattle.reply_rules.specs.Answer.{number_of}
use Rattle.reply_clauses.specs.After.{Arrival, never_sent, already_measured, expired}
use Rattle.reply_clauses.specs.Why.{OnlyOne, first, second, third}
use Rattle.reply_clauses.proofs.Why.{told_apart}
use Rattle.reply.specs.declared.ReplyOut.{ReplyOut}
use Rattle.reply.specs.Reply.{replied_of}
use Rattle.reply.specs.Numbers.{
  for_three,
  WasThree,
  Given,
  not_whole,
  undecodable,
  broken_list,
  unexpected_version,
  never_sent_lem,
  already_measured_lem,
  late,
  no_match,
  rate,
  denied,
  denied_nts,
  ntsn,
  other_kiss,
  bad_stratum,
  not_server,
  measured,
}
use Rattle.reply.proofs.Numbers.{given, only}

module _ (a : Association) (read : Option Reply) (t : Arrival) where
  -- each new one was a 3
  was_three : {n : ℕ} {o : ReplyOut} → Given a read t n o → T (for_three n) → ((r : Reply) × WasThree a read t r)
  was_three (not_whole e) w = absurd w
  was_three (undecodable v e) w = absurd w
  was_three (broken_list d e) w = absurd w
  was_three (unexpected_version l e) w = absurd w
  was_three (never_sent_lem {r} x e) w = (r, record { expected = x; no_live_lem = (told_apart a.state.request t.time).never_sent_was e })
  was_three (already_measured_lem {r} x e) w = (r, record { expected = x; no_live_lem = (told_apart a.state.request t.time).already_measured_was e })
  was_three (late {r} x e) w = (r, record { expected = x; no_live_lem = (told_apart a.state.request t.time).expired_was e })
  was_three (no_match i e) w = absurd w
  was_three (rate m e) w = absurd w
  was_three (denied u e f) w = absurd w
  was_three (denied_nts u e f) w = absurd w
  was_three (ntsn v e) w = absurd w
  was_three (other_kiss k e) w = absurd w
  was_three (bad_stratum k e) w = absurd w
  was_three (not_server s e) w = absurd w
  was_three (measured s e) w = absurd w

  -- each old 3 is one of the new
  gives : {n : ℕ} {o : ReplyOut} → T (for_three (number_of o.replied.answer)) → Given a read t n o →
      T (for_three (number_of (replied_of a read t).replied.answer))
  gives w g = subst (λ (o : ReplyOut). T (for_three (number_of o.replied.answer))) (sym (only a read t g)) w

  now_one : {r : Reply} → WasThree a read t r → T (for_three (number_of (replied_of a read t).replied.answer))
  now_one w = by ((told_apart a.state.request t.time).exactly_one w.no_live_lem) refl refl refl
    where
      by : {n m l : Bool} → OnlyOne n m l → never_sent a.state.request ≡ n → already_measured a.state.request ≡ m →
          expired a.state.request t.time ≡ l →
          T (for_three (number_of (replied_of a read t).replied.answer))
      by first e f g = gives tt (never_sent_lem w.expected e)
      by second e f g = gives tt (already_measured_lem w.expected f)
      by third e f g = gives tt (late w.expected g)

  -- promise: no3.4 (both forms of the call)
  pub for_three_lem : T (for_three (number_of (replied_of a read t).replied.answer)) ↔ ((r : Reply) × WasThree a read t r)
  for_three_lem = (was_three (given a read t), λ (r, w). now_one w)
