-- The verdict for an answer: the next state, and whether cookies are stored, follow from its number (RULES, part 11).
-- Assumes nothing.
use Rattle.std.specs.Prelude.{◌≡◌, Bool, false, cond, ℕ, eqb, ltb}
use Rattle.time_types.specs.declared.NtpTimestamp.{NtpTimestamp}
use Rattle.association.specs.declared.Settings.{Settings}
use Rattle.association.specs.declared.State.{State}
use Rattle.wire_incoming.specs.declared.Reply.{Reply}
use Rattle.reply_clauses.specs.After.{stepped, after_rate_kiss, after_denial, after_measured}
use Rattle.reply_rules.specs.declared.ReplyAnswer.{ReplyAnswer}
use Rattle.reply_rules.specs.declared.Verdict.{Verdict}
use Rattle.reply_rules.specs.Answer.{number_of}
use Rattle.reply_rules.specs.Judge.{matched_of}

-- the answer to a matching reply, whatever the state is
abbrev pub Matched : Settings → Reply → NtpTimestamp → NtpTimestamp → ℕ → ReplyAnswer → Type 0
Matched g r t1 t4 time a = (s : State) → a ≡ (matched_of g s r t1 t4 time).answer

-- 0 and 5 to 11: the reply matched, and the upgrade step is made
unfoldable pub after_of : Settings → State → Reply → ℕ → State
after_of g s r n =
    cond (eqb n 0) (after_measured (stepped s) r)
    (cond (ltb n 5) s
    (cond (ltb 11 n) s
    (cond (eqb n 5) (after_rate_kiss g (stepped s))
    (cond (eqb n 6) (after_denial (stepped s))
    (stepped s)))))

unfoldable pub stores_of : Bool → ℕ → Bool
stores_of nts n = cond (eqb n 0) nts false

unfoldable pub told_of : Settings → State → Reply → ReplyAnswer → Verdict
told_of g s r a = record { answer = a; state = after_of g s r (number_of a); stores = stores_of g.nts (number_of a) }
