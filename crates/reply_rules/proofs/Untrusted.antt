-- What is judged of a reply that is no NTSN kiss does not depend on its untrusted group: neither the number nor the state (RULES, part 8).
-- Assumes nothing.
use mathlib.Core.Path.{◌≡◌}
use mathlib.Core.Bool.{false}
use Rattle.wire_groups.specs.declared.Uid.{Uid}
use Rattle.association.specs.declared.Settings.{Settings}
use Rattle.association.specs.declared.State.{State}
use Rattle.wire_incoming.specs.declared.Reply.{Reply}
use Rattle.reply_clauses.specs.After.{Arrival, after_measured, measurement_of}
use Rattle.reply_clauses.proofs.Untrusted.{with_untrusted, answers_same}
use Rattle.reply_rules.specs.Judge.{matched_of, judge_of}

pub judged_same : (r : Reply) (u : Uid) → r.kisses.ntsn ≡ false → (g : Settings) (s : State) (t : Arrival) →
    judge_of g s (with_untrusted r u) t ≡ judge_of g s r t
unfolding judge_of matched_of after_measured measurement_of
judged_same r u plain g s t = rw (answers_same r u plain g.nts s.request.id)
