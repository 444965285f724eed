-- RULES, part 11: the verdict on a reply, from the settings, the state and the summary of the stash. In order 32, 1 (byte form), 33, 2, 12, 13, 14, 4, the
-- upgrade step, then 5 to 11.
-- Assumes nothing.
use Rattle.std.specs.Prelude.{false, not, cond, List, ℕ, ltb, Option, Some, None}
use Rattle.cookielist.specs.List.{list_broken}
use Rattle.cookiestash.specs.declared.Seen.{Seen}
use Rattle.version.specs.Upgrade.{expects_of}
use Rattle.time_types.specs.declared.NtpTimestamp.{NtpTimestamp}
use Rattle.association.specs.declared.Settings.{Settings}
use Rattle.association.specs.declared.State.{State}
use Rattle.association.specs.Record.{whole_seen}
use Rattle.wire_incoming.specs.declared.Reply.{Reply}
use Rattle.wire_incoming.specs.Incoming.{read_of}
use Rattle.reply_rules.specs.declared.ReplyAnswer.{ReplyAnswer}
use Rattle.reply_rules.specs.declared.ReplyAnswer.TheVariants.{
  Measured,
  Undecodable,
  UnexpectedVersion,
  NeverSent,
  AlreadyMeasured,
  Expired,
  NoMatch,
  Rate,
  Denied,
  DeniedNts,
  Ntsn,
  OtherKiss,
  BadStratum,
  NotServer,
  NotWhole,
  BrokenList,
}
use Rattle.reply_rules.specs.declared.Verdict.{Verdict}
use Rattle.reply_clauses.specs.After.{
  Arrival,
  never_sent,
  already_measured,
  expired,
  answers,
  denies,
  stepped,
  after_rate_kiss,
  after_denial,
  after_measured,
  measurement_of,
}

-- the answer and the next state, with no cookie stored
abbrev pub leaves : ReplyAnswer → State → Verdict
leaves r s = record { answer = r; state = s; stores = false }

-- a matching reply, after the upgrade step: 5 to 11 in order, otherwise 0; if measured, with NTS the cookies are stored
-- promise 11.7: Number 10: stratum over 16.
-- promise: 11.1
unfoldable pub matched_of : Settings → State → Reply → NtpTimestamp → NtpTimestamp → ℕ → Verdict
matched_of g s r t1 t4 time =
    cond r.kisses.rate (leaves Rate (after_rate_kiss g s))
    (cond (denies r)
    (cond g.nts (leaves DeniedNts s) (leaves Denied (after_denial s)))
    (cond r.kisses.ntsn (leaves Ntsn s)
    (cond r.kisses.any (leaves OtherKiss s)
    (cond (ltb 16 r.stratum) (leaves BadStratum s)
    (cond (not r.server) (leaves NotServer s)
    (record { answer = Measured (measurement_of r t1 t4 time); state = after_measured s r; stores = g.nts }))))))

-- a reply that was read: 33, 2, 12, 13, 14, 4, then the upgrade step and what follows it
-- promise: 11.1
unfoldable pub judge_of : Settings → State → Reply → Arrival → Verdict
judge_of g s r t =
    cond (list_broken g.nts t.list) (leaves BrokenList s)
    (cond (not (expects_of s.version r.version)) (leaves UnexpectedVersion s)
    (cond (never_sent s.request) (leaves NeverSent s)
    (cond (already_measured s.request) (leaves AlreadyMeasured s)
    (cond (expired s.request t.time) (leaves Expired s)
    (cond (not (answers g.nts s.request.id r)) (leaves NoMatch s)
    (matched_of g (stepped s) r t.t1 t.t4 t.time))))))

abbrev pub on_read : Settings → State → Arrival → Option Reply → Verdict
on_read g s t (Some r) = judge_of g s r t
on_read g s t None = leaves Undecodable s

-- any form, from what was read
-- promise 11.1: The order of a reply is 32, 1 (byte form), 33, 2, then 12, 13 or 14, then 4, the upgrade step, 5 to 11, 0. Each number is given exactly under
--     its rule.
--     edit: reply_rules/all_replies_are_refused, reply_rules/one_number_always, reply_rules/the_decrypted_fields_are_left_out,
--     reply_rules/a_decoded_reply_is_undecodable, reply_rules/a_reply_of_known_codes_is_undecodable
unfoldable pub verdict_of : Settings → State → Seen → Option Reply → Arrival → Verdict
verdict_of g s v read t = cond (whole_seen g v s) (on_read g s t read) (leaves NotWhole s)

-- what the byte form is read as, with the uid of the pending request
abbrev pub read_with : Settings → State → List ℕ → ℕ → List ℕ → Option Reply
read_with g s packet end decrypted = read_of g.nts s.request.uid packet end decrypted
