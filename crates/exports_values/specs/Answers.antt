-- Each answer as numbers, as a caller from C or Rust gets it.
-- Assumes nothing.
use Rattle.std.specs.Prelude.{ℕ, Bool, false, cond, eqb, pos, Result, Ok, Err}
use Rattle.cookiestash.specs.declared.Dropped.{Dropped}
use Rattle.version.specs.declared.SendKind.{SendKind}
use Rattle.version.specs.declared.SendKind.TheVariants as S
use Rattle.time_types.specs.Poll.{interval}
use Rattle.time_types.specs.Time.{timestamp, duration}
use Rattle.timer_rules.specs.declared.TimerAnswer.{TimerAnswer}
use Rattle.timer_rules.specs.declared.TimerAnswer.TheVariants as T
use Rattle.wire_incoming.specs.Incoming.{leap_printed}
use Rattle.reply_clauses.specs.declared.Measurement.{Measurement}
use Rattle.reply_rules.specs.declared.ReplyAnswer.{ReplyAnswer}
use Rattle.reply_rules.specs.declared.ReplyAnswer.TheVariants as R
use Rattle.association_accept.specs.declared.Bloom.{Bloom}
use Rattle.association_accept.specs.declared.Bloom.TheVariants as B
use Rattle.wire_collector.specs.declared.CollectRefusal.{CollectRefusal}
use Rattle.wire_collector.specs.declared.CollectRefusal.TheVariants as C
use Rattle.wire_request.specs.declared.RequestRefusal.{RequestRefusal}
use Rattle.wire_request.specs.declared.RequestRefusal.TheVariants as W
use Rattle.handover_file.specs.declared.Loaded.{Loaded}
use Rattle.handover_file.specs.declared.SaveRefusal.{SaveRefusal}
use Rattle.handover_file.specs.declared.SaveRefusal.TheVariants as H
use Rattle.wire_fields.specs.declared.Step.{Step}
use Rattle.wire_fields.specs.declared.Step.TheVariants as F
use Rattle.exports_values.specs.declared.CField.{CField}
use Rattle.exports_values.specs.declared.CWritten.{CWritten}
use Rattle.exports_values.specs.declared.CLoadAnswer.{CLoadAnswer}
use Rattle.exports_values.specs.declared.CTimerAnswer.{CTimerAnswer}
use Rattle.exports_values.specs.declared.CReplyAnswer.{CReplyAnswer}
use Rattle.exports_values.specs.declared.CNewAnswer.{CNewAnswer}

-- ---- the timer

abbrev pub send_code : SendKind → ℕ
send_code S.V4 = 1
send_code S.V4Upgrade = 2
send_code S.V5 = 3
send_code S.NtsV4 = 4
send_code S.NtsV5 = 5

-- nothing is sent
abbrev pub unsent : ℕ → CTimerAnswer
unsent number = record { number = number; kind = 0; poll = interval (pos 0); asked = 0; length = 0 }

-- promise exports.7: The exported calls `reckonstile_*` have their answers as numbers, and the number is that of RULES. `exports/proofs/Determined` has a
--     theorem for each.
--     edit: exports_values/a_field_is_told_with_another_kind, exports_values/a_written_answer_says_unwritten,
--     exports_values/a_retired_version_is_told_as_plain, exports_values/no_is_read_as_yes, exports_values/the_startup_is_told_as_the_capacity,
--     exports_values/the_tries_are_told_as_the_unanswered_polls, exports_values/one_cookie_at_most_is_asked_for,
--     exports_values/the_delay_is_told_as_the_offset, exports_values/a_reply_that_is_not_measured_has_number_0,
--     wire_incoming/unknown_is_read_as_unsynchronized, exports/a_refused_setting_is_a_wrong_size
abbrev pub timer_answer : TimerAnswer → CTimerAnswer
timer_answer (T.Sent kind poll len asked) = record { number = 20; kind = send_code kind; poll = poll; asked = asked; length = len }
timer_answer T.Reset = unsent 21
timer_answer T.Demobilize = unsent 22
timer_answer T.NoCookie = unsent 23
timer_answer T.CookieTooLarge = unsent 24
timer_answer T.ShortBuffer = unsent 31
timer_answer T.NotWhole = unsent 32

-- ---- the reply

-- nothing is measured
abbrev pub unmeasured : ℕ → CReplyAnswer
unmeasured number =
    record {
      number = number;
      measured = 0;
      leap = 0;
      stratum = 0;
      precision = pos 0;
      delay = duration (pos 0);
      offset = duration (pos 0);
      local = timestamp 0;
      mono = 0;
      rootdelay = duration (pos 0);
      rootdisp = duration (pos 0);
    }

abbrev pub measured_as : Measurement → CReplyAnswer
measured_as m =
    record {
      number = 0;
      measured = 1;
      leap = leap_printed m.leap;
      stratum = m.stratum;
      precision = m.precision;
      delay = m.delay;
      offset = m.offset;
      local = m.local;
      mono = m.mono;
      rootdelay = m.rootdelay;
      rootdisp = m.rootdisp;
    }

-- promise: exports.7
abbrev pub reply_answer : ReplyAnswer → CReplyAnswer
reply_answer (R.Measured m) = measured_as m
reply_answer R.Undecodable = unmeasured 1
reply_answer R.UnexpectedVersion = unmeasured 2
reply_answer R.NeverSent = unmeasured 12
reply_answer R.AlreadyMeasured = unmeasured 13
reply_answer R.Expired = unmeasured 14
reply_answer R.NoMatch = unmeasured 4
reply_answer R.Rate = unmeasured 5
reply_answer R.Denied = unmeasured 6
reply_answer R.DeniedNts = unmeasured 7
reply_answer R.Ntsn = unmeasured 8
reply_answer R.OtherKiss = unmeasured 9
reply_answer R.BadStratum = unmeasured 10
reply_answer R.NotServer = unmeasured 11
reply_answer R.NotWhole = unmeasured 32
reply_answer R.BrokenList = unmeasured 33

-- ---- new

-- 0: the association is made; with what fell out of its first list (RULES, No. 5)
-- promise exports.8: The answers of `new`, `metered` and both replies have the two sums of No. 5.
abbrev pub new_answer : ℕ → Dropped → CNewAnswer
new_answer number dropped = record { number = number; made = cond (eqb number 0) 1 0; dropped = dropped }

-- ---- accept

-- 0 is no filter, 1 is absent; any other code counts as present, so that an unknown code accepts nothing
abbrev pub bloom_in : ℕ → Bloom
bloom_in code = cond (eqb code 0) B.NoFilter (cond (eqb code 1) B.Absent B.Present)

-- ---- what is written to a buffer

-- so many bytes are written; or none, and the number says why
abbrev pub wrote : ℕ → CWritten
wrote length = record { number = 0; written = 1; length = length }

abbrev pub unwritten : ℕ → CWritten
unwritten number = record { number = number; written = 0; length = 0 }

-- the length of what is written, or the refusal's number
abbrev pub written_as : {E : Type 0} → (E → ℕ) → Result ℕ E → CWritten
written_as number_of (Ok length) = wrote length
written_as number_of (Err refusal) = unwritten (number_of refusal)

-- promise: exports.7
abbrev pub saved_as : Result ℕ SaveRefusal → CWritten
saved_as (Ok length) = wrote length
saved_as (Err H.NotWhole) = unwritten 32
saved_as (Err H.ShortBuffer) = unwritten 60

-- promise exports.10: `collect` and `write_request` give number, length and every byte of the buffer. On every number but 0 the buffer stays.
abbrev pub collected_as : Result ℕ CollectRefusal → CWritten
collected_as (Ok length) = wrote length
collected_as (Err C.Broken) = unwritten 1
collected_as (Err C.TooLong) = unwritten 31

-- promise: exports.10
abbrev pub requested_as : Result ℕ RequestRefusal → CWritten
requested_as (Ok length) = wrote length
requested_as (Err W.VersionFive) = unwritten 50
requested_as (Err W.ShortBuffer) = unwritten 51
requested_as (Err W.CookieOrCount) = unwritten 52

-- ---- what is read from a file

-- the number, and 1 if a version in the file was of the retired kind (RULES, No. 14)
-- promise: exports.7
abbrev pub load_answer : ℕ → Bool → CLoadAnswer
load_answer number retired = record { number = number; retired = cond retired 1 0 }

-- promise: exports.7
abbrev pub load_as : {E : Type 0} → (E → ℕ) → Result Loaded E → CLoadAnswer
load_as number_of (Ok loaded) = load_answer 0 loaded.retired
load_as number_of (Err refusal) = load_answer (number_of refusal) false

-- ---- a packet's fields

abbrev pub no_field : ℕ → CField
no_field number = record { number = number; found = 0; kind = 0; spare = 0; body = 0; length = 0; next = 0 }

-- 0 a field, or the end of the walk; 1 something broken
-- promise: exports.12
abbrev pub field_as : Step → CField
field_as (F.Field kind start len next) = record { number = 0; found = 1; kind = kind; spare = 0; body = start; length = len; next = next }
field_as F.End = no_field 0
field_as F.Broken = no_field 1
