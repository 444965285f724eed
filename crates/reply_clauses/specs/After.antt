-- RULES, parts 8, 9 and 11, clause by clause: when a reply answers what is pending, the state after each kind of reply, and the measurement.
-- Assumes nothing.
use Rattle.std.specs.Prelude.{Bool, true, false, not, ◌&&◌, ◌||◌, cond, List, ℕ, ltb, leb, eqb}
use Rattle.reach.specs.Register.{answered_of}
use Rattle.version.specs.Upgrade.{stepped_of}
use Rattle.time_types.specs.declared.NtpTimestamp.{NtpTimestamp}
use Rattle.time_types.specs.declared.PollInterval.{PollInterval}
use Rattle.time_types.specs.Time.{timestamp, duration, delay_of, offset_of, local_time}
use Rattle.time_types.specs.Poll.{interval, larger, after_rate}
use Rattle.wire_groups.specs.Matching.{uid_matches}
use Rattle.association.specs.declared.Settings.{Settings}
use Rattle.association.specs.declared.State.{State}
use Rattle.association.specs.declared.Pending.{Pending}
use Rattle.association.specs.Record.{no_pending}
use Rattle.wire_incoming.specs.declared.Reply.{Reply}
use Rattle.reply_clauses.specs.declared.Measurement.{Measurement}

-- what comes with a reply of either form: its cookie list, T1, T4 and now
pub record Arrival : Type 0 where
  pub list : List ℕ
  pub t1 : NtpTimestamp
  pub t4 : NtpTimestamp
  pub time : ℕ

abbrev pub arrival : List ℕ → NtpTimestamp → NtpTimestamp → ℕ → Arrival
arrival list t1 t4 time = record { list = list; t1 = t1; t4 = t4; time = time }

-- a request is unexpired if now ≤ its deadline
abbrev pub unexpired : ℕ → ℕ → Bool
unexpired deadline time = leb time deadline

-- a live request: pending and unexpired
abbrev pub live : Pending → ℕ → Bool
live q time = q.present && unexpired q.deadline time

-- what was 3 before RULES, No. 3: no pending request, or its deadline < now
-- promise no3.4: Each old 3 is exactly one of 12, 13 and 14, and each of these was a 3.
-- promise: no3.4 (the old 3)
abbrev pub no_live : Pending → ℕ → Bool
no_live q time = not q.present || ltb q.deadline time

-- 12: never sent: nothing is pending, and no reply has been measured since the last sent poll
-- promise 11.2: Number 12: never sent. 13: already measured. 14: the deadline of the pending request < now.
--     edit: reply_rules/expiry_clears_the_request, reply_clauses/an_expired_reply_is_believed, laws_cases/a_request_lives_a_moment_longer
abbrev pub never_sent : Pending → Bool
never_sent q = not q.present && not q.answered

-- 13: already measured: nothing is pending, and a reply has been measured since the last sent poll
-- promise: 11.2
abbrev pub already_measured : Pending → Bool
already_measured q = not q.present && q.answered

-- 14: a request is pending, and its deadline < now
-- promise: 11.2
abbrev pub expired : Pending → ℕ → Bool
expired q time = q.present && ltb q.deadline time

-- 4: the 64 bits equal the pending ones; with NTS also the uid
-- promise 11.3: Number 4: the identifiers do not match.
--     edit: reply_clauses/untrusted_uid_for_the_encrypted
abbrev pub answers : Bool → ℕ → Reply → Bool
answers nts id r = eqb r.origin id && (not nts || uid_matches r.authenticated r.encrypted r.untrusted r.kisses.ntsn)

-- DENY or RSTR
-- promise 11.5: Numbers 6 and 7: DENY or RSTR.
abbrev pub denies : Reply → Bool
denies r = r.kisses.deny || r.kisses.rstr

-- the upgrade step, on a matching reply; each steps as a plain one does (RULES, part 4 and No. 14)
-- promise 4.3: A matching reply makes the step of a plain reply.
--     edit: reply_clauses/a_reply_steps_as_an_upgrade
unfoldable pub stepped : State → State
stepped s = record s { version = stepped_of s.version false }

-- 5: RATE: remote minimum becomes the largest of the old one, min(old + 1, max) and the last poll (RULES, No. 7)
-- promise 11.4: Number 5: RATE.
--     edit: time_types/rate_forgets_the_last_poll
unfoldable pub after_rate_kiss : Settings → State → State
after_rate_kiss g s = record s { polls = record s.polls { remote = interval (after_rate s.polls.remote.0 g.max.0 s.polls.last.0) } }

-- 6: denial noted
-- promise: 11.5
unfoldable pub after_denial : State → State
after_denial s = record s { source = record s.source { denial = true } }

-- V5 raises the remote minimum to a larger poll, with no upper limit
-- promise: 11.8
abbrev pub raised : PollInterval → Reply → PollInterval
raised remote r = cond (eqb r.version 5) (interval (larger remote.0 r.poll.0)) remote

-- 0: reach bit, no unanswered poll (No. 8), denial cleared, pending cleared, a reply measured since the last sent poll (No. 3), stratum and reference
-- identifier taken
-- promise 11.8: A measured reply sets the reach bit, makes the unanswered polls 0, clears denial and pending request, and takes stratum and reference
--     identifier. V5 raises the remote minimum. The cookies are stored in order. The measurement is that of part 5.
--     edit: reply/the_new_cookies_are_not_stored, reply_rules/cookies_are_stored_without_nts
-- promise no8.4: A measured reply makes the unanswered polls 0. Any other reply leaves them.
-- promise: no3.1
unfoldable pub after_measured : State → Reply → State
after_measured s r =
    record s {
      effort = record s.effort { reach = answered_of s.effort.reach; unanswered = 0 };
      polls = record s.polls { remote = raised s.polls.remote r };
      source = record { stratum = r.stratum; refid = r.refid; denial = false };
      request = no_pending true;
    }

-- the measurement (RFC 5905, section 8); its monotonic time is the reply's now
-- promise: 11.8
unfoldable pub measurement_of : Reply → NtpTimestamp → NtpTimestamp → ℕ → Measurement
measurement_of r t1 t4 time =
    record {
      delay = duration (delay_of t1.0 r.receive.0 r.transmit.0 t4.0);
      offset = duration (offset_of t1.0 r.receive.0 r.transmit.0 t4.0);
      local = timestamp (local_time t1.0 t4.0);
      mono = time;
      stratum = r.stratum;
      rootdelay = r.rootdelay;
      rootdisp = r.rootdisp;
      leap = r.leap;
      precision = r.precision;
    }
