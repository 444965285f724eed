-- RULES, part 10, clause by clause: giving up, the poll that is tried, how many cookies are asked for, and the request that is then pending.
-- Assumes nothing.
use Rattle.std.specs.Prelude.{Bool, true, false, ◌&&◌, cond, List, ℕ, ◌+◌, ◌-◌, ◌/◌, ◌^◌, min, max, ltb, leb, eqb, replicate}
use Rattle.reach.specs.Register.{polled_of}
use Rattle.version.specs.Upgrade.{fallen_back_of}
use Rattle.time_types.specs.declared.PollInterval.{PollInterval}
use Rattle.time_types.specs.Poll.{interval, larger}
use Rattle.association.specs.declared.Effort.{Effort}
use Rattle.association.specs.declared.Pending.{Pending}
use Rattle.association.specs.declared.Settings.{Settings}
use Rattle.association.specs.declared.State.{State}
use Rattle.timer_rules.specs.declared.TimerInput.{TimerInput}

-- what the caller passes for a poll: now, the desired poll, and the identifiers
abbrev pub timer_input : ℕ → PollInterval → ℕ → List ℕ → TimerInput
timer_input time desired id uid = record { time = time; desired = desired; id = id; uid = uid }

-- NTS and cookie buffer under 724 bytes
abbrev pub short_buffer : Settings → ℕ → Bool
short_buffer g room = g.nts && ltb room 724

-- reach is 0 and tries ≥ startup limit
-- promise 10.2: Reach 0 and tries ≥ startup limit give 22 if a denial is noted, else 21.
unfoldable pub startup_over : Settings → State → Bool
startup_over g s = eqb s.effort.reach.0 0 && leb g.startup s.effort.tries

-- reach is polled; tries grow by one, up to 255; the unanswered polls grow by one, up to 8 (RULES, No. 8)
-- promise no8.3: A timer that answers 20, 23 or 24 adds one unanswered poll, up to 8. Any other number leaves them.
-- promise: 10.3
unfoldable pub polled : Effort → Effort
polled e = record { reach = polled_of e.reach; tries = min (e.tries + 1) 255; unanswered = min (e.unanswered + 1) 8 }

-- the state once a poll is tried: upgraded with 2 or more unanswered polls, by the stored number, becomes V4; reach is polled; tries grow
-- promise 10.3: A poll makes the fallback and shifts reach. It adds one to the tries, up to 255, and to the unanswered polls, up to 8.
--     edit: timer_rules/tries_stop_at_254, timer_rules/the_record_is_left_untouched, timer_rules/later_polls_are_faked
-- promise no8.7: The fallback uses the stored number of unanswered polls, and does what it did by the count.
unfoldable pub tried_of : State → State
tried_of s =
    record {
      effort = polled s.effort;
      version = fallen_back_of s.version s.effort.unanswered;
      polls = s.polls;
      source = s.source;
      request = s.request;
    }

-- how many new cookies are asked for: min(gap, 724 div max(length, 1), 255)
-- promise no4.1: The timer asks for min(gap, 724 div max(length, 1), 255) cookies, for every length and every gap from 0 to 8.
-- promise: 10.4
abbrev pub asked_of : ℕ → ℕ → ℕ
asked_of gap len = min (min gap (724 / max len 1)) 255

-- deadline now + window, at most 2^64 - 1
-- promise: 10.6
abbrev pub deadline_of : ℕ → ℕ → ℕ
deadline_of time window = min (time + window) (2 ^ 64 - 1)

-- pending is the given identifier (uid only with NTS) with its deadline; no reply has been measured since (RULES, No. 3)
-- promise 10.6: On 20 the given identifier is pending, with the deadline now + window, at most 2^64 − 1. The last poll is max(desired, remote minimum).
--     edit: timer_rules/the_remote_minimum_is_forgotten
-- promise: no3.1
unfoldable pub pending_of : Bool → ℕ → TimerInput → Pending
pending_of nts window i =
    record { present = true; id = i.id; uid = cond nts i.uid (replicate 32 0); deadline = deadline_of i.time window; answered = false }

-- last poll is max(desired, remote minimum)
-- promise: 10.6
abbrev pub poll_of : PollInterval → PollInterval → PollInterval
poll_of desired remote = interval (larger desired.0 remote.0)

-- the state once the poll is sent
-- promise: 10.6
unfoldable pub sent_of : Settings → State → TimerInput → State
sent_of g s i =
    record {
      effort = s.effort;
      version = s.version;
      polls = record { last = poll_of i.desired s.polls.remote; remote = s.polls.remote };
      source = s.source;
      request = pending_of g.nts g.window i;
    }
