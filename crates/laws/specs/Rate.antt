-- The remote minimum along a log (RULES, No. 7), and the association by the crate's rule of RATE.
-- Assumes nothing.
use Rattle.std.specs.Prelude.{◌≡◌, cond, List, eqb, ℤ}
use Rattle.time_types.specs.declared.PollInterval.{PollInterval}
use Rattle.time_types.specs.Poll.{interval, crate_rate}
use Rattle.association.specs.declared.Association.{Association}
use Rattle.reply.specs.declared.Replied.{Replied}
use Rattle.reply_rules.specs.Answer.{number_of}
use Rattle.laws_log.specs.Machine.{Machine, Call, after, log_of}
use Rattle.laws.specs.Association.{ReplyIn, rule, replied, machine}
use Rattle.laws.specs.Along.{with_reply}

-- promise no7.2: Over any log the remote minimum never falls.
--     edit: laws/the_last_poll_never_falls
abbrev pub remote_of : Association → ℤ
remote_of a = a.state.polls.remote.0

-- the record with another remote minimum
abbrev pub with_remote : Association → PollInterval → Association
with_remote a remote =
    record {
      settings = a.settings;
      stash = a.stash;
      state =
          record {
            effort = a.state.effort;
            version = a.state.version;
            polls = record { last = a.state.polls.last; remote = remote };
            source = a.state.source;
            request = a.state.request;
          };
    }

-- the remote minimum by the crate's rule
abbrev pub crate_remote : Association → PollInterval
crate_remote a = interval (crate_rate a.state.polls.remote.0 a.settings.max.0 a.state.polls.last.0)

-- a reply by the crate's rule: if it is a RATE kiss (5), the remote minimum is the crate's, and all else is ours
abbrev pub crate_replied : Association → ReplyIn → Replied × Association
crate_replied a r = let o = replied a r in (o.0, cond (eqb (number_of o.0.answer) 5) (with_remote o.1 (crate_remote a)) o.1)

-- promise: no7.3 (the association with the crate's rule in RATE's place)
abbrev pub crate_machine : Machine rule
crate_machine = with_reply machine crate_replied

-- the crate's rule leads to the same record, remote minimum and all, and to the same log. Every beginning of a log is a log, so it is the same all along
-- promise: no7.3
abbrev pub CrateSame : Association → List (Call rule) → Type 0
CrateSame a calls = (after crate_machine a calls ≡ after machine a calls) × (log_of crate_machine a calls ≡ log_of machine a calls)
