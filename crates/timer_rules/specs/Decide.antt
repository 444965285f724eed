-- RULES, part 10: what the timer decides, from the settings, the state and the summary of the stash. In order 32, 31, the rest.
-- Assumes nothing.
use Rattle.std.specs.Prelude.{Bool, true, false, cond, ℕ, min, eqb}
use Rattle.std.specs.Option.{is_some, unwrap_or}
use Rattle.cookiestash.specs.declared.Seen.{Seen}
use Rattle.version.specs.Send.{kind_of}
use Rattle.association.specs.declared.Settings.{Settings}
use Rattle.association.specs.declared.State.{State}
use Rattle.association.specs.Record.{whole_seen}
use Rattle.timer_rules.specs.declared.TimerAnswer.{TimerAnswer}
use Rattle.timer_rules.specs.declared.TimerAnswer.TheVariants.{Sent, Reset, Demobilize, NoCookie, CookieTooLarge, ShortBuffer, NotWhole}
use Rattle.timer_rules.specs.declared.Decision.{Decision}
use Rattle.timer_rules.specs.declared.TimerInput.{TimerInput}
use Rattle.timer_rules.specs.Poll.{short_buffer, startup_over, tried_of, asked_of, poll_of, sent_of}

-- the answer and the next state, with no cookie taken
abbrev pub leaves : TimerAnswer → State → Decision
leaves r s = record { answer = r; state = s; takes = false }

-- a poll of the tried state s is sent, with the cookie's length, the number asked for, and whether the oldest cookie is taken for it
abbrev pub send_of : Settings → State → TimerInput → ℕ → ℕ → Bool → Decision
send_of g s i len asked takes =
    record { answer = Sent (kind_of s.version.kind g.nts) (poll_of i.desired s.polls.remote) len asked; state = sent_of g s i; takes = takes }

-- how long the oldest cookie is; 0 if there is none
abbrev pub oldest_len : Seen → ℕ
oldest_len v = unwrap_or v.oldest 0

-- how many new cookies are asked for with the oldest; gap counted after the take; no stash has a gap over 8, and one would count as 8 (No. 4)
-- promise no4.2: For a larger gap, which no stash has, the number is that for 8.
-- promise: 10.4
abbrev pub asked_with : Seen → ℕ
asked_with v = asked_of (min v.gap 8) (oldest_len v)

-- with NTS: take a cookie, or 23; if no new cookie is asked for it is 24, and the cookie is gone
-- promise 10.4: The timer takes a cookie, or answers 23. It asks for min(gap, 724 div max(length, 1), 255) cookies, with the gap counted after the take; zero
--     is 24.
--     edit: timer_rules/the_cookie_count_is_invented, cookiestash/the_gap_before_the_take
-- promise 10.5: On 23 and 24 the pending request and the last poll stay.
--     edit: timer_rules/the_request_is_replaced_on_a_large_cookie, timer_rules/the_request_is_forgotten_without_a_cookie
-- promise no3.2: A timer that answers 23 or 24 leaves `answered`.
unfoldable pub decide_nts : Settings → State → Seen → TimerInput → Decision
decide_nts g s v i =
    cond (is_some v.oldest)
    (cond (eqb (asked_with v) 0)
    (record { answer = CookieTooLarge; state = s; takes = true })
    (send_of g s i (oldest_len v) (asked_with v) true))
    (leaves NoCookie s)

-- room is how many bytes of buffer the caller lends
-- promise 10.1: The timer's order is 32, 31, the rest. Each number is given exactly under its rule.
unfoldable pub decide_of : Settings → State → Seen → TimerInput → ℕ → Decision
decide_of g s v i room =
    cond (whole_seen g v s)
    (cond (short_buffer g room) (leaves ShortBuffer s)
    (cond (startup_over g s)
    (cond s.source.denial (leaves Demobilize s) (leaves Reset s))
    (cond g.nts
    (decide_nts g (tried_of s) v i)
    (send_of g (tried_of s) i 0 0 false))))
    (leaves NotWhole s)
