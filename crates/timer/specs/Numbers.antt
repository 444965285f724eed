-- RULES, "The numbers": when the timer returns each number, and with which answer and record, in the order of the tests.
-- Assumes nothing.
use Rattle.std.specs.Prelude.{◌≡◌, Bool, true, false, ◌||◌, ℕ, ◌<◌, eqb}
use Rattle.cookiestash.specs.Stash.{get_of}
use Rattle.cookiestash.specs.Whole.{seen_of}
use Rattle.association.specs.declared.Association.{Association}
use Rattle.association.specs.Record.{whole_of, with_state, with_stash}
use Rattle.timer_rules.specs.declared.TimerAnswer.TheVariants.{Reset, Demobilize, NoCookie, CookieTooLarge, ShortBuffer, NotWhole}
use Rattle.timer_rules.specs.declared.TimerInput.{TimerInput}
use Rattle.timer_rules.specs.Poll.{short_buffer, startup_over, tried_of}
use Rattle.timer_rules.specs.Decide.{send_of, oldest_len, asked_with}
use Rattle.timer.specs.declared.TimerOut.{TimerOut}
use Rattle.timer.specs.Timer.{out, decided}

-- the numbers of a timer that tries a poll, whether it is sent or not: with each of them the unanswered polls grow by one (RULES, No. 8)
-- promise: no8.3
abbrev pub tries_poll : ℕ → Bool
tries_poll n = eqb n 20 || eqb n 23 || eqb n 24

module _ (a : Association) (i : TimerInput) (room : ℕ) where
  -- ---- the tests that a timer has passed, each with those before it

  -- neither 32 nor 31: an accepted timer
  pub record Accepted : Type 0 where
    pub whole : whole_of a ≡ true
    pub roomy : short_buffer a.settings room ≡ false

  -- nor 21 and 22: a poll is tried
  pub record Tried : Type 0 where
    pub accepted : Accepted
    pub going : startup_over a.settings a.state ≡ false

  -- nor 23: with NTS, and there is a cookie to take
  pub record Taken : Type 0 where
    pub tried : Tried
    pub nts : a.settings.nts ≡ true
    pub some : 0 < a.stash.held

  -- ---- the numbers, each with its answer and the record after it
  -- promise: 10.1
  pub data Given : ℕ → TimerOut → Type 0 where
    not_whole : whole_of a ≡ false → Given 32 (out NotWhole a)
    short_buffer_lem : whole_of a ≡ true → short_buffer a.settings room ≡ true → Given 31 (out ShortBuffer a)
    demobilize : Accepted → startup_over a.settings a.state ≡ true → a.state.source.denial ≡ true → Given 22 (out Demobilize a)
    reset : Accepted → startup_over a.settings a.state ≡ true → a.state.source.denial ≡ false → Given 21 (out Reset a)
    no_cookie_lem : Tried → a.settings.nts ≡ true → a.stash.held ≡ 0 → Given 23 (out NoCookie (with_state a (tried_of a.state)))
    too_large : Taken → asked_with (seen_of a.settings.capacity a.stash) ≡ 0 →
        Given 24 (out CookieTooLarge (with_stash (with_state a (tried_of a.state)) (get_of a.settings.capacity a.stash).stash))
    sent : Tried → a.settings.nts ≡ false → Given 20 (decided a (send_of a.settings (tried_of a.state) i 0 0 false))
    sent_nts : Taken → 0 < asked_with (seen_of a.settings.capacity a.stash) →
        Given 20 (decided a (send_of a.settings (tried_of a.state) i (oldest_len (seen_of a.settings.capacity a.stash))
        (asked_with (seen_of a.settings.capacity a.stash)) true))
