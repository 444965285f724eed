-- What the timer leaves: on 21, 22, 31 and 32 the record; on every number but 20 the pending request, the poll values and the buffer;
-- always the settings and what the source said. On 20 the request and the poll value are the new ones. On 20, 23 and 24 one poll more is unanswered, up to 8,
-- and the version falls back by the stored number, which on a whole record is what the trailing zeros of reach say (RULES, No. 8).
-- Assumes nothing.
use mathlib.Core.Path.{◌≡◌, refl, ap, ◌∙◌}
use mathlib.Core.Bool.{Bool, ◌||◌, cond}
use mathlib.Core.List.{List}
use Prim.Native.Nat.{ℕ, ◌+◌, min}
use lib.Dec.{T, eqb}
use lib.ListN.{length}
use borrow.Author.Tests.{eq-eqb, ne_eqb}
use Rattle.words.proofs.Tests.{when, unless}
use Rattle.reach.specs.Register.{unanswered_of}
use Rattle.version.specs.Upgrade.{fallen_back_of}
use Rattle.association.specs.declared.Association.{Association}
use Rattle.association.specs.declared.Polls.{Polls}
use Rattle.association.specs.Whole.{Whole}
use Rattle.timer_rules.specs.declared.TimerInput.{TimerInput}
use Rattle.timer_rules.specs.Answer.{number_of}
use Rattle.timer_rules.specs.Poll.{polled, tried_of, poll_of, pending_of, sent_of}
use Rattle.timer.specs.declared.TimerOut.{TimerOut}
use Rattle.timer.specs.Timer.{handed, timer_of, buffer_of}
use Rattle.timer.specs.Numbers.{tries_poll, Given, not_whole, short_buffer_lem, demobilize, reset, no_cookie_lem, too_large, sent, sent_nts}
use Rattle.timer.proofs.Numbers.{given}

-- the numbers that leave the record as it was
abbrev pub leaves : ℕ → Bool
leaves n = eqb n 21 || eqb n 22 || eqb n 31 || eqb n 32

-- what a timer that gives the number n leaves
pub record Rang (a : Association) (i : TimerInput) (n : ℕ) (o : TimerOut) : Type 0 where
  pub settings : o.association.settings ≡ a.settings
  pub source : o.association.state.source ≡ a.state.source
  pub request : o.association.state.request ≡ cond (eqb n 20) (pending_of a.settings.nts a.settings.window i) a.state.request
  pub polls : o.association.state.polls
      ≡ cond (eqb n 20) (record { last = poll_of i.desired a.state.polls.remote; remote = a.state.polls.remote }) a.state.polls
  pub unanswered : o.association.state.effort.unanswered ≡ cond (tries_poll n) (min (a.state.effort.unanswered + 1) 8) a.state.effort.unanswered
  pub version : o.association.state.version ≡ cond (tries_poll n) (fallen_back_of a.state.version a.state.effort.unanswered) a.state.version
  pub same : T (leaves n) → o.association ≡ a
  pub nothing : (n ≡ 20 → ⊥) → handed o.answer ≡ 0

module _ (a : Association) (i : TimerInput) (room : ℕ) where
  rung : {n : ℕ} {o : TimerOut} → Given a i room n o → Rang a i n o
  unfolding tried_of polled sent_of
  rung (not_whole w) = record {
    settings = refl;
    source = refl;
    request = refl;
    polls = refl;
    unanswered = refl;
    version = refl;
    same = λ _. refl;
    nothing
        = λ _. refl;
  }
  rung (short_buffer_lem w s) = record {
    settings = refl;
    source = refl;
    request = refl;
    polls = refl;
    unanswered = refl;
    version = refl;
    same = λ _. refl;
    nothing
        = λ _. refl;
  }
  rung (demobilize c o d) = record {
    settings = refl;
    source = refl;
    request = refl;
    polls = refl;
    unanswered = refl;
    version = refl;
    same = λ _. refl;
    nothing
        = λ _. refl;
  }
  rung (reset c o d) = record {
    settings = refl;
    source = refl;
    request = refl;
    polls = refl;
    unanswered = refl;
    version = refl;
    same = λ _. refl;
    nothing
        = λ _. refl;
  }
  rung (no_cookie_lem t n h) = record {
    settings = refl;
    source = refl;
    request = refl;
    polls = refl;
    unanswered = refl;
    version = refl;
    same = absurd;
    nothing
        = λ _. refl;
  }
  rung (too_large k z) = record {
    settings = refl;
    source = refl;
    request = refl;
    polls = refl;
    unanswered = refl;
    version = refl;
    same = absurd;
    nothing
        = λ _. refl;
  }
  rung (sent t n) = record {
    settings = refl;
    source = refl;
    request = refl;
    polls = refl;
    unanswered = refl;
    version = refl;
    same = absurd;
    nothing = λ u.
        absurd (u refl);
  }
  rung (sent_nts k z) = record {
    settings = refl;
    source = refl;
    request = refl;
    polls = refl;
    unanswered = refl;
    version = refl;
    same = absurd;
    nothing = λ u.
        absurd (u refl);
  }

  -- promise: no8.3 (its `unanswered`)
  pub rang : Rang a i (number_of (timer_of a i room).answer) (timer_of a i room)
  rang = rung (given a i room)

  -- the fallback answers what it answered while the trailing zeros were counted at each timer
  -- promise: no8.7
  pub fallback_as_before : Whole a → (timer_of a i room).association.state.version ≡
      cond (tries_poll (number_of (timer_of a i room).answer)) (fallen_back_of a.state.version (unanswered_of a.state.effort.reach)) a.state.version
  fallback_as_before w =
      rang.version
      ∙ ap (λ (k : ℕ). cond (tries_poll (number_of (timer_of a i room).answer)) (fallen_back_of a.state.version k) a.state.version) w.counted

-- ---- number by number

-- what holds on those but 20, and on 20
pub record Waits (a next : Association) (buffer last : List ℕ) : Type 0 where
  pub request : next.state.request ≡ a.state.request
  pub polls : next.state.polls ≡ a.state.polls
  pub untouched : last ≡ buffer

pub record Asks (a next : Association) (i : TimerInput) : Type 0 where
  pub request : next.state.request ≡ pending_of a.settings.nts a.settings.window i
  pub last : next.state.polls.last ≡ poll_of i.desired a.state.polls.remote
  pub remote : next.state.polls.remote ≡ a.state.polls.remote

module _ (a : Association) (i : TimerInput) (buffer : List ℕ) where
  -- promise demand.1: Every call ends with a defined answer; bad input is rejected with its number and changes nothing.
  pub record_left : T (leaves (number_of (timer_of a i (length buffer)).answer)) → (timer_of a i (length buffer)).association ≡ a
  record_left t = (rang a i (length buffer)).same t

  -- promise: 10.5, 10.8 (its `untouched`), no3.2
  pub pending_left : (number_of (timer_of a i (length buffer)).answer ≡ 20 → ⊥) → Waits a (timer_of a i (length buffer)).association buffer (buffer_of a i buffer)
  unfolding buffer_of
  pending_left u =
      let r = rang a i (length buffer) in
      let e = ne_eqb _ _ u in
      record { request = r.request ∙ unless _ _ e; polls = r.polls ∙ unless _ _ e; untouched = rw (r.nothing u) }

  -- promise: 10.6
  pub asked_anew : number_of (timer_of a i (length buffer)).answer ≡ 20 → Asks a (timer_of a i (length buffer)).association i
  asked_anew n =
      let r = rang a i (length buffer) in
      let e = eq-eqb _ _ n in
      let p = r.polls ∙ when _ _ e in
      record { request = r.request ∙ when _ _ e; last = ap (λ (x : Polls). x.last) p; remote = ap (λ (x : Polls). x.remote) p }
