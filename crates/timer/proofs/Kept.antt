-- The timer keeps a whole record whole, whatever it is given.
-- Assumes nothing.
use mathlib.Core.Path.{◌≡◌, refl, ◌∙◌}
use mathlib.Core.Bool.{Bool, true, false, ◌&&◌, cond}
use mathlib.Core.List.{List}
use Prim.Native.Nat.{ℕ}
use lib.Dec.{eqb}
use lib.ListN.{replicate}
use Rattle.words.specs.Bytes.{zeros}
use Rattle.words.proofs.Tests.{passes, both}
use Rattle.cookiestash.specs.Stash.{get_of}
use Rattle.cookiestash.proofs.Kept.{get_whole}
use Rattle.version.specs.Upgrade.{fallen_back_of}
use Rattle.version.proofs.Retired.{fallen_stays}
use Rattle.association.specs.declared.Association.{Association}
use Rattle.association.specs.Record.{pending_valid, idle_valid, with_state, with_stash}
use Rattle.association.specs.Whole.{Whole}
use Rattle.association.proofs.Whole.{versions_kept}
use Rattle.timer_rules.specs.declared.TimerInput.{TimerInput}
use Rattle.timer_rules.specs.Poll.{tried_of, pending_of, sent_of}
use Rattle.timer_rules.proofs.Unanswered.{polled_counted}
use Rattle.timer.specs.declared.TimerOut.{TimerOut}
use Rattle.timer.specs.Timer.{timer_of}
use Rattle.timer.specs.Numbers.{Given, not_whole, short_buffer_lem, demobilize, reset, no_cookie_lem, too_large, sent, sent_nts}
use Rattle.timer.proofs.Numbers.{given}

tried_whole : (a : Association) → Whole a → Whole (with_state a (tried_of a.state))
unfolding tried_of
tried_whole a w =
    let v = a.state.version in
    let n = a.state.effort.unanswered in
    record {
      settings = w.settings;
      stash = w.stash;
      counted = polled_counted a.state.effort w.counted;
      versions = versions_kept a.settings.start v (fallen_back_of v n) (fallen_stays v.kind n) w.versions;
      request = w.request;
      idle = w.idle;
    }

-- with NTS nothing is asked of what is idle without it
busy : (nts : Bool) (read held : ℕ) (uid : List ℕ) → nts ≡ true → idle_valid nts read held uid ≡ true
unfolding idle_valid
busy nts read held uid e = rw e

taken_whole : (a : Association) → Whole a → a.settings.nts ≡ true → Whole (with_stash a (get_of a.settings.capacity a.stash).stash)
taken_whole a w n =
    record {
      settings = w.settings;
      stash = get_whole a.settings.capacity a.stash
          w.stash;
      counted = w.counted;
      versions = w.versions;
      request = w.request;
      idle = busy _ _ _ _ n;
    }

no_uid : zeros (replicate 32 0) ≡ true
unfolding zeros
no_uid = refl

-- without NTS the request has no uid
idle_kept : (nts : Bool) (read held : ℕ) (old uid : List ℕ) → idle_valid nts read held old ≡ true →
    idle_valid nts read held (cond nts uid (replicate 32 0)) ≡ true
unfolding idle_valid
idle_kept true read held old uid e = refl
idle_kept false read held old uid e =
    let first = both (eqb read 0) (eqb held 0 && zeros old) e in
    let second = both (eqb held 0) (zeros old) first.1 in
    passes _ first.0 ∙ passes _ second.0 ∙ no_uid

sent_whole : (a : Association) → Whole a → (i : TimerInput) → Whole (with_state a (sent_of a.settings a.state i))
unfolding sent_of pending_of pending_valid
sent_whole a w i =
    record {
      settings = w.settings;
      stash = w.stash;
      counted = w.counted;
      versions = w.versions;
      request = refl;
      idle = idle_kept a.settings.nts _ _
          a.state.request.uid i.uid w.idle;
    }

module _ (a : Association) (w : Whole a) (i : TimerInput) (room : ℕ) where
  -- the tried record, without its oldest cookie
  left_whole : a.settings.nts ≡ true → Whole (with_stash (with_state a (tried_of a.state)) (get_of a.settings.capacity a.stash).stash)
  left_whole n = taken_whole (with_state a (tried_of a.state)) (tried_whole a w) n

  kept : {n : ℕ} {o : TimerOut} → Given a i room n o → Whole o.association
  kept (not_whole e) = w
  kept (short_buffer_lem e s) = w
  kept (demobilize c v d) = w
  kept (reset c v d) = w
  kept (no_cookie_lem t n h) = tried_whole a w
  kept (too_large k z) = left_whole k.nts
  kept (sent t n) = sent_whole (with_state a (tried_of a.state)) (tried_whole a w) i
  kept (sent_nts k z) = sent_whole (with_stash (with_state a (tried_of a.state)) (get_of a.settings.capacity a.stash).stash) (left_whole k.nts) i

  -- promise whole.3: Every call on a whole record leaves a whole record.
  -- promise: no8.1, no12.3
  pub timer_whole : Whole (timer_of a i room).association
  timer_whole = kept (given a i room)
