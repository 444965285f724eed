-- With capacity 8 the timer is what it was before there was a capacity (RULES, No. 12): the stash is looked at, and a cookie taken, as one of eight.
-- Assumes nothing.
use mathlib.Core.Path.{◌≡◌, ap, ◌∙◌}
use mathlib.Core.Bool.{cond}
use mathlib.Core.List.{List}
use Prim.Native.Nat.{ℕ}
use lib.ListN.{length}
use Rattle.cookiestash.specs.Stash.{get_of, slot_or_empty}
use Rattle.cookiestash.specs.Whole.{seen_of}
use Rattle.cookiestash.specs.Handed.{wrote}
use Rattle.association.specs.declared.Association.{Association}
use Rattle.timer_rules.specs.declared.Decision.{Decision}
use Rattle.timer_rules.specs.declared.TimerInput.{TimerInput}
use Rattle.timer_rules.specs.Decide.{decide_of}
use Rattle.timer.specs.declared.TimerOut.{TimerOut}
use Rattle.timer.specs.Timer.{out, decided, handed, timer_of, buffer_of}

-- what is decided, stored in a record whose stash is one of eight
abbrev pub decided8 : Association → Decision → TimerOut
decided8 a d = out d.answer (record { settings = a.settings; stash = cond d.takes (get_of 8 a.stash).stash a.stash; state = d.state })

module _ (a : Association) (e : a.settings.capacity ≡ 8) (i : TimerInput) where
  -- promise: no12.4
  pub timer_8 : (room : ℕ) → timer_of a i room ≡ decided8 a (decide_of a.settings a.state (seen_of 8 a.stash) i room)
  unfolding timer_of
  timer_8 room =
      ap (λ (c : ℕ). decided a (decide_of a.settings a.state (seen_of c a.stash) i room)) e
      ∙ (let d = decide_of a.settings a.state (seen_of 8 a.stash) i room in
      ap (λ (c : ℕ). out d.answer (record { settings = a.settings; stash = cond d.takes (get_of c a.stash).stash a.stash; state = d.state })) e)

  -- promise: no12.4
  pub buffer_8 : (buffer : List ℕ) → buffer_of a i buffer ≡ wrote (slot_or_empty (get_of 8 a.stash)).bytes (handed (timer_of a i (length buffer)).answer) buffer
  unfolding buffer_of
  buffer_8 buffer = ap (λ (c : ℕ). wrote (slot_or_empty (get_of c a.stash)).bytes (handed (timer_of a i (length buffer)).answer) buffer) e
