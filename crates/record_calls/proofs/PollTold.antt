-- The parts of the timer on lent bytes do what the definition says.
-- Assumes nothing.
use Prim.Native.Nat.{ℕ}
use mathlib.Core.Path.{◌≡◌, refl, sym, ap, subst, ◌∙◌}
use mathlib.Core.Bool.{true, cond}
use mathlib.Core.List.{List}
use lib.ListN.{length}
use Rattle.words.proofs.Bytes.{Bytes}
use Rattle.words.proofs.Tests.{when, unless}
use Rattle.cookiestash.specs.declared.Seen.{Seen}
use Rattle.cookiestash.specs.Stash.{get_of, slot_or_empty}
use Rattle.cookiestash.specs.Handed.{handed_of}
use Rattle.association.specs.Record.{with_state}
use Rattle.timer_rules.specs.declared.TimerAnswer.TheVariants.{NotWhole}
use Rattle.timer_rules.specs.declared.TimerInput.{TimerInput}
use Rattle.timer_rules.specs.declared.Decision.{Decision}
use Rattle.timer_rules.specs.Decide.{decide_of}
use Rattle.timer.specs.Timer.{decided, timed_of}
use Rattle.timer.proofs.Core as timer
use Rattle.record_stash.specs.Slots.{seen_in, took, taken_in}
use Rattle.record_stash.proofs.With.{of_sized, seen_is}
use Rattle.record_bytes.specs.declared.Opened.{Opened}
use Rattle.record_bytes.specs.State.{StateFit}
use Rattle.record_bytes.specs.Record.{settings_in, ok, unpacked, opened, opened_of, stored_state}
use Rattle.record_bytes.proofs.Lies.{Lies, opened_lies, state_lies, takes}
use Rattle.std.specs.Prelude.{Some, None}
use Rattle.record_bytes.proofs.Writes.{found, none_found}
use Rattle.record_calls.specs.Timer.{gave, timer_packed, timer_call}

module _ (b : List ℕ) (i : TimerInput) (ys : List ℕ) where
  pub refused : None ≡ opened_of b → gave NotWhole b ys ≡ timer_call b i ys
  unfolding timer_call
  refused e = sym (unless (timer_packed (timed_of (unpacked b) i ys)) (gave NotWhole b ys) (none_found b e))

  module _ (y : Bytes b) (d : Decision) (f : StateFit d.state) (mid : List ℕ) (em : mid ≡ stored_state b d.state) (rs : Seen) (c zs : List ℕ)
      (o : ok b ≡ true) where
    abbrev Says : Opened → Type 0
    Says r = rs ≡ seen_in b r.settings.capacity → d ≡ decide_of r.settings r.state rs i (length ys) →
        took c zs ≡ taken_in r.settings.capacity d.takes mid ys → gave d.answer c zs ≡ timer_call b i ys

    base : Says (opened b)
    unfolding timer_call unpacked
    base es ed et =
        let a = unpacked b in
        let cap = (settings_in b).capacity in
        let l = opened_lies b y o in
        let m : Lies (with_state a d.state) mid = subst (Lies (with_state a d.state)) (sym em) (state_lies a b l d.state f.request.uid) in
        let left : List ℕ = cond d.takes (handed_of (slot_or_empty (get_of cap a.stash)) ys) ys in
        let t = et ∙ takes (with_state a d.state) mid m d.takes ys in
        let q = timer.told a i ys rs d (decided a d) left (es ∙ seen_is cap b (of_sized b cap l.sized)) ed refl refl in
        (λ j. gave d.answer (t j).bytes (t j).left) ∙ ap timer_packed q ∙ sym (when (timer_packed (timed_of a i ys)) (gave NotWhole b ys) o)

  pub told : Bytes b → (r : Opened) → Some r ≡ opened_of b → (d : Decision) → StateFit d.state → (mid : List ℕ) → mid ≡ stored_state b d.state →
      (rs : Seen) →
      rs ≡ seen_in b r.settings.capacity → d ≡ decide_of r.settings r.state rs i (length ys) → (c zs : List ℕ) →
      took c zs ≡ taken_in r.settings.capacity d.takes mid ys → gave d.answer c zs ≡ timer_call b i ys
  told y r e d f mid em rs es ed c zs et =
      let o = found b r e in
      subst (Says y d f mid em rs c zs o.ok) (sym o.is) (base y d f mid em rs c zs o.ok) es ed et
