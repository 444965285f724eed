-- Each public function's contract determines its result, the record that it leaves behind the reference, and each byte of the lent buffer: any two that it
-- allows are equal.
-- Assumes nothing.
use mathlib.Core.Path.{refl, sym, ap, ◌∙◌}
use mathlib.Core.List.{List}
use Prim.Native.Nat.{ℕ}
use contract.Lifetimes.{Lfts}
use denote.Triple.Clauses.{AtExit}
use borrow.Fn.Read.{all_models, r_last}
use borrow.Fn.World.{ArgsD, ResD}
use Rattle.words.specs.Determined.{DeterminedLent, PostOf}
use Rattle.association.specs.declared.Association.{Association}
use Rattle.timer.specs.Timer.{Timed}
use Rattle.timer.specs.contracts.timer as timer
use Rattle.timer.proofs.timer_core.Reads as timer-core

abbrev pub TimerPost : (κs : Lfts 2) → ArgsD timer.signature κs → ResD timer.signature κs → AtExit timer.ended κs → Type 0
TimerPost =
    PostOf timer.ended (λ w. timer.clauses w.𝓛 w.𝓜.mem w.𝓡.run) (λ w κs a. tt)
    (λ κs a y e. all_models _ (λ w. r_last _) (λ w. refl) (λ w. refl) (λ w. refl))

-- promise: 10.9
pub timer_determined : DeterminedLent {S = Association × List ℕ} TimerPost (λ κs e. (e.0.now, e.1.1.0.now))
timer_determined κs a y z e f p q = let e = p ∙ sym q in (ap (λ (t : Timed). t.gives.answer) e, ap (λ (t : Timed). (t.gives.association, t.left)) e)

pub timer_core_determined : DeterminedLent timer-core.Post (λ κs e. e.1.1.0.now)
timer_core_determined κs a y z e f p q = let e = p ∙ sym q in (ap (λ (t : Timed). t.gives) e, ap (λ (t : Timed). t.left) e)
