-- A poll keeps the unanswered polls those of reach (RULES, No. 8).
-- Assumes nothing.
use mathlib.Core.Path.{◌≡◌, ap, sym, ◌∙◌}
use Prim.Native.Nat.{ℕ, ◌+◌, min}
use Rattle.reach.specs.Register.{unanswered_of}
use Rattle.reach.proofs.Unanswered.{polled_unanswered}
use Rattle.association.specs.declared.Effort.{Effort}
use Rattle.timer_rules.specs.Poll.{polled}

-- promise: no8.3
pub polled_counted : (e : Effort) → e.unanswered ≡ unanswered_of e.reach → (polled e).unanswered ≡ unanswered_of (polled e).reach
unfolding polled
polled_counted e h = ap (λ (n : ℕ). min (n + 1) 8) h ∙ sym (polled_unanswered e.reach)
