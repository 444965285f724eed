-- A walk is refused, with number 1 of RULES, exactly where it comes to an offset at which what stands there is.
-- Assumes nothing.
use mathlib.Core.Path.{◌≡◌, refl, sym, ap, ◌∙◌}
use mathlib.Core.List.{List}
use mathlib.Core.Logic.{◌↔◌}
use Rattle.std.specs.Prelude.{Some}
use Rattle.std.proofs.lemmas.Option.{none-some}
use Prim.Native.Nat.{ℕ, zero, suc, ◌+◌, ◌-◌, ◌≤◌}
use native.Mathlib.Omega.{arith}
use lib.Dec.{lit≤}
use lib.ListN.{length}
use Rattle.wire_fields.specs.Field.{step_at, refusal_of}
use Rattle.wire_fields.specs.Walk.{walk_of, packet_walk, decrypted_walk, walked_of, on_step}
use Rattle.wire_fields.specs.Walk as walk
use Rattle.wire_fields.specs.Sound.{Reached, here, past, WalkRefused}
use Rattle.wire_fields.specs.declared.Step.{Step}
use Rattle.wire_fields.specs.declared.Step.TheVariants.{Field, End, Broken}
use Rattle.wire_fields.proofs.Walks.{placed, walk_turn}

module _ (p : List ℕ) (least tail : ℕ) (h : 4 ≤ least) where
  -- a step, and the walk from where its field ends
  turn : (at : ℕ) (s : Step) → step_at p at least tail ≡ s → walk_of p at least tail ≡ on_step (λ next. walk_of p next least tail) at s
  turn at s e = walk_turn p at least tail h ∙ ap (on_step (λ next. walk_of p next least tail) at) e

  abbrev Says : ℕ → ℕ → Type 0
  Says at n = walk.refusal_of (walked_of (walk_of p at least tail)) ≡ Some n

  says_at : (at n : ℕ) (s : Step) → step_at p at least tail ≡ s → refusal_of s ≡ Some n → Says at n
  says_at at n (Field kind start len next) e q = absurd (none-some n q)
  says_at at n End e q = absurd (none-some n q)
  says_at at n Broken e q = ap (λ w. walk.refusal_of (walked_of w)) (turn at Broken e) ∙ q

  says : {at to : ℕ} (n : ℕ) → Reached p least tail at to → refusal_of (step_at p to least tail) ≡ Some n → Says at n
  says {at} n here q = says_at at n (step_at p at least tail) refl q
  says {at} n (past e r) q = ap (λ w. walk.refusal_of (walked_of w)) (turn at _ e) ∙ says n r q

  on : (at n : ℕ) → ((next : ℕ) → at + 4 ≤ next → next ≤ length p → Says next n → WalkRefused p least tail next n) → (s : Step) → step_at p at least tail ≡ s →
      Says at n → WalkRefused p least tail at n
  on at n later (Field kind start len next) e q =
      let w = placed p at least tail h kind start len next e in
      let r = later next (omega arith) w.within (sym (ap (λ w. walk.refusal_of (walked_of w)) (turn at (Field kind start len next) e)) ∙ q) in
      record { place = r.place; reached = past e r.reached; number = r.number }
  on at n later End e q = absurd (none-some n (sym (ap (λ w. walk.refusal_of (walked_of w)) (turn at End e)) ∙ q))
  on at n later Broken e q =
      let number = ap refusal_of e ∙ sym (ap (λ w. walk.refusal_of (walked_of w)) (turn at Broken e)) ∙ q in
      record { place = at; reached = here; number = number }

  upto : (m at n : ℕ) → length p - at ≤ m → Says at n → WalkRefused p least tail at n
  upto zero at n k = on at n (λ next a b. absurd (omega arith)) (step_at p at least tail) refl
  upto (suc m) at n k = on at n (λ next a b. upto m next n (omega arith)) (step_at p at least tail) refl

  pub walk_refused : (at n : ℕ) → (walk.refusal_of (walked_of (walk_of p at least tail)) ≡ Some n) ↔ WalkRefused p least tail at n
  walk_refused at n = (upto (length p - at) at n (omega arith), λ r. says n r.reached r.number)

-- promise: 7.5
pub packet_refused : (p : List ℕ) (n : ℕ) → (walk.refusal_of (walked_of (packet_walk p)) ≡ Some n) ↔ WalkRefused p 16 24 48 n
packet_refused p n = walk_refused p 16 24 (lit≤ tt) 48 n

-- promise: 7.5 (1 exactly if the walk reaches an offset with a broken field)
pub decrypted_refused : (p : List ℕ) (n : ℕ) → (walk.refusal_of (walked_of (decrypted_walk p)) ≡ Some n) ↔ WalkRefused p 4 0 0 n
decrypted_refused p n = walk_refused p 4 0 (lit≤ tt) 0 n
