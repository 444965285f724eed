-- Laws of the walk: what a field's step says of its place, that a walk is a step and the walk from where its field ends, and induction over a walk.
-- Assumes nothing.
use mathlib.Core.Path.{◌≡◌, refl, sym, ◌∙◌, ap}
use mathlib.Core.Bool.{Bool, true, false, ◌&&◌, cond}
use mathlib.Core.List.{List, []}
use Prim.Native.Nat.{ℕ, zero, suc, ◌+◌, ◌-◌, ◌≤◌, ◌%◌}
use native.Mathlib.Omega.{arith}
use lib.Dec.{ltb, leb, eqb}
use lib.ListN.{length}
use borrow.Author.Tests.{ltb-false, leb-true, eqb-true}
use Rattle.words.proofs.Tests.{both}
use Rattle.wire_fields.specs.Field.{kind_at, length_at, field_is, step_at}
use Rattle.wire_fields.specs.Walk.{Walk, field, ends, broken, on_step, walk_n, walk_of, fields_of}
use Rattle.wire_fields.specs.declared.Step.{Step}
use Rattle.wire_fields.specs.declared.Step.TheVariants.{Field, End, Broken}

-- ---- what a step says

-- a choice that is not its second arm is its first, and the other way round
first_of : (t : Bool) (x y s : Step) → (y ≡ s → ⊥) → cond t x y ≡ s → (t ≡ true) × (x ≡ s)
first_of true x y s ne e = (refl, e)
first_of false x y s ne e = absurd (ne e)

second_of : (t : Bool) (x y s : Step) → (x ≡ s → ⊥) → cond t x y ≡ s → (t ≡ false) × (y ≡ s)
second_of true x y s ne e = absurd (ne e)
second_of false x y s ne e = (refl, e)

-- where a field stands: within the bytes, its body behind its four bytes, and the next place where the body ends
pub record Placed (p : List ℕ) (at least start len next : ℕ) : Type 0 where
  pub starts : start ≡ at + 4
  pub ends : next ≡ start + len
  pub within : next ≤ length p
  pub size : len + 4 ≡ length_at p at
  pub multiple : (len + 4) % 4 ≡ 0
  pub enough : least ≤ len + 4

module _ (p : List ℕ) (at least tail : ℕ) where
  abbrev here : Step
  here = Field (kind_at p at) (at + 4) (length_at p at - 4) (at + length_at p at)

  -- promise: 7.1
  pub placed : 4 ≤ least → (kind start len next : ℕ) → step_at p at least tail ≡ Field kind start len next → Placed p at least start len next
  unfolding step_at field_is
  placed h kind start len next e =
      let s = Field kind start len next in
      let nb : Broken ≡ s → ⊥ = λ q. (let z : ◌≡◌ {A = ℕ} 0 1 = cc in omega arith) in
      let ne : End ≡ s → ⊥ = λ q. (let z : ◌≡◌ {A = ℕ} 0 1 = cc in omega arith) in
      let l = length_at p at in
      let r = length p - at in
      let a = second_of (ltb (length p) at) Broken (cond (leb r tail) End (cond (field_is p at least) here Broken)) s nb e in
      let b = second_of (leb r tail) End (cond (field_is p at least) here Broken) s ne a.1 in
      let d = first_of (field_is p at least) here Broken s nb b.1 in
      let f = both (leb 4 r) (eqb (l % 4) 0 && (leb least l && leb l r)) d.0 in
      let g = both (eqb (l % 4) 0) (leb least l && leb l r) f.1 in
      let i = both (leb least l) (leb l r) g.1 in
      let j : least ≤ l = leb-true least l i.0 in
      let k : l ≤ r = leb-true l r i.1 in
      let m : l % 4 ≡ 0 = eqb-true (l % 4) 0 g.0 in
      let u : length_at p at - 4 ≡ len = cc in
      let v : at + 4 ≡ start = cc in
      let w : at + length_at p at ≡ next = cc in
      let x : len + 4 ≡ l = omega arith in
      record {
        starts = sym v;
        ends = omega arith;
        within = omega (arith, ltb-false (length p) at a.0);
        size = x;
        multiple = ap (λ n. n % 4) x ∙ m;
        enough = omega arith;
      }

  -- a walk ends where at most a tail is left
  -- promise: 7.2
  pub tail_left : step_at p at least tail ≡ End → (at ≤ length p) × (length p - at ≤ tail)
  unfolding step_at
  tail_left e =
      let nb : Broken ≡ End → ⊥ = λ q. (let z : ◌≡◌ {A = ℕ} 0 1 = cc in omega arith) in
      let not-field : (t : Bool) → cond t here Broken ≡ End → ⊥ = λ t q. ends_not t q in
      let r = length p - at in
      let a = second_of (ltb (length p) at) Broken (cond (leb r tail) End (cond (field_is p at least) here Broken)) End nb e in
      let b = first_of (leb r tail) End (cond (field_is p at least) here Broken) End (not-field (field_is p at least)) a.1 in
      (ltb-false (length p) at a.0, leb-true r tail b.0)
    where
      ends_not : (t : Bool) → cond t here Broken ≡ End → ⊥
      ends_not true q = let z : ◌≡◌ {A = ℕ} 0 1 = cc in omega arith
      ends_not false q = let z : ◌≡◌ {A = ℕ} 0 1 = cc in omega arith

-- ---- the walk

-- what follows a step depends on the walk from its field's end alone
after_step : (f g : ℕ → Walk) (p : List ℕ) (at least tail : ℕ) → 4 ≤ least → ((next : ℕ) → at + 4 ≤ next → next ≤ length p → f next ≡ g next)
    → (s : Step) → step_at p at least tail ≡ s → on_step f at s ≡ on_step g at s
after_step f g p at least tail h same (Field kind start len next) e =
    let w = placed p at least tail h kind start len next e in
    ap (field (record { at = at; kind = kind; start = start; len = len })) (same next (omega arith) (omega arith))
after_step f g p at least tail h same End e = refl
after_step f g p at least tail h same Broken e = refl

-- any two numbers of fields that reach the end of the bytes give the same walk
enough : (n m : ℕ) (p : List ℕ) (at least tail : ℕ) → 4 ≤ least → length p - at ≤ n → length p - at ≤ m → walk_n n p at least tail ≡ walk_n m p at least tail
enough zero zero p at least tail h hn hm = refl
enough zero (suc m) p at least tail h hn hm = after_step _ _ p at least tail h (λ next a b. absurd (omega arith)) (step_at p at least tail) refl
enough (suc n) zero p at least tail h hn hm = after_step _ _ p at least tail h (λ next a b. absurd (omega arith)) (step_at p at least tail) refl
enough (suc n) (suc m) p at least tail h hn hm =
    after_step _ _ p at least tail h (λ next a b. enough n m p next least tail h (omega arith) (omega arith)) (step_at p at least tail) refl

-- THE LAW of a walk: what stands at the offset, and the walk from where its field ends
pub walk_turn : (p : List ℕ) (at least tail : ℕ) → 4 ≤ least
    → walk_of p at least tail ≡ on_step (λ next. walk_of p next least tail) at (step_at p at least tail)
unfolding walk_of
walk_turn p at least tail h =
    enough (length p - at) (suc (length p - at)) p at least tail h (omega arith) (omega arith)
    ∙ after_step _ (λ next. walk_n (length p - next) p next least tail) p at least tail h
    (λ next a b. enough (length p - at) (length p - next) p next least tail h (omega arith) (omega arith)) (step_at p at least tail) refl

-- an answer that is not a field
abbrev pub NoField : Step → Type 0
NoField s = (kind start len next : ℕ) → s ≡ Field kind start len next → ⊥

-- after it no field follows
pub no_fields : (f : ℕ → Walk) (at : ℕ) (s : Step) → NoField s → fields_of (on_step f at s) ≡ []
no_fields f at (Field kind start len next) h = absurd (h kind start len next refl)
no_fields f at End h = refl
no_fields f at Broken h = refl

-- ---- induction over a walk

module _ (p : List ℕ) (least tail : ℕ) (h : 4 ≤ least) (P : ℕ → Walk → Type 0)
    (at-end : (at : ℕ) → step_at p at least tail ≡ End → P at (ends at))
    (at-broken : (at : ℕ) → P at broken)
    (at_field : (at kind start len next : ℕ) → Placed p at least start len next → P next (walk_of p next least tail)
    → P at (field (record { at = at; kind = kind; start = start; len = len }) (walk_of p next least tail)))
  where
    on : (at : ℕ) → ((next : ℕ) → at + 4 ≤ next → next ≤ length p → P next (walk_of p next least tail))
        → (s : Step) → step_at p at least tail ≡ s → P at (on_step (λ next. walk_of p next least tail) at s)
    on at behind (Field kind start len next) e =
        let w = placed p at least tail h kind start len next e in
        at_field at kind start len next w (behind next (omega arith) w.within)
    on at behind End e = at-end at e
    on at behind Broken e = at-broken at

    upto : (n at : ℕ) → length p - at ≤ n → P at (walk_of p at least tail)
    upto zero at q = rw (walk_turn p at least tail h) (on at (λ next a b. absurd (omega arith)) (step_at p at least tail) refl)
    upto (suc n) at q = rw (walk_turn p at least tail h) (on at (λ next a b. upto n next (omega arith)) (step_at p at least tail) refl)

    -- what holds of a walk that stops, and of a field with the walk behind it, holds of every walk
    pub walk_induction : (at : ℕ) → P at (walk_of p at least tail)
    walk_induction at = upto (length p - at) at (omega arith)
