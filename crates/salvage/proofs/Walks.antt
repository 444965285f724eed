-- The walk over a damaged list: what a record that is kept says of its place, the one law by which the walk unfolds, and induction over it.
-- Assumes nothing.
use Prim.Native.Nat.{ℕ, zero, suc, ◌+◌, ◌-◌, ◌≤◌, ◌<◌}
use mathlib.Core.Path.{◌≡◌, refl, sym, ap, ◌∙◌}
use mathlib.Core.Bool.{Bool, true, false, cond}
use mathlib.Core.List.{List, [], ◌∷◌}
use native.Mathlib.Omega.{arith}
use borrow.Author.Tests.{ltb-true, ltb-false, lt-ltb, le-ltb}
use lib.Dec.{ltb}
use lib.ListN.{length}
use Rattle.cookielist.specs.List.{entry_at}
use Rattle.cookielist.specs.declared.Entry.{Entry}
use Rattle.cookielist.specs.declared.Entry.TheVariants.{Cookie, End, Broken}
use Rattle.cookielist.proofs.Reader.{placed}
use Rattle.std.specs.Prelude.{Option, Some, None}
use Rattle.salvage.specs.declared.Step.{Step}
use Rattle.salvage.specs.declared.Step.TheVariants.{Kept, Skipped}
use Rattle.salvage.specs.Walk.{followed, on_entry, record_at, on_found, walk_n, walk_from}

-- ---- a record that is kept

-- the list's own entry, with the end or a mark behind it, and where it lies
pub record KeptAt (l : List ℕ) (at end : ℕ) : Type 0 where
  pub start : ℕ
  pub entry : entry_at l at ≡ Cookie start end
  pub follows : followed l end ≡ true
  pub headed : at + 4 ≤ end
  pub within : end ≤ length l

module _ (l : List ℕ) (at : ℕ) where
  taken : (start to end : ℕ) → entry_at l at ≡ Cookie start to → (b : Bool) → followed l to ≡ b → cond b (Some to) None ≡ Some end → KeptAt l at end
  taken start to end p true f q =
      let e : to ≡ end = cc in
      let w = placed l at start to p in
      record { start = start; entry = p ∙ rw e; follows = rw e at f; headed = omega (arith, w.starts, w.ends); within = omega (arith, w.within) }
  taken start to end p false f q = cc

  by_entry : (end : ℕ) (e : Entry) → entry_at l at ≡ e → on_entry l e ≡ Some end → KeptAt l at end
  by_entry end (Cookie start to) p q = taken start to end p (followed l to) refl q
  by_entry end End p q = cc
  by_entry end Broken p q = cc

  pub is_kept : (end : ℕ) → record_at l at ≡ Some end → KeptAt l at end
  unfolding record_at
  is_kept end q = by_entry end (entry_at l at) refl q

-- ---- the walk

-- what follows a step depends on the walk from its end alone
after : (l : List ℕ) (at : ℕ) (f g : ℕ → List Step) → at < length l → ((to : ℕ) → at + 1 ≤ to → to ≤ length l → f to ≡ g to) → (r : Option ℕ)
    → record_at l at ≡ r → on_found f at r ≡ on_found g at r
after l at f g h same (Some end) e =
    let k = is_kept l at end e in
    ap (λ (w : List Step). Kept at end ∷ w) (same end (omega (arith, k.headed)) k.within)
after l at f g h same None e = ap (λ (w : List Step). Skipped at ∷ w) (same (at + 1) (omega arith) (omega arith))

none_left : (n : ℕ) (l : List ℕ) (at : ℕ) → length l ≤ at → walk_n n l at ≡ []
none_left zero l at h = refl
none_left (suc n) l at h = rw (le-ltb at (length l) h)

if_before : (l : List ℕ) (at : ℕ) (f g : ℕ → List Step) → ((to : ℕ) → at + 1 ≤ to → to ≤ length l → f to ≡ g to) → (b : Bool) → ltb at (length l) ≡ b
    → cond b (on_found f at (record_at l at)) [] ≡ cond b (on_found g at (record_at l at)) []
if_before l at f g same true e = after l at f g (ltb-true at (length l) e) same (record_at l at) refl
if_before l at f g same false e = refl

-- any two numbers of steps that reach the end of the bytes give the same
enough : (n m : ℕ) (l : List ℕ) (at : ℕ) → length l - at ≤ n → length l - at ≤ m → walk_n n l at ≡ walk_n m l at
enough zero m l at h k = sym (none_left m l at (omega arith))
enough (suc n) zero l at h k = none_left (suc n) l at (omega arith)
enough (suc n) (suc m) l at h k =
    if_before l at (walk_n n l) (walk_n m l) (λ to a b. enough n m l to (omega arith) (omega arith)) (ltb at (length l)) refl

pub walk_end : (l : List ℕ) (at : ℕ) → length l ≤ at → walk_from l at ≡ []
unfolding walk_from
walk_end l at h = none_left (length l - at) l at h

-- THE LAW of the walk: what stands at the offset, and then the walk from where it ends
-- promise: no9.1 (the law by which the walk unfolds)
pub walk_turn : (l : List ℕ) (at : ℕ) → at < length l → walk_from l at ≡ on_found (walk_from l) at (record_at l at)
unfolding walk_from
walk_turn l at h =
    enough (length l - at) (suc (length l - at)) l at (omega arith) (omega arith)
    ∙ rw (lt-ltb at (length l) h)
    (after l at (walk_n (length l - at) l) (λ to. walk_n (length l - to) l to) h
    (λ to a b. enough (length l - at) (length l - to) l to (omega arith) (omega arith)) (record_at l at) refl)

-- ---- the law, step by step

pub walk_kept : (l : List ℕ) (at end : ℕ) → at < length l → record_at l at ≡ Some end → walk_from l at ≡ Kept at end ∷ walk_from l end
walk_kept l at end h e = walk_turn l at h ∙ rw e

pub walk_skipped : (l : List ℕ) (at : ℕ) → at < length l → record_at l at ≡ None → walk_from l at ≡ Skipped at ∷ walk_from l (at + 1)
walk_skipped l at h e = walk_turn l at h ∙ rw e

-- induction over the walk
module _ (l : List ℕ) (P : ℕ → List Step → Type 0) (at-end : P (length l) [])
    (at-kept : (at end : ℕ) → KeptAt l at end → P end (walk_from l end) → P at (Kept at end ∷ walk_from l end))
    (at-skipped : (at : ℕ) → at < length l → record_at l at ≡ None → P (at + 1) (walk_from l (at + 1)) → P at (Skipped at ∷ walk_from l (at + 1))) where
  ended : (at : ℕ) → at ≡ length l → P at (walk_from l at)
  ended at e = rw (walk_end l at (omega arith), e) at-end

  by_found : (at : ℕ) → at < length l → ((to : ℕ) → at + 1 ≤ to → to ≤ length l → P to (walk_from l to)) → (r : Option ℕ) →
      record_at l at ≡ r → P at (walk_from l at)
  by_found at h later (Some end) e = let k = is_kept l at end e in
      rw (walk_kept l at end h e) (at-kept at end k (later end (omega (arith, k.headed)) k.within))
  by_found at h later None e = rw (walk_skipped l at h e) (at-skipped at h e (later (at + 1) (omega arith) (omega arith)))

  by_test : (at : ℕ) → at ≤ length l → ((to : ℕ) → at + 1 ≤ to → to ≤ length l → P to (walk_from l to)) → (b : Bool) → ltb at (length l) ≡ b →
      P at (walk_from l at)
  by_test at h later true e = by_found at (ltb-true at (length l) e) later (record_at l at) refl
  by_test at h later false e = ended at (omega (arith, ltb-false at (length l) e))

  upto : (n at : ℕ) → at ≤ length l → length l - at ≤ n → P at (walk_from l at)
  upto zero at h k = ended at (omega arith)
  upto (suc n) at h k = by_test at h (λ to a b. upto n to b (omega arith)) (ltb at (length l)) refl

  pub walk_induction : (at : ℕ) → at ≤ length l → P at (walk_from l at)
  walk_induction at h = upto (length l) at h (omega arith)
