-- The reader of a cookie list: what an entry says of its place, and the one law by which the cookies of a list unfold.
-- Assumes nothing.
use Prim.Native.Nat.{ℕ, zero, suc, ◌+◌, ◌-◌, ◌≤◌}
use mathlib.Core.Path.{◌≡◌, refl, sym, ap, ◌∙◌}
use mathlib.Core.Bool.{Bool, true, false, cond}
use mathlib.Core.List.{List, []}
use native.Mathlib.Omega.{arith}
use borrow.Author.Tests.{ltb-false, eqb-true}
use lib.Dec.{ltb, eqb}
use lib.ListN.{length}
use Rattle.words.specs.Bytes.{part}
use Rattle.cookielist.specs.declared.Entry.{Entry}
use Rattle.cookielist.specs.declared.Entry.TheVariants.{Cookie, End, Broken}
use Rattle.cookielist.specs.List.{record_mark_at, length_at, entry_at, Listed, whole, broken, is_whole, before, on_entry, cookies_n, cookies_from}

-- a choice that gave e by one arm only
second : (t : Bool) (x y e : Entry) → (x ≡ e → ⊥) → cond t x y ≡ e → (t ≡ false) × (y ≡ e)
second true x y e other p = absurd (other p)
second false x y e other p = (refl, p)

first : (t : Bool) (x y e : Entry) → (y ≡ e → ⊥) → cond t x y ≡ e → (t ≡ true) × (x ≡ e)
first true x y e other p = (refl, p)
first false x y e other p = absurd (other p)

-- a cookie's place: the mark and the length before it, and it lies within the bytes
pub record Placed (l : List ℕ) (at start end : ℕ) : Type 0 where
  pub mark : record_mark_at l at ≡ 0xC00E
  pub starts : start ≡ at + 4
  pub ends : end ≡ start + length_at l at
  pub within : end ≤ length l

module _ (l : List ℕ) (at : ℕ) where
  last : Entry
  last = cond (ltb (length l - at - 4) (length_at l at)) Broken (Cookie (at + 4) (at + 4 + length_at l at))

  -- past the first two tests
  headed : Entry
  headed = cond (ltb (length l - at) 4) Broken (cond (eqb (record_mark_at l at) 0xC00E) last Broken)

  pub placed : (start end : ℕ) → entry_at l at ≡ Cookie start end → Placed l at start end
  unfolding entry_at headed last
  placed start end e =
      let f = Cookie start end in
      let nb : Broken ≡ f → ⊥ = λ q. (let z : ◌≡◌ {A = ℕ} 0 1 = cc in omega arith) in
      let ne : End ≡ f → ⊥ = λ q. (let z : ◌≡◌ {A = ℕ} 0 1 = cc in omega arith) in
      let a = second (ltb (length l) at) Broken (cond (eqb (length l - at) 0) End headed) f nb e in
      let b = second (eqb (length l - at) 0) End headed f ne a.1 in
      let c = second (ltb (length l - at) 4) Broken (cond (eqb (record_mark_at l at) 0xC00E) last Broken) f nb b.1 in
      let d = first (eqb (record_mark_at l at) 0xC00E) last Broken f nb c.1 in
      let g = second (ltb (length l - at - 4) (length_at l at)) Broken (Cookie (at + 4) (at + 4 + length_at l at)) f nb d.1 in
      let u : at + 4 ≡ start = cc in
      let v : at + 4 + length_at l at ≡ end = cc in
      record {
        mark = eqb-true (record_mark_at l at) 0xC00E d.0;
        starts = sym u;
        ends = omega arith;
        within = omega (arith, ltb-false (length l) at a.0, ltb-false (length l - at) 4 c.0, ltb-false (length l - at - 4) (length_at l at) g.0);
      }

  -- the end is where the bytes end
  pub ended : at ≤ length l → entry_at l at ≡ End → at ≡ length l
  unfolding entry_at headed last
  ended h e =
      let nb : Broken ≡ End → ⊥ = λ q. (let z : ◌≡◌ {A = ℕ} 0 1 = cc in omega arith) in
      let nc : Cookie (at + 4) (at + 4 + length_at l at) ≡ End → ⊥ = λ q. (let z : ◌≡◌ {A = ℕ} 0 1 = cc in omega arith) in
      let a = second (ltb (length l) at) Broken (cond (eqb (length l - at) 0) End headed) End nb e in
      let nh : headed ≡ End → ⊥ = λ q.
      let c = second (ltb (length l - at) 4) Broken (cond (eqb (record_mark_at l at) 0xC00E) last Broken) End nb q in
      let d = first (eqb (record_mark_at l at) 0xC00E) last Broken End nb c.1 in
      nc (second (ltb (length l - at - 4) (length_at l at)) Broken (Cookie (at + 4) (at + 4 + length_at l at)) End nb d.1).1 in
      let b = first (eqb (length l - at) 0) End headed End nh a.1 in
      omega (arith, eqb-true (length l - at) 0 b.0)

-- what follows an entry depends on the cookies from its end alone
after : (l : List ℕ) (at : ℕ) (f g : ℕ → Listed) → ((end : ℕ) → at + 4 ≤ end → end ≤ length l → f end ≡ g end) → (e : Entry) → entry_at l at ≡ e →
    on_entry l f e ≡ on_entry l g e
after l at f g same (Cookie start end) e =
    let w = placed l at start end e in
    ap (before (part l start (end - start))) (same end (omega arith) w.within)
after l at f g same End e = refl
after l at f g same Broken e = refl

-- any two numbers of cookies that reach the end of the bytes give the same
enough : (n m : ℕ) (l : List ℕ) (at : ℕ) → length l - at ≤ n → length l - at ≤ m → cookies_n n l at ≡ cookies_n m l at
enough zero zero l at h k = refl
enough zero (suc m) l at h k = after l at (λ x. broken) _ (λ end a b. absurd (omega arith)) (entry_at l at) refl
enough (suc n) zero l at h k = after l at _ (λ x. broken) (λ end a b. absurd (omega arith)) (entry_at l at) refl
enough (suc n) (suc m) l at h k = after l at _ _ (λ end a b. enough n m l end (omega arith) (omega arith)) (entry_at l at) refl

-- THE LAW of the reader: what stands at the offset, and then the cookies from where it ends
pub turn : (l : List ℕ) (at : ℕ) → cookies_from l at ≡ on_entry l (cookies_from l) (entry_at l at)
unfolding cookies_from
turn l at =
    enough (length l - at) (suc (length l - at)) l at (omega arith) (omega arith)
    ∙ after l at _ (λ end. cookies_n (length l - end) l end) (λ end a b. enough (length l - at) (length l - end) l end (omega arith) (omega arith))
    (entry_at l at) refl

-- ---- the law, entry by entry

whole_before_lem : (c : List ℕ) (r : Listed) → is_whole (before c r) ≡ is_whole r
whole_before_lem c (whole cs) = refl
whole_before_lem c broken = refl

module _ (l : List ℕ) (at : ℕ) where
  pub read_cookie : (start end : ℕ) → entry_at l at ≡ Cookie start end → cookies_from l at ≡ before (part l start (end - start)) (cookies_from l end)
  read_cookie start end e = turn l at ∙ rw e

  pub read_end : entry_at l at ≡ End → cookies_from l at ≡ whole []
  read_end e = turn l at ∙ rw e

  pub read_broken : entry_at l at ≡ Broken → cookies_from l at ≡ broken
  read_broken e = turn l at ∙ rw e

  pub whole_cookie : (start end : ℕ) → entry_at l at ≡ Cookie start end → is_whole (cookies_from l at) ≡ is_whole (cookies_from l end)
  whole_cookie start end e = rw (read_cookie start end e) (whole_before_lem (part l start (end - start)) (cookies_from l end))

  pub whole_end : entry_at l at ≡ End → is_whole (cookies_from l at) ≡ true
  whole_end e = rw (read_end e)

  pub whole_broken : entry_at l at ≡ Broken → is_whole (cookies_from l at) ≡ false
  whole_broken e = rw (read_broken e)
