-- The cookies that the iterator gives: the one at its place and then those from where it ends, or none; those of a whole list are its cookies.
-- Assumes nothing.
use Prim.Native.Nat.{ℕ, zero, suc, ◌+◌, ◌-◌, ◌≤◌}
use mathlib.Core.Path.{◌≡◌, refl, sym, ap, ◌∙◌}
use mathlib.Core.List.{List, [], ◌∷◌}
use native.Mathlib.Decide.{dec_le}
use native.Mathlib.Omega.{arith}
use borrow.Author.Tests.{lt-ltb, eq-eqb, ne_eqb}
use lib.Dec.{eqb}
use lib.ListN.{length}
use Rattle.words.specs.Bytes.{part}
use Rattle.cookielist.specs.declared.Entry.{Entry}
use Rattle.cookielist.specs.declared.Entry.TheVariants.{Cookie, End, Broken}
use Rattle.cookielist.specs.List.{entry_at, Listed, whole, broken, is_whole, before, cookies_from, cookies_in}
use Rattle.cookielist.specs.declared.Cookies.{Cookies}
use Rattle.cookielist.specs.Cookies.{given_on, given_n, given_from, cookies_given, cookies_left, GivesCookie}
use Rattle.std.proofs.lemmas.Iterator.{YieldsList}
use Rattle.std.proofs.lemmas.Iterator.Consumers.{YieldsList-from_shown}
use Rattle.cookielist.proofs.Reader.{placed, ended, read_cookie, read_end, read_broken, whole_end, whole_broken}
use Rattle.cookielist.proofs.RoundTrip.{entry_end}

-- what is given depends on the cookies from the entry's end alone
after : (l : List ℕ) (at : ℕ) (f g : ℕ → List (List ℕ)) → ((end : ℕ) → at + 4 ≤ end → end ≤ length l → f end ≡ g end) → (e : Entry) → entry_at l at ≡ e →
    given_on l f e ≡ given_on l g e
after l at f g same (Cookie start end) e =
    let w = placed l at start end e in
    ap (λ cs. part l start (end - start) ∷ cs) (same end (omega arith) w.within)
after l at f g same End e = refl
after l at f g same Broken e = refl

enough : (n m : ℕ) (l : List ℕ) (at : ℕ) → length l - at ≤ n → length l - at ≤ m → given_n n l at ≡ given_n m l at
enough zero zero l at h k = refl
enough zero (suc m) l at h k = after l at (λ x. []) _ (λ end a b. absurd (omega arith)) (entry_at l at) refl
enough (suc n) zero l at h k = after l at _ (λ x. []) (λ end a b. absurd (omega arith)) (entry_at l at) refl
enough (suc n) (suc m) l at h k = after l at _ _ (λ end a b. enough n m l end (omega arith) (omega arith)) (entry_at l at) refl

turn : (l : List ℕ) (at : ℕ) → given_from l at ≡ given_on l (given_from l) (entry_at l at)
unfolding given_from
turn l at =
    enough (length l - at) (suc (length l - at)) l at (omega arith) (omega arith)
    ∙ after l at _ (λ end. given_n (length l - end) l end) (λ end a b. enough (length l - at) (length l - end) l end (omega arith) (omega arith))
    (entry_at l at) refl

module _ (l : List ℕ) (at : ℕ) where
  pub given_cookie : (start end : ℕ) → entry_at l at ≡ Cookie start end → given_from l at ≡ part l start (end - start) ∷ given_from l end
  given_cookie start end e = turn l at ∙ rw e

  given_stop : (e : Entry) → entry_at l at ≡ e → ((start end : ℕ) → e ≡ Cookie start end → ⊥) → given_from l at ≡ []
  given_stop (Cookie start end) p h = absurd (h start end refl)
  given_stop End p h = turn l at ∙ rw p
  given_stop Broken p h = turn l at ∙ rw p

  pub none_given : ((start end : ℕ) → entry_at l at ≡ Cookie start end → ⊥) → given_from l at ≡ []
  none_given h = given_stop (entry_at l at) refl h

  at_end : entry_at l at ≡ End → at ≡ length l
  unfolding entry_at
  at_end e =
      elim (dec_le at (length l)) [
        | yes k ↦ ended l at k e
        | no k ↦
            let b : entry_at l at ≡ Broken = simp (lt-ltb (length l) at (omega arith)) in
            let f = sym b ∙ e in
            let z : ◌≡◌ {A = ℕ} 0 1 = cc in
            absurd (omega arith)
      ]

  done_by : (e : Entry) → entry_at l at ≡ e → given_from l at ≡ [] → eqb at (length l) ≡ is_whole (cookies_from l at)
  done_by (Cookie start end) p g = let h = sym g ∙ given_cookie start end p in let z : ◌≡◌ {A = ℕ} 0 1 = cc in absurd (omega arith)
  done_by End p g = eq-eqb at (length l) (at_end p) ∙ sym (whole_end l at p)
  done_by Broken p g =
      ne_eqb at (length l) (λ q. let h = sym p ∙ entry_end l at q in let z : ◌≡◌ {A = ℕ} 0 1 = cc in omega arith)
      ∙ sym (whole_broken l at p)

  -- where no cookie is left, the list is whole exactly if its end is reached
  pub done : given_from l at ≡ [] → eqb at (length l) ≡ is_whole (cookies_from l at)
  done g = done_by (entry_at l at) refl g

-- the cookies of a whole list are those that are given
module _ (l : List ℕ) where
  abbrev Gives : Listed → List (List ℕ) → Type 0
  Gives (whole cs) given = given ≡ cs
  Gives broken given = Unit {0}

  more : (c given : _) (r : Listed) → Gives r given → Gives (before c r) (c ∷ given)
  more c given (whole cs) g = ap (λ x. c ∷ x) g
  more c given broken g = tt

  gives_on : (at : ℕ) → ((end : ℕ) → at + 4 ≤ end → end ≤ length l → Gives (cookies_from l end) (given_from l end)) → (e : Entry) → entry_at l at ≡ e →
      Gives (cookies_from l at) (given_from l at)
  gives_on at later (Cookie start end) e =
      let w = placed l at start end e in
      rw (read_cookie l at start end e, given_cookie l at start end e) (more (part l start (end - start)) (given_from l end) (cookies_from l end)
      (later end (omega arith) w.within))
  gives_on at later End e = rw (read_end l at e) (given_stop l at End e (λ s n q. let z : ◌≡◌ {A = ℕ} 0 1 = cc in omega arith))
  gives_on at later Broken e = rw (read_broken l at e) tt

  gives : (n at : ℕ) → length l - at ≤ n → Gives (cookies_from l at) (given_from l at)
  gives zero at h = gives_on at (λ end a b. absurd (omega arith)) (entry_at l at) refl
  gives (suc n) at h = gives_on at (λ end a b. gives n end (omega arith)) (entry_at l at) refl

  -- promise: 3.14
  pub given_whole : (cs : List (List ℕ)) → cookies_in l ≡ whole cs → cookies_given l ≡ cs
  unfolding cookies_in cookies_given
  given_whole cs e = let g = gives (length l) 0 (omega arith) in rw e at g

-- what a chain of calls on the iterator meets: its cookies, and then none
-- promise: 3.14
pub gives_all : (it : Cookies) → YieldsList GivesCookie (λ c. c.now) it (cookies_left it)
gives_all it = YieldsList-from_shown GivesCookie (λ c. c.now) cookies_left (λ s t g. ap length g.0.0) (λ s x t g. g.0) it
