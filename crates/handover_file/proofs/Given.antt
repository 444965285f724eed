-- The cookies that the iterator over a stash's body gives: the one at its place, and then those from where it ends; of a body that fits all its cookies.
-- Assumes nothing.
use Prim.Native.Nat.{ℕ, zero, suc, ◌+◌, ◌-◌, ◌≤◌, ◌<◌}
use mathlib.Core.Path.{◌≡◌, refl, sym, ap, ◌∙◌}
use mathlib.Core.Bool.{Bool, true, false, cond, false≢true}
use mathlib.Core.List.{List, [], ◌∷◌}
use native.Mathlib.Omega.{arith}
use borrow.Author.Tests.{eq-eqb, ne_eqb}
use lib.ListN.{length, drop}
use Rattle.std.specs.Prelude.{Some}
use Rattle.std.specs.List.{slice_get}
use Rattle.std.proofs.lemmas.Iterator.{YieldsList}
use Rattle.std.proofs.lemmas.Iterator.Consumers.{YieldsList-from_shown}
use Rattle.words.specs.Bytes.{part}
use Rattle.words.proofs.Bytes.{length_part}
use Rattle.cookiestash.specs.Stash.{stored}
use Rattle.cookiestash.specs.Queue.{Cookie}
use Rattle.handover_file.specs.declared.cut.Held.{Held}
use Rattle.handover_file.specs.declared.cut.Held.TheVariants.{One, End, Broken}
use Rattle.handover_file.specs.declared.cut.Cookies.{Cookies}
use Rattle.handover_file.specs.Cookies.{Run, whole, broken, ahead, is_run, run_of, cookies_of, stash_fits, held_in}
use Rattle.handover_file.specs.Steps.{held_at, cookie, on_held}
use Rattle.handover_file.specs.Given.{given_on, given_n, given_from, given_in, cookies_left, cookie_of, GivesCookie}
use Rattle.handover_file.proofs.Turn.{run_at, one_within, run_ahead}

-- what is given depends on the cookies from the entry's end alone
after : (b : List ℕ) (at : ℕ) (f g : ℕ → List Cookie) → ((end : ℕ) → at + 2 ≤ end → end ≤ length b → f end ≡ g end) → (x : Held) → held_at b at ≡ x →
    given_on b f x ≡ given_on b g x
after b at f g same (One len start end) e =
    let w = one_within b at len start end e in
    ap (λ (cs : List Cookie). cookie len (part b start (end - start)) ∷ cs) (same end w.0 w.3)
after b at f g same End e = refl
after b at f g same Broken e = refl

none_past : (b : List ℕ) (at : ℕ) (f : ℕ → List Cookie) → length b - at ≤ 0 → (x : Held) → held_at b at ≡ x → given_on b f x ≡ []
none_past b at f h (One len start end) e = let w = one_within b at len start end e in absurd (omega arith)
none_past b at f h End e = refl
none_past b at f h Broken e = refl

enough : (n m : ℕ) (b : List ℕ) (at : ℕ) → length b - at ≤ n → length b - at ≤ m → given_n n b at ≡ given_n m b at
enough zero zero b at h k = refl
enough zero (suc m) b at h k = sym (none_past b at (λ end. given_n m b end) h (held_at b at) refl)
enough (suc n) zero b at h k = none_past b at (λ end. given_n n b end) k (held_at b at) refl
enough (suc n) (suc m) b at h k =
    after b at (λ end. given_n n b end) (λ end. given_n m b end) (λ end l w. enough n m b end (omega arith) (omega arith)) (held_at b at) refl

turn : (b : List ℕ) (at : ℕ) → given_from b at ≡ given_on b (given_from b) (held_at b at)
unfolding given_from
turn b at =
    enough (length b - at) (suc (length b - at)) b at (omega arith) (omega arith)
    ∙ after b at (λ end. given_n (length b - at) b end) (λ end. given_n (length b - end) b end)
    (λ end l w. enough (length b - at) (length b - end) b end (omega arith) (omega arith)) (held_at b at) refl

module _ (b : List ℕ) (at : ℕ) where
  pub given_one : (len start end : ℕ) → held_at b at ≡ One len start end → given_from b at ≡ cookie len (part b start (end - start)) ∷ given_from b end
  given_one len start end e = turn b at ∙ ap (given_on b (given_from b)) e

  given_stop : (x : Held) → held_at b at ≡ x → ((len start end : ℕ) → x ≡ One len start end → ⊥) → given_from b at ≡ []
  given_stop (One len start end) e n = absurd (n len start end refl)
  given_stop End e n = turn b at ∙ ap (given_on b (given_from b)) e
  given_stop Broken e n = turn b at ∙ ap (given_on b (given_from b)) e

  pub none_given : ((len start end : ℕ) → held_at b at ≡ One len start end → ⊥) → given_from b at ≡ []
  none_given n = given_stop (held_at b at) refl n

  -- a cookie has as many bytes as its length says
  sized_at : (c : Cookie) (cs : List Cookie) (x : Held) → held_at b at ≡ x → given_on b (given_from b) x ≡ c ∷ cs → length c.bytes ≡ stored c.len
  sized_at c cs (One len start end) e p =
      let w = one_within b at len start end e in
      let l = length_part b start (end - start) (omega arith) ∙ w.2 in
      let q : cookie len (part b start (end - start)) ≡ c = cc in
      sym (ap (λ (d : Cookie). length d.bytes) q) ∙ l ∙ ap (λ (d : Cookie). stored d.len) q
  sized_at c cs End e p = let z : ◌≡◌ {A = ℕ} 0 1 = cc in absurd (omega arith)
  sized_at c cs Broken e p = let z : ◌≡◌ {A = ℕ} 0 1 = cc in absurd (omega arith)

  first_sized : (c : Cookie) (cs : List Cookie) → given_from b at ≡ c ∷ cs → length c.bytes ≡ stored c.len
  first_sized c cs p = sized_at c cs (held_at b at) refl (sym (turn b at) ∙ p)

-- ---- of a body that fits

ahead_cookies : (c : Cookie) (r : Run) → is_run r ≡ true → cookies_of (ahead c r) ≡ c ∷ cookies_of r
ahead_cookies c (whole cs) e = refl
ahead_cookies c broken e = let z : ◌≡◌ {A = ℕ} 0 1 = cc in absurd (omega arith)

module _ (b : List ℕ) where
  run_on : (at : ℕ) → at ≤ length b → is_run (run_of (drop at b)) ≡ true
      → ((end : ℕ) → at + 2 ≤ end → end ≤ length b → is_run (run_of (drop end b)) ≡ true → given_from b end ≡ cookies_of (run_of (drop end b)))
      → (x : Held) → held_at b at ≡ x → given_from b at ≡ cookies_of (run_of (drop at b))
  run_on at h r later (One len start end) e =
      let w = one_within b at len start end e in
      let c = cookie len (part b start (end - start)) in
      let is = run_at b at h ∙ ap (on_held b) e in
      let s : is_run (run_of (drop end b)) ≡ true = sym (run_ahead c (run_of (drop end b))) ∙ sym (ap is_run is) ∙ r in
      given_one b at len start end e
      ∙ ap (λ (cs : List Cookie). c ∷ cs) (later end w.0 w.3 s)
      ∙ sym (ap cookies_of is ∙ ahead_cookies c (run_of (drop end b)) s)
  run_on at h r later End e =
      given_stop b at End e (λ len start end q. let z : ◌≡◌ {A = ℕ} 0 1 = cc in omega arith)
      ∙ sym (ap cookies_of (run_at b at h ∙ ap (on_held b) e))
  run_on at h r later Broken e =
      let f = sym (ap is_run (run_at b at h ∙ ap (on_held b) e)) ∙ r in
      let z : ◌≡◌ {A = ℕ} 0 1 = cc in
      absurd (omega arith)

  run_given : (n at : ℕ) → length b - at ≤ n → at ≤ length b → is_run (run_of (drop at b)) ≡ true → given_from b at ≡ cookies_of (run_of (drop at b))
  run_given zero at h k r = run_on at k r (λ end l w s. absurd (omega arith)) (held_at b at) refl
  run_given (suc n) at h k r = run_on at k r (λ end l w s. run_given n end (omega arith) w s) (held_at b at) refl

module _ (b : List ℕ) (f : stash_fits b ≡ true) where
  pub has_place : 0 < length b
  unfolding stash_fits
  has_place = some (length b) refl
    where
      some : (n : ℕ) → length b ≡ n → 0 < length b
      some zero e =
          let h = sym (ap (λ (t : Bool). cond t false (is_run (run_of (drop 1 b)))) (eq-eqb (length b) 0 e)) ∙ f in
          absurd (false≢true h)
      some (suc n) e = omega arith

  runs_first : is_run (run_of (drop 1 b)) ≡ true
  unfolding stash_fits
  runs_first = sym (ap (λ (t : Bool). cond t false (is_run (run_of (drop 1 b)))) (ne_eqb (length b) 0 (λ e. omega (arith, has_place)))) ∙ f

  -- its cookies are those that are given
  pub given_held : given_in b ≡ held_in b
  unfolding held_in given_in
  given_held = run_given b (length b) 1 (omega arith) (omega (arith, has_place)) runs_first

-- what a chain of calls on the iterator meets: its cookies, and then none
pub gives_all : (it : Cookies) → YieldsList GivesCookie cookie_of it (cookies_left it)
gives_all it = YieldsList-from_shown GivesCookie cookie_of cookies_left (λ s t g. ap length g.0) (λ s x t g. g) it

-- there are no more of them than bytes
few_on : (b : List ℕ) (n : ℕ) (f : ℕ → List Cookie) → ((end : ℕ) → length (f end) ≤ n) → (x : Held) → length (given_on b f x) ≤ n + 1
few_on b n f h (One len start end) = let k = h end in omega arith
few_on b n f h End = omega arith
few_on b n f h Broken = omega arith

few_n : (n : ℕ) (b : List ℕ) (at : ℕ) → length (given_n n b at) ≤ n
few_n zero b at = omega arith
few_n (suc n) b at = let k = few_on b n (λ end. given_n n b end) (λ end. few_n n b end) (held_at b at) in omega arith

pub few : (b : List ℕ) → length (given_in b) ≤ length b
unfolding given_in given_from
few b = let k = few_n (length b - 1) b 1 in omega arith

-- a cookie that comes next has as many bytes as its length says
pub left_sized : (it : Cookies) (c : Cookie) (cs : List Cookie) → cookies_left it ≡ c ∷ cs → length c.bytes ≡ stored c.len
unfolding cookies_left
left_sized it c cs p = first_sized it.body.now it.at c cs p

-- and so has each of them
sized_on : (b : List ℕ) (f : ℕ → List Cookie) → ((end k : ℕ) (c : Cookie) → slice_get (f end) k ≡ Some c → length c.bytes ≡ stored c.len)
    → (at : ℕ) (x : Held) → held_at b at ≡ x → (k : ℕ) (c : Cookie) → slice_get (given_on b f x) k ≡ Some c → length c.bytes ≡ stored c.len
sized_on b f h at (One len start end) e zero c p =
    let w = one_within b at len start end e in
    let l = length_part b start (end - start) (omega arith) ∙ w.2 in
    let q : cookie len (part b start (end - start)) ≡ c = cc in
    sym (ap (λ (d : Cookie). length d.bytes) q) ∙ l ∙ ap (λ (d : Cookie). stored d.len) q
sized_on b f h at (One len start end) e (suc k) c p = h end k c p
sized_on b f h at End e k c p = let z : ◌≡◌ {A = ℕ} 0 1 = cc in absurd (omega arith)
sized_on b f h at Broken e k c p = let z : ◌≡◌ {A = ℕ} 0 1 = cc in absurd (omega arith)

sized_n : (n : ℕ) (b : List ℕ) (at k : ℕ) (c : Cookie) → slice_get (given_n n b at) k ≡ Some c → length c.bytes ≡ stored c.len
sized_n zero b at k c p = let z : ◌≡◌ {A = ℕ} 0 1 = cc in absurd (omega arith)
sized_n (suc n) b at k c p = sized_on b (λ end. given_n n b end) (λ end. sized_n n b end) at (held_at b at) refl k c p

pub given_sized : (b : List ℕ) (k : ℕ) (c : Cookie) → slice_get (given_in b) k ≡ Some c → length c.bytes ≡ stored c.len
unfolding given_in given_from
given_sized b k c p = sized_n (length b - 1) b 1 k c p
