-- THE LAW of the stash's reader: what stands at an offset, and then the cookies from where it ends.
-- Assumes nothing.
use Prim.Native.Nat.{ℕ, zero, suc, ◌+◌, ◌-◌, ◌≤◌}
use mathlib.Core.Path.{◌≡◌, refl, sym, ap, subst, ◌∙◌}
use mathlib.Core.Bool.{Bool, true, false, cond}
use mathlib.Core.List.{List, []}
use native.Mathlib.Nat.{add-sub_cancel_left}
use native.Mathlib.Omega.{arith}
use borrow.Author.Tests.{le-ltb, ltb-true, ltb-false, eq-eqb, ne_eqb, eqb-true, eqb-false}
use lib.Dec.{ltb, eqb}
use lib.ListN.{length, drop, length-drop}
use lib.Seq.{drop-drop}
use Rattle.words.specs.Bytes.{be, part}
use Rattle.cookiestash.specs.Stash.{stored}
use Rattle.cookiestash.specs.Queue.{Cookie}
use Rattle.handover_file.specs.declared.cut.Held.{Held}
use Rattle.handover_file.specs.declared.cut.Held.TheVariants.{One, End, Broken}
use Rattle.handover_file.specs.Cookies.{Run, whole, broken, ahead, len_of, first_of, run_turn, run_n, run_of, is_run}
use Rattle.handover_file.specs.Steps.{word_at, held_at, cookie, on_held}
use Rattle.handover_file.proofs.Places.{through, part_of_drop}

-- ---- no matter how many cookies may be read, as long as they are enough

turn_same : (f g : List ℕ → Run) (l : List ℕ) → (2 ≤ length l → f (drop (2 + stored (len_of l)) l) ≡ g (drop (2 + stored (len_of l)) l)) →
    run_turn f l ≡ run_turn g l
turn_same f g l h = go (ltb (length l) 2) refl
  where
    go : (t : Bool) → ltb (length l) 2 ≡ t
        → cond (eqb (length l) 0) (whole []) (cond t broken
        (cond (ltb (length l - 2) (stored (len_of l))) broken (ahead (first_of l) (f (drop (2 + stored (len_of l)) l)))))
        ≡ cond (eqb (length l) 0) (whole []) (cond t broken
        (cond (ltb (length l - 2) (stored (len_of l))) broken (ahead (first_of l) (g (drop (2 + stored (len_of l)) l)))))
    go true e = refl
    go false e = ap (λ (r : Run). cond (eqb (length l) 0) (whole []) (cond (ltb (length l - 2) (stored (len_of l))) broken (ahead (first_of l) r)))
        (h (ltb-false (length l) 2 e))

enough : (n m : ℕ) (l : List ℕ) → length l ≤ n → length l ≤ m → run_n n l ≡ run_n m l
enough zero zero l h k = refl
enough zero (suc m) l h k = turn_same (λ (r : List ℕ). broken) (λ (r : List ℕ). run_n m r) l (λ e. absurd (omega arith))
enough (suc n) zero l h k = turn_same (λ (r : List ℕ). run_n n r) (λ (r : List ℕ). broken) l (λ e. absurd (omega arith))
enough (suc n) (suc m) l h k =
    turn_same (λ (r : List ℕ). run_n n r) (λ (r : List ℕ). run_n m r) l
    (λ e. let d = length-drop (2 + stored (len_of l)) l in enough n m (drop (2 + stored (len_of l)) l) (omega arith) (omega arith))

pub turn : (l : List ℕ) → run_of l ≡ run_turn run_of l
unfolding run_of
turn l =
    enough (length l) (suc (length l)) l (omega arith) (omega arith)
    ∙ turn_same (λ (r : List ℕ). run_n (length l) r) (λ (r : List ℕ). run_n (length r) r) l
    (λ e. let d = length-drop (2 + stored (len_of l)) l in
    enough (length l) (length (drop (2 + stored (len_of l)) l)) (drop (2 + stored (len_of l)) l) (omega arith) (omega arith))

-- ---- at an offset

module _ (b : List ℕ) (at : ℕ) where
  len_is : len_of (drop at b) ≡ word_at b at
  unfolding len_of word_at
  len_is = let e : at + 0 ≡ at = omega arith in ap be (part_of_drop b at 0 2 ∙ ap (λ (k : ℕ). part b k 2) e)

  first_is : first_of (drop at b) ≡ record { len = word_at b at; bytes = part b (at + 2) (stored (word_at b at)) }
  unfolding first_of
  first_is = rw (len_is, part_of_drop b at 2 (stored (word_at b at)))

  one_is : ahead (first_of (drop at b)) (run_of (drop (2 + stored (len_of (drop at b))) (drop at b)))
      ≡ on_held b (One (word_at b at) (at + 2) (at + 2 + stored (word_at b at)))
  one_is =
      let n = stored (word_at b at) in
      let e : at + (2 + n) ≡ at + 2 + n = omega arith in
      rw (first_is, len_is, drop-drop (2 + n) at b, e, add-sub_cancel_left)

  pub run_at : at ≤ length b → run_of (drop at b) ≡ on_held b (held_at b at)
  unfolding held_at
  run_at h =
      turn (drop at b)
      ∙ rw (le-ltb (length b) at h, length-drop, one_is, len_is)
      (sym
      (through (on_held b) (eqb (length b - at) 0) End _
      ∙ ap (cond (eqb (length b - at) 0) (whole []))
      (through (on_held b) (ltb (length b - at) 2) Broken _
      ∙ ap (cond (ltb (length b - at) 2) broken)
      (through (on_held b) (ltb (length b - at - 2) (stored (word_at b at))) Broken (One (word_at b at) (at + 2) (at + 2 + stored (word_at b at)))))))

  -- what an entry says of its place
  data View : Held → Type 0 where
    one : at + 2 + stored (word_at b at) ≤ length b → View (One (word_at b at) (at + 2) (at + 2 + stored (word_at b at)))
    end : at ≡ length b → View End
    bad : (at ≡ length b → ⊥) → View Broken

  view : View (held_at b at)
  unfolding held_at
  view =
      go (ltb (length b) at) (eqb (length b - at) 0) (ltb (length b - at) 2) (ltb (length b - at - 2) (stored (word_at b at)))
      refl refl refl refl
    where
      go : (s t u v : Bool) → ltb (length b) at ≡ s → eqb (length b - at) 0 ≡ t → ltb (length b - at) 2 ≡ u
          → ltb (length b - at - 2) (stored (word_at b at)) ≡ v
          → View (cond s Broken (cond t End (cond u Broken (cond v Broken (One (word_at b at) (at + 2) (at + 2 + stored (word_at b at)))))))
      go true t u v e d f g = bad (λ x. let l = ltb-true (length b) at e in omega arith)
      go false true u v e d f g = end (let l = ltb-false (length b) at e in let z = eqb-true (length b - at) 0 d in omega arith)
      go false false true v e d f g = bad (λ x. eqb-false (length b - at) 0 d (omega arith))
      go false false false true e d f g = bad (λ x. eqb-false (length b - at) 0 d (omega arith))
      go false false false false e d f g = one (omega
          (arith, ltb-false (length b) at e, ltb-false (length b - at) 2 f, ltb-false (length b - at - 2) (stored (word_at b at)) g))

  pub one_within : (len start stop : ℕ) → held_at b at ≡ One len start stop → (at + 2 ≤ stop) × (start ≤ stop) × (stop - start ≡ stored len) × (stop ≤ length b)
  one_within len start stop e = go len start stop (subst View e view)
    where
      go : (len start stop : ℕ) → View (One len start stop) → (at + 2 ≤ stop) × (start ≤ stop) × (stop - start ≡ stored len) × (stop ≤ length b)
      go _ _ _ (one h) = (omega arith, omega arith, add-sub_cancel_left (at + 2) (stored (word_at b at)), h)

-- ---- whether the cookies end with the bytes

pub run_ahead : (c : Cookie) (r : Run) → is_run (ahead c r) ≡ is_run r
run_ahead c (whole cs) = refl
run_ahead c broken = refl

module _ (b : List ℕ) (at : ℕ) (h : at ≤ length b) where
  pub fits_one : (len start stop : ℕ) → held_at b at ≡ One len start stop → is_run (run_of (drop at b)) ≡ is_run (run_of (drop stop b))
  fits_one len start stop e = ap is_run (run_at b at h ∙ ap (on_held b) e) ∙ run_ahead (cookie len (part b start (stop - start))) (run_of (drop stop b))

  fits_end : held_at b at ≡ End → is_run (run_of (drop at b)) ≡ true
  fits_end e = ap is_run (run_at b at h ∙ ap (on_held b) e)

  fits_broken : held_at b at ≡ Broken → is_run (run_of (drop at b)) ≡ false
  fits_broken e = ap is_run (run_at b at h ∙ ap (on_held b) e)

  -- where no cookie stands, they end with the bytes exactly at the end
  pub fits_rest : ((len start stop : ℕ) → held_at b at ≡ One len start stop → ⊥) → is_run (run_of (drop at b)) ≡ eqb at (length b)
  fits_rest n = go (held_at b at) refl (view b at)
    where
      go : (x : Held) → held_at b at ≡ x → View b at x → is_run (run_of (drop at b)) ≡ eqb at (length b)
      go _ e (one w) = absurd (n _ _ _ e)
      go _ e (end l) = fits_end e ∙ sym (eq-eqb at (length b) l)
      go _ e (bad d) = fits_broken e ∙ sym (ne_eqb at (length b) d)
