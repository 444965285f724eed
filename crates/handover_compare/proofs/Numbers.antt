-- Each number of the comparison is given exactly under its rule (specs/Numbers.antt), with that rule's answer and buffer; and the buffer with which 71 is
-- never given.
-- Assumes nothing.
use Prim.Native.Nat.{ℕ, ◌≤◌}
use mathlib.Core.Path.{◌≡◌, refl, sym, ap, subst, ◌∙◌}
use mathlib.Core.Bool.{Bool, true, false, cond}
use mathlib.Core.List.{List}
use mathlib.Core.Logic.{◌↔◌}
use native.Mathlib.Omega.{arith}
use borrow.Author.Tests.{lt-ltb, le-ltb, ltb-true, ltb-false}
use lib.Dec.{ltb}
use lib.ListN.{length}
use Rattle.std.specs.Prelude.{Result, Ok, Err}
use Rattle.handover_file.specs.declared.Loaded.{Loaded}
use Rattle.handover_file.specs.declared.LoadRefusal.{LoadRefusal}
use Rattle.handover_file.specs.declared.LoadRefusal.TheVariants.{WrongMark, WrongLength, NoAssociation}
use Rattle.handover_file.specs.Answers.{over, load_number, load_of}
use Rattle.handover_compare.specs.Fields.{list_bytes}
use Rattle.handover_compare.proofs.Listed.{at_most, list_long}
use Rattle.handover_compare.specs.declared.Side.TheVariants.{Left, Right}
use Rattle.handover_compare.specs.declared.CompareRefusal.{CompareRefusal}
use Rattle.handover_compare.specs.declared.CompareRefusal.TheVariants as says
use Rattle.handover_compare.specs.Answer.{compare_number}
use Rattle.handover_compare.specs.Answers.{told_in, written_in, on_load, if_loaded, right_of, right_out, compare_of, out_of}
use Rattle.handover_compare.specs.Numbers.{
  list,
  CompareGiven,
  left_mark,
  left_length,
  left_none,
  right_mark,
  right_length,
  right_none,
  short_buffer_lem,
  listed,
}

-- a number of reading names its answer
answer_61 : (x : Result Loaded LoadRefusal) → load_number x ≡ 61 → x ≡ Err WrongMark
answer_61 (Ok l) e = absurd (omega arith)
answer_61 (Err WrongMark) e = refl
answer_61 (Err WrongLength) e = absurd (omega arith)
answer_61 (Err NoAssociation) e = absurd (omega arith)

answer_62 : (x : Result Loaded LoadRefusal) → load_number x ≡ 62 → x ≡ Err WrongLength
answer_62 (Ok l) e = absurd (omega arith)
answer_62 (Err WrongMark) e = absurd (omega arith)
answer_62 (Err WrongLength) e = refl
answer_62 (Err NoAssociation) e = absurd (omega arith)

answer_63 : (x : Result Loaded LoadRefusal) → load_number x ≡ 63 → x ≡ Err NoAssociation
answer_63 (Ok l) e = absurd (omega arith)
answer_63 (Err WrongMark) e = absurd (omega arith)
answer_63 (Err WrongLength) e = absurd (omega arith)
answer_63 (Err NoAssociation) e = refl

answer_0 : (x : Result Loaded LoadRefusal) → load_number x ≡ 0 → (l : Loaded) × (x ≡ Ok l)
answer_0 (Ok l) e = (l, refl)
answer_0 (Err WrongMark) e = absurd (omega arith)
answer_0 (Err WrongLength) e = absurd (omega arith)
answer_0 (Err NoAssociation) e = absurd (omega arith)

module _ (f g out : List ℕ) where
  -- the answer and the buffer, by what reading the files gives and whether the list fits
  abbrev answer_by : Result Loaded LoadRefusal → Result Loaded LoadRefusal → Bool → Result ℕ CompareRefusal
  answer_by x y t = on_load Left x (on_load Right y (cond t (Err says.ShortBuffer) (Ok (length (list f g out)))))

  abbrev out_by : Result Loaded LoadRefusal → Result Loaded LoadRefusal → Bool → List ℕ
  out_by x y t = if_loaded x (if_loaded y (cond t out (over (list_bytes (list f g out)) out)) out) out

  given_by : (x y : Result Loaded LoadRefusal) (t : Bool) → (load_of f).answer ≡ x → (load_of g).answer ≡ y
      → ltb (length out) (length (list_bytes (list f g out))) ≡ t
      → CompareGiven f g out (compare_number (answer_by x y t)) (answer_by x y t) (out_by x y t)
  given_by (Err WrongMark) y t a b c = left_mark (ap load_number a)
  given_by (Err WrongLength) y t a b c = left_length (ap load_number a)
  given_by (Err NoAssociation) y t a b c = left_none (ap load_number a)
  given_by (Ok l) (Err WrongMark) t a b c = right_mark (ap load_number a) (ap load_number b)
  given_by (Ok l) (Err WrongLength) t a b c = right_length (ap load_number a) (ap load_number b)
  given_by (Ok l) (Err NoAssociation) t a b c = right_none (ap load_number a) (ap load_number b)
  given_by (Ok l) (Ok m) true a b c = short_buffer_lem (ap load_number a) (ap load_number b)
      (ltb-true (length out) (length (list_bytes (list f g out))) c)
  given_by (Ok l) (Ok m) false a b c = listed (ap load_number a) (ap load_number b) (ltb-false (length out) (length (list_bytes (list f g out))) c)

  abbrev fits : Bool
  fits = ltb (length out) (length (list_bytes (list f g out)))

  answer_by_lem : compare_of f g (length out) ≡ answer_by (load_of f).answer (load_of g).answer fits
  unfolding compare_of right_of told_in
  answer_by_lem = refl

  out_by_lem : out_of f g out ≡ out_by (load_of f).answer (load_of g).answer fits
  unfolding out_of right_out written_in
  out_by_lem = refl

  -- promise: no10.5
  pub compare_given : CompareGiven f g out (compare_number (compare_of f g (length out))) (compare_of f g (length out)) (out_of f g out)
  compare_given =
      subst (λ (x : Result ℕ CompareRefusal). CompareGiven f g out (compare_number x) x (out_of f g out)) (sym answer_by_lem)
      (subst (CompareGiven f g out (compare_number (answer_by (load_of f).answer (load_of g).answer fits))
      (answer_by (load_of f).answer (load_of g).answer fits))
      (sym out_by_lem)
      (given_by (load_of f).answer (load_of g).answer fits refl refl refl))

  only_by : (x y : Result Loaded LoadRefusal) (t : Bool) → (load_of f).answer ≡ x → (load_of g).answer ≡ y → fits ≡ t →
      (compare_of f g (length out) ≡ answer_by x y t) ×
      (out_of f g out ≡ out_by x y t)
  only_by x y t a b c = (answer_by_lem ∙ (λ i. answer_by (a i) (b i) (c i)), out_by_lem ∙ (λ i. out_by (a i) (b i) (c i)))

  -- and no other is given
  -- promise: no10.5
  pub compare_only : {n : ℕ} {x : Result ℕ CompareRefusal} {left : List ℕ} → CompareGiven f g out n x left →
      (compare_of f g (length out) ≡ x) × (out_of f g out ≡ left)
  compare_only (left_mark a) = only_by (Err WrongMark) (load_of g).answer fits (answer_61 _ a) refl refl
  compare_only (left_length a) = only_by (Err WrongLength) (load_of g).answer fits (answer_62 _ a) refl refl
  compare_only (left_none a) = only_by (Err NoAssociation) (load_of g).answer fits (answer_63 _ a) refl refl
  compare_only (right_mark a b) = only_by (Ok (answer_0 (load_of f).answer a).0) (Err WrongMark) fits (answer_0 (load_of f).answer a).1 (answer_61 _ b) refl
  compare_only (right_length a b) = only_by (Ok (answer_0 (load_of f).answer a).0) (Err WrongLength) fits (answer_0 (load_of f).answer a).1 (answer_62 _ b) refl
  compare_only (right_none a b) = only_by (Ok (answer_0 (load_of f).answer a).0) (Err NoAssociation) fits (answer_0 (load_of f).answer a).1 (answer_63 _ b) refl
  compare_only (short_buffer_lem a b h) = only_by (Ok (answer_0 (load_of f).answer a).0) (Ok (answer_0 (load_of g).answer b).0) true
      (answer_0 (load_of f).answer a).1 (answer_0 (load_of g).answer b).1 (lt-ltb _ _ h)
  compare_only (listed a b h) = only_by (Ok (answer_0 (load_of f).answer a).0) (Ok (answer_0 (load_of g).answer b).0) false
      (answer_0 (load_of f).answer a).1 (answer_0 (load_of g).answer b).1 (le-ltb _ _ h)

  numbered : {n : ℕ} {x : Result ℕ CompareRefusal} {left : List ℕ} → CompareGiven f g out n x left → compare_number x ≡ n
  numbered (left_mark a) = refl
  numbered (left_length a) = refl
  numbered (left_none a) = refl
  numbered (right_mark a b) = refl
  numbered (right_length a b) = refl
  numbered (right_none a b) = refl
  numbered (short_buffer_lem a b h) = refl
  numbered (listed a b h) = refl

  -- promise: no10.5
  pub compare_number_lem : (n : ℕ) → (compare_number (compare_of f g (length out)) ≡ n)
      ↔ ((x : Result ℕ CompareRefusal) × (left : List ℕ) × CompareGiven f g out n x left)
  compare_number_lem n = (
    (λ e. (
      compare_of f g (length out),
      out_of f g out,
      subst (λ (k : ℕ). CompareGiven f g out k (compare_of f g (length out)) (out_of f g out))
          e compare_given,
    )),
    (λ (x, left, c). ap compare_number (compare_only c).0 ∙ numbered c),
  )

  -- no list has more than 494 bytes
  -- promise: no10.6
  pub longest_list : length (list_bytes (list f g out)) ≤ 494
  longest_list = omega (arith, list_long (list f g out), at_most (load_of f).association (load_of g).association)

  -- so that with a buffer of 494 bytes 71 is never given
  -- promise: no10.6
  pub room_enough : 494 ≤ length out → compare_number (compare_of f g (length out)) ≡ 71 → ⊥
  room_enough h e = go ((compare_number_lem 71).0 e).2
    where
      go : {x : Result ℕ CompareRefusal} {left : List ℕ} → CompareGiven f g out 71 x left → ⊥
      go (short_buffer_lem a b s) = omega (arith, longest_list)
