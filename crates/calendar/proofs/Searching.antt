-- `find` over the numbers below a bound gives what `lowest` is, and so does `position` over a list: the lowest that passes.
-- Assumes nothing.
use mathlib.Core.Path.{◌≡◌, refl, sym}
use mathlib.Core.Bool.{Bool, true, false}
use mathlib.Core.List.{List}
use Prim.Native.Nat.{ℕ, ◌≤◌, ◌<◌}
use lib.ListN.{length, get_or}
use native.Mathlib.Omega.{arith}
use denote.Ref.{Bor}
use denote.Param.Members.{Mut}
use Rattle.std.specs.declared.ops.Range.{Range}
use Rattle.std.specs.Prelude.{Option, Some, None}
use Rattle.std.specs.Bool.{⊤}
use Rattle.std.specs.Option.{MatchOption}
use Rattle.std.specs.List.{FoldsTo, position, position_or_len}
use Rattle.std.specs.Iterator.{YieldsThen}
use Rattle.std.specs.Fn.{CalledAt}
use Rattle.std.proofs.iter.Yields.{nat_range_steps}
use Rattle.std.proofs.lemmas.Iterator.{first_from_Range}
use Rattle.std.proofs.lemmas.List.Quantifiers.{position-Some}
use Rattle.std.proofs.lemmas.List.Sums.{fails_before_first}
use Rattle.std.proofs.lemmas.Grind.{common_steps}
use Rattle.calendar.specs.Lowest.{lowest}
use Rattle.calendar.proofs.Search.{is}

-- the closure gives the test's answer for each number, and stays as it is
-- promise: no13.3
pub lowest_from_find : {F : Type 0} {g : Mut F (Bor ℕ × Unit {0}) Bool} (test : ℕ → Bool) (n : ℕ) (u : Range ℕ) (f : F) (r : Option ℕ)
    → (xs : List ℕ) × (j : F) × YieldsThen nat_range_steps (record { start = 0; end = n }) xs r u
    × FoldsTo (λ p x q. CalledAt g p x false q) f xs j × MatchOption r ⊤ (λ x. (h : F) × CalledAt g j x true h)
    → ((x : ℕ) (q : F) → CalledAt g f x true q → test x ≡ true) → ((x : ℕ) (q : F) → CalledAt g f x false q → (q ≡ f) × (test x ≡ false))
    → r ≡ lowest test n
lowest_from_find test n u f r found passing failing =
    by r (first_from_Range (record { start = 0; end = n }) u f r (λ x. test x ≡ true) (λ x. test x ≡ false) found passing failing)
  where
    by : (o : Option ℕ) → MatchOption o ((k : ℕ) → 0 ≤ k → k < n → test k ≡ false)
        (λ i. (0 ≤ i) × (i < n) × (test i ≡ true) × ((k : ℕ) → 0 ≤ k → k < i → test k ≡ false))
        → o ≡ lowest test n
    by None h = sym (is test n None (λ k l. h k (omega arith) l))
    by (Some i) h = sym (is test n (Some i) (record { below = h.1; passes = h.2; first = λ k l. h.3 k (omega arith) l }))

-- the places of a list
-- promise: no13.3
pub lowest_from_position : {A : Type 0} (test : A → Bool) (xs : List A) (d : A) → position test xs ≡ lowest (λ k. test (get_or xs k d)) (length xs)
lowest_from_position test xs d = by (position test xs) refl
  where
    by : (o : Option ℕ) → position test xs ≡ o → o ≡ lowest (λ k. test (get_or xs k d)) (length xs)
    by None e =
        let past : length xs ≤ position_or_len test xs = grind (arith, common_steps) in
        sym (is _ _ None (λ k l. fails_before_first test xs k d (omega arith)))
    by (Some i) e = let h = position-Some test xs i d e in sym (is _ _ (Some i) (record { below = h.0; passes = h.1; first = h.2 }))
