-- Lengths kept, four-byte heads counted, and bytes skipped add up to the input; and the clean list is as long as what was kept.
-- Assumes nothing.
use Prim.Native.Nat.{ℕ, ◌+◌, ◌-◌, ◌≤◌}
use mathlib.Core.Path.{◌≡◌, refl, ◌∙◌}
use mathlib.Core.List.{List}
use native.Mathlib.Omega.{arith}
use lib.ListN.{length, length-append}
use Rattle.words.specs.Bytes.{part}
use Rattle.words.proofs.Bytes.{length_part}
use Rattle.salvage.specs.Walk.{walk_from, walk_of}
use Rattle.salvage.specs.Salvage.{lengths_in, skipped_in, records_in, clean_of}
use Rattle.salvage.proofs.Walks.{walk_induction}

sums_from : (l : List ℕ) (at : ℕ) → at ≤ length l → at + lengths_in (walk_from l at) + skipped_in (walk_from l at) ≡ length l
sums_from l =
    walk_induction l (λ at w. at + lengths_in w + skipped_in w ≡ length l)
    (omega arith)
    (λ at end k behind. omega (arith, k.headed))
    (λ at h e behind. omega arith)

-- THE LAW of the sums
-- promise: no9.5
pub sums : (l : List ℕ) → lengths_in (walk_of l) + skipped_in (walk_of l) ≡ length l
sums l = omega (arith, sums_from l 0 (omega arith))

clean_long_from : (l : List ℕ) (at : ℕ) → at ≤ length l → length (records_in l (walk_from l at)) ≡ lengths_in (walk_from l at)
clean_long_from l =
    walk_induction l (λ at w. length (records_in l w) ≡ lengths_in w)
    refl
    (λ at end k behind.
    length-append (part l at (end - at)) (records_in l (walk_from l end))
    ∙ omega (arith, length_part l at (end - at) (omega (arith, k.headed, k.within))))
    (λ at h e behind. behind)

-- promise: no9.5 (the clean list is as long as the lengths kept)
pub clean_long : (l : List ℕ) → length (clean_of l) ≡ lengths_in (walk_of l)
unfolding clean_of
clean_long l = clean_long_from l 0 (omega arith)

-- so the clean list fits wherever the input does
-- promise: no9.5
pub clean_fits : (l : List ℕ) → length (clean_of l) ≤ length l
clean_fits l = omega (arith, clean_long l, sums l)
