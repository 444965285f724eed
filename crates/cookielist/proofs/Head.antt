-- The head of a record: what the code reads from its four bytes alone is the mark and the length that the list has there.
-- Assumes nothing.
use mathlib.Core.Path.{◌≡◌, ap, ◌∙◌}
use mathlib.Core.List.{List}
use Prim.Native.Nat.{ℕ, ◌+◌, ◌-◌, ◌≤◌}
use native.Mathlib.Omega.{arith}
use lib.ListN.{take, drop}
use Rattle.words.specs.Bytes.{be, part}
use Rattle.words.proofs.Bytes.{part_within}
use Rattle.cookielist.specs.List.{record_mark_at, length_at}

-- of any part that has the mark whole
pub mark_within : (l : List ℕ) (at m : ℕ) → 2 ≤ m → be (part (take m (drop at l)) 0 2) ≡ record_mark_at l at
unfolding record_mark_at
mark_within l at m h = ap be (part_within l at m 0 2 h ∙ ap (λ (k : ℕ). part l k 2) (omega arith))

pub head_mark : (l : List ℕ) (at : ℕ) → be (part (take (at + 4 - at) (drop at l)) 0 2) ≡ record_mark_at l at
head_mark l at = mark_within l at (at + 4 - at) (omega arith)

pub head_length : (l : List ℕ) (at : ℕ) → be (part (take (at + 4 - at) (drop at l)) 2 2) ≡ length_at l at
unfolding length_at
head_length l at = ap be (part_within l at (at + 4 - at) 2 2 (omega arith))
