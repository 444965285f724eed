-- A mark is read from its own two bytes.
-- Assumes nothing.
use mathlib.Core.Path.{◌≡◌}
use mathlib.Core.List.{List}
use Prim.Native.Nat.{ℕ, ◌+◌, ◌-◌}
use native.Mathlib.Omega.{arith}
use lib.ListN.{take, drop}
use Rattle.words.specs.Bytes.{be, part}
use Rattle.cookielist.specs.List.{record_mark_at}
use Rattle.cookielist.proofs.Head.{mark_within}

pub own_mark : (l : List ℕ) (at : ℕ) → be (part (take (at + 2 - at) (drop at l)) 0 2) ≡ record_mark_at l at
own_mark l at = mark_within l at (at + 2 - at) (omega arith)
