-- What is handed out of a slot: nothing of one that stores nothing, and all of a cookie that is stored, where there is room for it.
-- Assumes nothing.
use Prim.Native.Nat.{ℕ, ◌≤◌, min}
use mathlib.Core.Path.{◌≡◌, ap}
use mathlib.Core.List.{List}
use native.Mathlib.Omega.{arith}
use borrow.Author.Tests.{le-leb}
use lib.ListN.{length}
use Rattle.cookiestash.specs.declared.Slot.{Slot}
use Rattle.cookiestash.specs.Stash.{stored}
use Rattle.cookiestash.specs.Handed.{wrote, handed_of}

-- promise: 3.11
pub handed_none : (x : Slot) (ys : List ℕ) → stored x.len ≡ 0 → handed_of x ys ≡ ys
unfolding handed_of
handed_none x ys e =
    let k : min (stored x.len) (length ys) ≡ 0 = omega arith in
    ap (λ (j : ℕ). wrote x.bytes j ys) k

-- promise: 3.11 (a cookie that is stored goes whole to a buffer that has room for it)
pub handed_all : (x : Slot) (ys : List ℕ) → x.len ≤ 724 → x.len ≤ length ys → handed_of x ys ≡ wrote x.bytes x.len ys
unfolding handed_of stored
handed_all x ys n l =
    let e : stored x.len ≡ x.len = simp (le-leb x.len 724 n) in
    let k : min (stored x.len) (length ys) ≡ x.len = omega arith in
    ap (λ (j : ℕ). wrote x.bytes j ys) k
