-- Rows that are all zero: a scan by pieces, and what is seen of them.
-- Assumes nothing.
use Prim.Native.Nat.{ℕ, zero, suc, ◌+◌, ◌-◌, ◌≤◌}
use mathlib.Core.Path.{◌≡◌, refl, sym, ap, ◌∙◌}
use mathlib.Core.Bool.{Bool, true, false, ◌&&◌, cond}
use mathlib.Core.List.{List, [], ◌∷◌}
use native.Mathlib.Omega.{arith}
use lib.Dec.{eqb}
use lib.ListN.{get_or, take, drop, replicate}
use lib.Seq.{take-take}
use Rattle.std.proofs.Common.{None, Some}
use Rattle.words.specs.Bytes.{part, zeros}
use Rattle.words.proofs.Zeros.{of_zeros}
use Rattle.cookiestash.specs.declared.Seen.{Seen}
use Rattle.cookiestash.specs.Stash.{wrap, range_of}
use Rattle.cookiestash.specs.Whole.{round_free, has_of, seen_from}
use Rattle.record_stash.proofs.Rows.{and_assoc, and_true}
use Rattle.record_stash.proofs.Zeros.{zero_at}

-- ---- a scan by pieces

zeros_split : (n : ℕ) (l : List ℕ) → zeros l ≡ zeros (take n l) && zeros (drop n l)
unfolding zeros
zeros_split zero l = refl
zeros_split (suc n) [] = refl
zeros_split (suc n) (x ∷ l) = ap (λ (t : Bool). eqb x 0 && t) (zeros_split n l) ∙ sym (and_assoc (eqb x 0) (zeros (take n l)) (zeros (drop n l)))

-- a piece and what lies behind it decide together
pub zeros_on : (n : ℕ) (l piece behind : List ℕ) → piece ≡ take n l → behind ≡ drop n l → zeros l ≡ zeros piece && zeros behind
zeros_on n l piece behind p q = zeros_split n l ∙ (λ i. zeros (sym p i) && zeros (sym q i))

-- the start of what lies behind an offset
pub start_part : (b : List ℕ) (at n k : ℕ) → n ≤ k → part (take k (drop at b)) 0 n ≡ part b at n
unfolding part
start_part b at n k h = take-take n k (drop at b) h

-- ---- what is seen

none_past : (m k : ℕ) → zeros (drop k (replicate m 0)) ≡ true
unfolding zeros
none_past m zero = of_zeros m
none_past zero (suc k) = refl
none_past (suc m) (suc k) = none_past m k

none_round : (m cap at n : ℕ) → round_free cap (replicate m 0) at n ≡ true
none_round m cap at zero = refl
none_round m cap at (suc n) =
    ap (λ (x : ℕ). eqb x 0 && round_free cap (replicate m 0) (wrap cap (at + 1)) n) (zero_at m at) ∙ none_round m cap (wrap cap (at + 1)) n

and_false : (t : Bool) → t && false ≡ false
and_false true = refl
and_false false = refl

module _ (cap read m : ℕ) where
  holds_none : has_of cap read 0 ≡ false
  holds_none = and_false (range_of cap read 0)

  is_whole : range_of cap read 0 && (true && (zeros (drop cap (replicate m 0)) && round_free cap (replicate m 0) (wrap cap (read + 0)) (cap - 0)))
      ≡ range_of cap read 0
  is_whole =
      (λ i. range_of cap read 0 && (none_past m cap i && none_round m cap (wrap cap (read + 0)) (cap - 0) i)) ∙ and_true (range_of cap read 0)

  has_room : cap - cond (has_of cap read 0) (0 - 1) 0 ≡ cap
  has_room = let n : cap - 0 ≡ cap = omega arith in ap (λ (t : Bool). cap - cond t (0 - 1) 0) holds_none ∙ n

  pub seen_none : (t : Bool) → t ≡ range_of cap read 0 →
      ◌≡◌ {A = Seen} (record { whole = t; oldest = None; gap = cap; read = read; held = 0 }) (seen_from cap read 0 true (replicate m 0))
  unfolding seen_from
  seen_none t e =
      λ i. record {
        whole = (e ∙ sym is_whole) i;
        oldest = cond (sym holds_none i) (Some (get_or (replicate m 0) read 0)) None;
        gap = sym has_room i;
        read = read;
        held = 0;
      }
