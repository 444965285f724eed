-- RULES, No. 2: below stratum 2 acceptance is the crate's, whatever the source reports; and an identifier is looked for by its place in the list.
-- Assumes nothing.
use mathlib.Core.Path.{◌≡◌, refl}
use mathlib.Core.Bool.{Bool, true, false}
use mathlib.Core.List.{List, [], ◌∷◌}
use mathlib.Core.Logic.{◌↔◌}
use Prim.Native.Nat.{ℕ, zero, suc, ◌≤◌, ◌<◌}
use native.Mathlib.Omega.{arith}
use borrow.Author.Tests.{lt-leb, eqb-true, eq-eqb}
use lib.Dec.{eqb}
use lib.ListN.{length, get_or}
use Rattle.words.proofs.Tests.{fails}
use Rattle.association.specs.declared.Association.{Association}
use Rattle.association_accept.specs.declared.Bloom.{Bloom}
use Rattle.std.specs.Prelude.{Ok}
use Rattle.std.proofs.lemmas.Bool.{or_right}
use Rattle.association_accept.specs.Accept.{among, accept_of, crate_accept_of}
use Rattle.association_accept.proofs.Crate.{as_the_crate, never_accepted}

-- promise: no2.1 (below stratum 2 the answer is the crate's)
pub below_two : (a : Association) (stratum : ℕ) (local : List ℕ) (bloom : Bloom) → a.state.source.stratum < 2 →
    accept_of a stratum local bloom ≡ crate_accept_of a stratum local bloom
below_two a stratum local bloom h = as_the_crate a stratum local bloom (fails _ (lt-leb 2 a.state.source.stratum h))

-- an identifier stands in a list at a place
pub record Stands (id : ℕ) (l : List ℕ) : Type 0 where
  pub place : ℕ
  pub within : place < length l
  pub there : get_or l place 0 ≡ id

stands : (id : ℕ) (l : List ℕ) → among id l ≡ true → Stands id l
stands id [] e = let z : ◌≡◌ {A = ℕ} 0 1 = cc in absurd (omega arith)
stands id (x ∷ l) e = by (eqb x id) refl (stands id l)
  where
    by : (t : Bool) → eqb x id ≡ t → (among id l ≡ true → Stands id l) → Stands id (x ∷ l)
    by true f later = record { place = 0; within = omega arith; there = eqb-true x id f }
    by false f later = let s = later (rw f at e) in record { place = suc s.place; within = omega (arith, s.within); there = s.there }

found : (id : ℕ) (l : List ℕ) (k : ℕ) → k < length l → get_or l k 0 ≡ id → among id l ≡ true
found id [] k h e = absurd (omega arith)
found id (x ∷ l) zero h e = rw (eq-eqb x id e)
found id (x ∷ l) (suc k) h e = or_right (eqb x id) _ (found id l k (omega arith) e)

-- promise: no2.1 (an identifier is among ours exactly if it is at a place of the list)
pub among_stands : (id : ℕ) (l : List ℕ) → (among id l ≡ true) ↔ Stands id l
among_stands id l = (stands id l, λ s. found id l s.place s.within s.there)

-- from stratum 2 up a source that reports an identifier of the list is not accepted
pub reported_refused : (a : Association) (stratum : ℕ) (local : List ℕ) (bloom : Bloom) → 2 ≤ a.state.source.stratum →
    Stands a.state.source.refid.0 local →
    accept_of a stratum local bloom ≡ Ok tt → ⊥
reported_refused a stratum local bloom h s = never_accepted a stratum local bloom (record { far = h; reported = (among_stands _ local).1 s })
