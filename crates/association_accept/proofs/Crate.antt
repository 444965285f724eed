-- The loop test beside the crate's: where the answers differ, and what the new test is worth (No. 2).
-- Assumes nothing.
use mathlib.Core.Path.{◌≡◌, refl, sym, ap, ◌∙◌}
use mathlib.Core.Bool.{Bool, true, false, ◌||◌}
use mathlib.Core.List.{List}
use Prim.Native.Nat.{ℕ, ◌≤◌, ◌<◌}
use native.Mathlib.Omega.{arith}
use borrow.Author.Tests.{le-leb}
use lib.Dec.{leb}
use Rattle.words.proofs.Tests.{passes, or_true}
use Rattle.reach.specs.Register.{reachable_of}
use Rattle.cookiestash.specs.Whole.{seen_of}
use Rattle.association.specs.declared.Association.{Association}
use Rattle.association.specs.Record.{whole_of}
use Rattle.association_accept.specs.declared.Bloom.{Bloom}
use Rattle.std.specs.Prelude.{Result, Ok, Err}
use Rattle.std.proofs.lemmas.Bool.{or_right}
use Rattle.association_accept.specs.declared.AcceptRefusal.{AcceptRefusal}
use Rattle.association_accept.specs.declared.AcceptRefusal.TheVariants.{Stratum, Loop, NotWhole}
use Rattle.association_accept.specs.Accept.{number_of, among, is_present, is_ours, served_by_us, accept_by, accept_seen, accept_of, crate_accept_of}

-- a test that does not hit is as good as none
dropped : (o p : Bool) {s : Bool} → s ≡ false → ((o || s) || p) ≡ (o || p)
dropped true p e = refl
dropped false p e = ap (λ (u : Bool). u || p) e

-- the source says that it gets its time from us
-- promise no2.2: A source that reports one of our identifiers, at stratum 2 or more, is never accepted, whatever else the record and the call hold.
--     edit: association_accept/the_reported_identifier_is_not_compared
-- promise no2.3: Of two connectors that serve each other, neither accepts the other.
--     edit: association_accept/the_reported_identifier_is_not_compared
pub record ServedByUs (a : Association) (local : List ℕ) : Type 0 where
  pub far : 2 ≤ a.state.source.stratum
  pub reported : among a.state.source.refid.0 local ≡ true

module _ (a : Association) (stratum : ℕ) (local : List ℕ) (bloom : Bloom) where
  abbrev ourself : Bool
  ourself = is_ours a.state.source.stratum a.settings.source.0 local

  abbrev served : Bool
  served = served_by_us a.state.source.stratum a.state.source.refid.0 local

  -- where the new test does not hit, the answer is the crate's
  -- promise: no2.1 (elsewhere the answer is the crate's)
  pub as_the_crate : served ≡ false → accept_of a stratum local bloom ≡ crate_accept_of a stratum local bloom
  unfolding accept_seen crate_accept_of whole_of
  as_the_crate h = ap (λ (l : Bool). accept_by l a.settings a.state (seen_of a.settings.capacity a.stash) stratum)
      (dropped ourself (is_present bloom) h)

  -- so where the answer is not the crate's the new test hits, and the answer is 41
  -- promise: no2.1
  pub differs : (accept_of a stratum local bloom ≡ crate_accept_of a stratum local bloom → ⊥) → (served ≡ true) × (accept_of a stratum local bloom ≡ Err Loop)
  unfolding accept_seen crate_accept_of whole_of
  differs d = by (whole_of a) (leb stratum a.state.source.stratum) served refl refl refl
    where
      by : (w b s : Bool) → whole_of a ≡ w → leb stratum a.state.source.stratum ≡ b → served ≡ s → (served ≡ true) × (accept_of a stratum local bloom ≡ Err Loop)
      by false b s ew eb es = absurd (d (rw ew))
      by true true s ew eb es = absurd (d (rw (ew, eb)))
      by true false false ew eb es = absurd (d (as_the_crate es))
      by true false true ew eb es = (es, rw (ew, eb, or_true (is_present bloom) (or_right ourself _ es)))

  -- a source that reports one of our identifiers from stratum 2 up is never accepted, whatever else the record holds
  -- promise: no2.2
  pub never_accepted : ServedByUs a local → accept_of a stratum local bloom ≡ Ok tt → ⊥
  unfolding accept_seen whole_of
  never_accepted s e = by (whole_of a) (leb stratum a.state.source.stratum) refl refl
    where
      hit : served ≡ true
      hit = passes _ (le-leb 2 a.state.source.stratum s.far) ∙ s.reported

      other : (r : Result (Unit {0}) AcceptRefusal) → accept_of a stratum local bloom ≡ r → 0 < number_of r → ⊥
      other r f p = let z : number_of r ≡ number_of (Ok tt) = ap number_of (sym f ∙ e) in omega arith

      by : (w b : Bool) → whole_of a ≡ w → leb stratum a.state.source.stratum ≡ b → ⊥
      by false b ew eb = other (Err NotWhole) (rw ew) (omega arith)
      by true true ew eb = other (Err Stratum) (rw (ew, eb)) (omega arith)
      by true false ew eb = other (Err Loop) (rw (ew, eb, or_true (is_present bloom) (or_right ourself _ hit))) (omega arith)

  -- the crate's rule accepts it, where nothing else speaks against it
  -- promise: no2.4
  pub by_the_crate : whole_of a ≡ true → leb stratum a.state.source.stratum ≡ false → ourself ≡ false → is_present bloom ≡ false
      → reachable_of a.state.effort.reach ≡ true → crate_accept_of a stratum local bloom ≡ Ok tt
  unfolding crate_accept_of whole_of
  by_the_crate w b o p r = rw (w, b, o, p, r)

-- so of two connectors that serve each other neither accepts the other
-- promise: no2.3
pub neither : (a b : Association) (ours theirs : List ℕ) → ServedByUs a ours → ServedByUs b theirs → (stratum level : ℕ) (bloom filter : Bloom)
    → (accept_of a stratum ours bloom ≡ Ok tt → ⊥) × (accept_of b level theirs filter ≡ Ok tt → ⊥)
neither a b ours theirs s t stratum level bloom filter = (never_accepted a stratum ours bloom s, never_accepted b level theirs filter t)

-- with capacity 8 acceptance is what it was before there was a capacity (RULES, No. 12)
-- promise: no12.4
pub accept_8 : (a : Association) → a.settings.capacity ≡ 8 → (stratum : ℕ) (local : List ℕ) (bloom : Bloom) →
    accept_of a stratum local bloom ≡ accept_seen a.settings a.state (seen_of 8 a.stash) stratum local bloom
accept_8 a e stratum local bloom = ap (λ (c : ℕ). accept_seen a.settings a.state (seen_of c a.stash) stratum local bloom) e
