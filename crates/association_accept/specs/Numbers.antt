-- RULES, "The numbers": when acceptance returns each number, and with which answer, in the order of the tests. The record does not change.
-- Assumes nothing.
use Rattle.std.specs.Prelude.{◌≡◌, true, false, List, ℕ, leb, Result, Ok, Err}
use Rattle.reach.specs.Register.{reachable_of}
use Rattle.association.specs.declared.Association.{Association}
use Rattle.association.specs.Record.{whole_of}
use Rattle.association_accept.specs.declared.Bloom.{Bloom}
use Rattle.association_accept.specs.declared.AcceptRefusal.{AcceptRefusal}
use Rattle.association_accept.specs.declared.AcceptRefusal.TheVariants.{Stratum, Loop, Unreachable, NotWhole}
use Rattle.association_accept.specs.Accept.{is_present, is_ours, served_by_us, loops}

module _ (a : Association) (stratum : ℕ) (local : List ℕ) (bloom : Bloom) where
  -- ---- the tests that a source has passed, each with those before it

  -- neither 32 nor 40
  pub record Below : Type 0 where
    pub whole : whole_of a ≡ true
    pub below : leb stratum a.state.source.stratum ≡ false

  -- nor 41
  pub record Unlooped : Type 0 where
    pub below : Below
    pub free : loops a.state.source.stratum a.settings.source.0 a.state.source.refid.0 local bloom ≡ false

  -- ---- the numbers, each with its answer
  -- promise: 12.1, 12.2
  pub data Given : ℕ → Result (Unit {0}) AcceptRefusal → Type 0 where
    not_whole : whole_of a ≡ false → Given 32 (Err NotWhole)
    too_high : whole_of a ≡ true → leb stratum a.state.source.stratum ≡ true → Given 40 (Err Stratum)
    -- promise: 12.2
    ours : Below → is_ours a.state.source.stratum a.settings.source.0 local ≡ true → Given 41 (Err Loop)
    -- promise: 12.2
    served_by_us_lem : Below → served_by_us a.state.source.stratum a.state.source.refid.0 local ≡ true → Given 41 (Err Loop)
    -- promise: 12.2
    in_the_filter : Below → is_present bloom ≡ true → Given 41 (Err Loop)
    unreached : Unlooped → reachable_of a.state.effort.reach ≡ false → Given 42 (Err Unreachable)
    accepted : Unlooped → reachable_of a.state.effort.reach ≡ true → Given 0 (Ok tt)
