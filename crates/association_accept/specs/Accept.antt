-- RULES, part 12: acceptance, in order 32, 40, 41, 42, 0.
-- Assumes nothing.
use Rattle.std.specs.Prelude.{Bool, true, false, not, ◌&&◌, ◌||◌, cond, List, [], ◌∷◌, ℕ, leb, eqb, Result, Ok, Err}
use Rattle.reach.specs.Register.{reachable_of}
use Rattle.cookiestash.specs.declared.Seen.{Seen}
use Rattle.cookiestash.specs.Whole.{seen_of}
use Rattle.association.specs.declared.Settings.{Settings}
use Rattle.association.specs.declared.State.{State}
use Rattle.association.specs.declared.Association.{Association}
use Rattle.association.specs.Record.{whole_seen}
use Rattle.association_accept.specs.declared.Bloom.{Bloom}
use Rattle.association_accept.specs.declared.Bloom.TheVariants.{NoFilter, Absent, Present}
use Rattle.association_accept.specs.declared.AcceptRefusal.{AcceptRefusal}
use Rattle.association_accept.specs.declared.AcceptRefusal.TheVariants.{Stratum, Loop, Unreachable, NotWhole}

-- 0 accepted; 40 stratum; 41 loop; 42 unreachable; 32 record not whole
abbrev pub number_of : Result (Unit {0}) AcceptRefusal → ℕ
number_of (Ok accepted) = 0
number_of (Err Stratum) = 40
number_of (Err Loop) = 41
number_of (Err Unreachable) = 42
number_of (Err NotWhole) = 32

-- an identifier is in a list
abbrev pub among : ℕ → List ℕ → Bool
among id [] = false
among id (x ∷ xs) = eqb x id || among id xs

-- promise: 12.2
abbrev pub is_present : Bloom → Bool
is_present NoFilter = false
is_present Absent = false
is_present Present = true

-- stratum ≠ 1 and the source's own identifier is among the local ones
-- promise 12.2: Number 41, as amended by No. 2: stratum ≠ 1 and the source's own identifier is among ours; or stratum ≥ 2 and the identifier that it reports
--     is; or the Bloom filter says present.
--     edit: association_accept/the_own_identifier_is_compared_no_more, association_accept/the_reported_identifier_is_not_compared,
--       association_accept/a_bloom_filter_is_not_believed
abbrev pub is_ours : ℕ → ℕ → List ℕ → Bool
is_ours stratum id local = not (eqb stratum 1) && among id local

-- stratum ≥ 2 and the reference identifier that the source reports is among the local ones (No. 2)
-- promise no2.1: The answer differs from the crate's rule only where the new test hits, and then it is 41.
--     edit: association_accept/the_own_identifier_is_compared_no_more
-- promise: 12.2
abbrev pub served_by_us : ℕ → ℕ → List ℕ → Bool
served_by_us stratum refid local = leb 2 stratum && among refid local

-- the loop test: either of the two hits, or Bloom says present
-- promise: 12.2
abbrev pub loops : ℕ → ℕ → ℕ → List ℕ → Bloom → Bool
loops stratum id refid local bloom = (is_ours stratum id local || served_by_us stratum refid local) || is_present bloom

-- 40 if stratum ≥ local stratum; 41 for a loop; 42 if reach is 0
-- promise 12.1: The order of acceptance is 32, 40, 41, 42, 0. Each number is given exactly under its rule.
--     edit: association_accept/unreachable_is_accepted
abbrev pub accept_by : Bool → Settings → State → Seen → ℕ → Result (Unit {0}) AcceptRefusal
accept_by loop g s v stratum =
    cond (whole_seen g v s)
    (cond (leb stratum s.source.stratum) (Err Stratum)
    (cond loop (Err Loop)
    (cond (reachable_of s.effort.reach) (Ok tt) (Err Unreachable))))
    (Err NotWhole)

unfoldable pub accept_seen : Settings → State → Seen → ℕ → List ℕ → Bloom → Result (Unit {0}) AcceptRefusal
accept_seen g s v stratum local bloom = accept_by (loops s.source.stratum g.source.0 s.source.refid.0 local bloom) g s v stratum

-- promise: 12.1, no2.1
abbrev pub accept_of : Association → ℕ → List ℕ → Bloom → Result (Unit {0}) AcceptRefusal
accept_of a stratum local bloom = accept_seen a.settings a.state (seen_of a.settings.capacity a.stash) stratum local bloom

-- the crate's rule, which does not look at what the source reports; only theorems cite it (docs/DIFFERENCES.md)
abbrev pub crate_loops : ℕ → ℕ → List ℕ → Bloom → Bool
crate_loops stratum id local bloom = is_ours stratum id local || is_present bloom

-- promise no2.4: By the crate's rule two connectors that serve each other accept each other, if nothing else prevents it.
-- promise: no2.1
unfoldable pub crate_accept_of : Association → ℕ → List ℕ → Bloom → Result (Unit {0}) AcceptRefusal
crate_accept_of a stratum local bloom =
    accept_by (crate_loops a.state.source.stratum a.settings.source.0 local bloom) a.settings a.state
    (seen_of a.settings.capacity a.stash) stratum
