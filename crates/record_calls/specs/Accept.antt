-- Acceptance for a record in lent bytes: that of what they unpack to. Bytes that are no record: 32.
-- Assumes nothing.
use Rattle.std.specs.Prelude.{cond, List, ℕ, Result, Err}
use Rattle.association_accept.specs.declared.Bloom.{Bloom}
use Rattle.association_accept.specs.declared.AcceptRefusal.{AcceptRefusal}
use Rattle.association_accept.specs.declared.AcceptRefusal.TheVariants.{NotWhole}
use Rattle.association_accept.specs.Accept.{accept_of}
use Rattle.record_bytes.specs.Record.{ok, unpacked}

-- promise: exports.3
unfoldable pub accept_call : List ℕ → ℕ → List ℕ → Bloom → Result (Unit {0}) AcceptRefusal
accept_call b stratum local bloom = cond (ok b) (accept_of (unpacked b) stratum local bloom) (Err NotWhole)
