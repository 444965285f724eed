-- A measured reply never lowers the remote minimum.
-- Assumes nothing.
use lib.Dec.{eqb}
use lib.Signed.{◌≤ℤ◌, ≤ℤ_refl}
use Rattle.words.proofs.Tests.{either}
use Rattle.time_types.specs.declared.PollInterval.{PollInterval}
use Rattle.time_types.proofs.Rate.{larger_left}
use Rattle.wire_incoming.specs.declared.Reply.{Reply}
use Rattle.reply_clauses.specs.After.{raised}

-- promise: 11.8
pub raised_keeps : (remote : PollInterval) (r : Reply) → remote.0 ≤ℤ (raised remote r).0
raised_keeps remote r =
    either (λ (p : PollInterval). remote.0 ≤ℤ p.0) (eqb r.version 5) (λ _. larger_left remote.0 r.poll.0) (λ _. ≤ℤ_refl remote.0)
