-- `length_at` meets its contract.
-- Assumes nothing.
use mathlib.Core.Path.{ap, ◌∙◌}
use Prim.Native.Nat.{◌+◌, ◌-◌}
use native.Mathlib.Omega.{arith}
use Rattle.words.specs.Bytes.{be}
use Rattle.record_stash.proofs.Blank.{start_part}
use Rattle.record_stash.proofs.length_at.Goals as goal

pub returns : goal.returns
returns c =
    let args = c.args in
    c.be16_at.ensures ∙ ap be (start_part args.b.now (args.at + 724) 2 (args.at + 726 - (args.at + 724)) (omega arith))
