-- `load` meets its contract: a refusal, 31, or the record that was found in the file.
-- Assumes nothing.
use native.Mathlib.Omega.{arith}
use Rattle.record_files.proofs.Laid.{known_most}
use Rattle.record_files.proofs.LoadTold.{told_0, told_31, told_refused}
use Rattle.record_files.proofs.loads.load.Goals as goal

pub returns-in-Err : goal.returns-in-Err
returns-in-Err c = told_refused c.args.b.now c.args.file.now c.in-Err.refusal c.in-Err.ensures _ c.clear.ensures

pub returns-then-b-from : goal.returns-then-b-from
returns-then-b-from c = told_31 c.args.b.now c.args.file.now _ c.in-Ok.ensures (λ e. omega (arith, e, c.from.ensures))

pub write-requires : goal.write-requires
write-requires c = record { most = (known_most _ _ c.in-Ok.found.known).0; long = omega (arith, c.from.ensures) }

pub returns : goal.returns
returns c = told_0 c.args.b.now c.args.file.now _ c.in-Ok.ensures (omega (arith, c.from.ensures)) _ c.write.ensures
