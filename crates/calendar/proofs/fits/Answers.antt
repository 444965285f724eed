-- `fits` meets its contract. The invariant: no minute of the entry that was passed is taken.
-- Assumes nothing.
use mathlib.Core.Path.{sym}
use Rattle.calendar.proofs.Passing.{step, is_free, is_taken}
use Rattle.calendar.proofs.fits.Goals as goal

pub returns-then-cap-loads : goal.returns-then-cap-loads
returns-then-cap-loads c =
    sym (is_taken _ _ _ _ c.requires.0 _ c.loop-m.invariant c.if-cap-loads.true c.loop-m-test.true)

pub loop-m-preserved : goal.loop-m-preserved
loop-m-preserved c =
    step _ _ _ _ c.requires.0 _ c.loop-m.invariant c.if-cap-loads.false

pub returns : goal.returns
returns c = sym (is_free _ _ _ _ c.requires.0 _ c.loop-m.invariant c.loop-m-test.false)
