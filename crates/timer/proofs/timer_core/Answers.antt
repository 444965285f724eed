-- `timer_core` meets its contract: what is seen of the stash, what is decided of it, and what is done.
-- Assumes nothing.
use Rattle.timer.proofs.Core.{told}
use Rattle.timer.proofs.timer_core.Goals as goal

pub returns : goal.returns
returns c =
    let a = c.args in
    told a.a a.input a.buffer.now c.seen-seen.result c.decide-decision.result c.decided.result c.decided.new.buffer
    c.seen-seen.ensures c.decide-decision.ensures c.decided.ensures.0 c.decided.ensures.1
