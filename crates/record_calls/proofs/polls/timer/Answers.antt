-- `timer` meets its contract: what is found in the bytes, or none.
-- Assumes nothing.
use Rattle.record_calls.proofs.PollTold.{refused, told}
use borrow.Author.Rules.{rules}
use Rattle.record_calls.proofs.polls.timer.Goals as goal

pub returns-in_default : goal.returns-in_default
returns-in_default c = refused c.args.b.now c.args.input c.args.buffer.now c.in_default.ensures

pub returns : goal.returns
returns c =
    let args = c.args in
    let decide = c.decide-decision in
    let store-state = c.store_state in
    told args.b.now args.input args.buffer.now (search rules) c.in-Some.found c.in-Some.ensures
    decide.result store-state.ensures.1 _ store-state.ensures.0 c.see-seen.result c.see-seen.ensures decide.ensures _ _ c.take.ensures
