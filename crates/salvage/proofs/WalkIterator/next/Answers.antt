-- `Walk::next` meets its contract: a record that is kept ends past its start and within the list. Assumes nothing.
use Rattle.std.proofs.Common.{rules}
use mathlib.Core.Path.{sym, ◌∙◌}
use Rattle.salvage.proofs.Walks.{is_kept}
use Rattle.salvage.proofs.WalkIterator.next.Goals as goal

pub returns-in-Some-clause-goes : goal.returns-in-Some-clause-goes
returns-in-Some-clause-goes c =
    let it = c.args.self.now in
    let kept = is_kept it.list.now it.at c.in-Some.end (sym c.record_at.ensures ∙ c.in-Some.is) in
    let headed = kept.headed in
    let within = kept.within in
    search rules
