-- `save` meets its contract: what is written says whether the record keeps its cookies.
-- Assumes nothing.
use borrow.Author.Rules.{rules}
use Rattle.std.proofs.lemmas.Result.{err_from_is_err_and}
use Rattle.record_stash.proofs.With.{of_sized}
use Rattle.record_files.proofs.SaveTold.{sized_is, refused, unsaved, told}
use Rattle.record_files.proofs.saves.save.Goals as goal

pub returns-in_default : goal.returns-in_default
returns-in_default c = refused c.args.b.now c.args.out.now c.in_default.ensures

pub invariant_of-write : goal.invariant_of-write
invariant_of-write c = record { sized = of_sized _ _ (sized_is c.args.b.now c.in-Some.opened c.in-Some.ensures) }

pub returns-in_err-n : goal.returns-in_err-n
returns-in_err-n c =
    let e = c.in_err-n.ensures in
    let p = err_from_is_err_and c.from_residual.result c.from_residual.ensures.1 in
    rw (p.1, p.2) (unsaved c.args.b.now c.in-Some.opened c.in-Some.ensures (search rules) c.args.out.now _ e.leaves _ e.answers)

pub empty-requires : goal.empty-requires
empty-requires c = sized_is c.args.b.now c.in-Some.opened c.in-Some.ensures

pub returns : goal.returns
returns c =
    let e = c.in_ok-n.ensures in
    told c.args.b.now c.in-Some.opened c.in-Some.ensures (search rules) c.args.out.now _ e.leaves _ e.answers c.empty.new.b (search rules) c.empty.ensures
