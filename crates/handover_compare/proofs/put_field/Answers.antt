-- `put_field` meets its contract: the entry, where the field differs.
-- Assumes nothing.
use mathlib.Core.Path.{ap}
use native.Mathlib.Omega.{arith}
use lib.ListN.{length}
use Rattle.words.proofs.Put.{laid_put}
use Rattle.handover_compare.proofs.Listed.{entry_long}
use Rattle.handover_compare.proofs.Listing.{none_put, one_put, one_long}
use Rattle.handover_compare.proofs.put_field.Goals as goal

pub returns-then-f : goal.returns-then-f
returns-then-f c = none_put c.args.f c.if-f.true c.args.out.now c.args.at

pub returns : goal.returns
returns c =
    let f = c.args.f in
    let differs = c.if-f.false in
    let e = c.entry.ensures in
    let p = laid_put _ _ _ c.lay.ensures (omega (arith, c.requires, one_long f differs, ap length e, entry_long f)) in
    one_put f differs c.entry.result e p
