use lib.ListN.{get_or}
use mathlib.Core.Path.{sym}
use Rattle.cookiestash.proofs.Range.{within}
use Rattle.record_stash.proofs.Stores.{none_falls, one_falls}
use Rattle.record_stash.proofs.falls.Goals as goal

pub returns-then-held-cap : goal.returns-then-held-cap
returns-then-held-cap c =
    let args = c.args in
    sym (none_falls args.cap args.b.now (rw c.from-held.ensures at c.if-held-cap.true))

pub returns : goal.returns
returns c =
    let args = c.args in
    let pre = c.requires in
    let w = within args.cap (get_or args.b.now 27 0) (get_or args.b.now 28 0) pre.1 in
    one_falls args.cap args.b.now pre.0 (rw c.from-held.ensures at c.if-held-cap.false) w.1 _ (rw c.from-read.ensures at c.be16_at.ensures)
