use Rattle.record_new.proofs.Carried.{make_is}
use Rattle.record_new.proofs.make.Goals as goal

pub returns : goal.returns
returns c =
    let args = c.args in
    let pre = c.requires in
    let clear = c.clear in
    let fresh = c.fresh in
    let store-head = c.store_head in
    make_is args.settings args.list.now args.b.now pre fresh.result store-head.ensures.2 fresh.ensures _ _ clear.ensures
    store-head.ensures.0 _ c.refill.ensures
