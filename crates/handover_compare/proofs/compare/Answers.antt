-- `compare` meets its contract: the left file, and then the right one, 71, and the list.
-- Assumes nothing.
use native.Mathlib.Omega.{arith}
use Rattle.std.proofs.lemmas.Result.{err_from_is_err_and}
use Rattle.handover_load.specs.Reading.{contents_of}
use Rattle.handover_load.proofs.Within.{found_is}
use Rattle.handover_compare.specs.declared.Side.TheVariants.{Left, Right}
use Rattle.handover_compare.specs.Made.{made_of}
use Rattle.handover_compare.proofs.Told.{of_body, room_for, short_by, listed_by, ok_read, left_stops, right_stops, both_load}
use Rattle.handover_compare.proofs.compare.Goals as goal

pub returns-in_err-l : goal.returns-in_err-l
returns-in_err-l c =
    let p = err_from_is_err_and c.from_residual.result c.from_residual.ensures.1 in
    rw (p.1, p.2) (left_stops c.args.left.now c.args.right.now c.args.out.now _ c.in_err-l.ensures)

pub returns-in_err-r : goal.returns-in_err-r
returns-in_err-r c =
    let p = err_from_is_err_and c.from_residual-in_err-r.result c.from_residual-in_err-r.ensures.1 in
    let k = ok_read Left c.args.left.now _ c.in_ok-l.ensures in
    rw (p.1, p.2) (right_stops c.args.left.now c.args.right.now c.args.out.now _ k _ c.in_err-r.ensures)

pub returns-then-out-n : goal.returns-then-out-n
returns-then-out-n c =
    let a = c.args in
    let l = contents_of c.in_ok-l.l in
    let r = contents_of c.in_ok-r.r in
    let kl = ok_read Left a.left.now l c.in_ok-l.ensures in
    let kr = ok_read Right a.right.now r c.in_ok-r.ensures in
    let fl = found_is a.left.now l kl in
    let fr = found_is a.right.now r kr in
    let m = of_body l.settings l.state l.stash (fl.bytes (λ i. omega (arith, c.type_inv.left i))) fl.fits fl.known in
    let n = of_body r.settings r.state r.stash (fr.bytes (λ i. omega (arith, c.type_inv.right i))) fr.fits fr.known in
    both_load a.left.now a.right.now a.out.now l kl r kr (made_of l.settings l.state l.stash) (made_of r.settings r.state r.stash)
    fl.association fr.association _ _
    (short_by m n a.out.now c.fields-g.result c.fields-g.ensures c.entries-n.result c.entries-n.ensures.0 (omega arith))

pub put_list-requires : goal.put_list-requires
put_list-requires c =
    let a = c.args in
    let l = contents_of c.in_ok-l.l in
    let r = contents_of c.in_ok-r.r in
    let kl = ok_read Left a.left.now l c.in_ok-l.ensures in
    let kr = ok_read Right a.right.now r c.in_ok-r.ensures in
    let fl = found_is a.left.now l kl in
    let fr = found_is a.right.now r kr in
    let m = of_body l.settings l.state l.stash (fl.bytes (λ i. omega (arith, c.type_inv.left i))) fl.fits fl.known in
    let n = of_body r.settings r.state r.stash (fr.bytes (λ i. omega (arith, c.type_inv.right i))) fr.fits fr.known in
    room_for m n a.out.now c.fields-g.result c.fields-g.ensures c.entries-n.result c.entries-n.ensures.0 (omega arith)

pub returns : goal.returns
returns c =
    let a = c.args in
    let l = contents_of c.in_ok-l.l in
    let r = contents_of c.in_ok-r.r in
    let kl = ok_read Left a.left.now l c.in_ok-l.ensures in
    let kr = ok_read Right a.right.now r c.in_ok-r.ensures in
    let fl = found_is a.left.now l kl in
    let fr = found_is a.right.now r kr in
    let m = of_body l.settings l.state l.stash (fl.bytes (λ i. omega (arith, c.type_inv.left i))) fl.fits fl.known in
    let n = of_body r.settings r.state r.stash (fr.bytes (λ i. omega (arith, c.type_inv.right i))) fr.fits fr.known in
    both_load a.left.now a.right.now a.out.now l kl r kr (made_of l.settings l.state l.stash) (made_of r.settings r.state r.stash)
    fl.association fr.association _ _
    (listed_by m n a.out.now c.fields-g.result c.fields-g.ensures c.entries-n.result c.entries-n.ensures.0 (omega arith) _ _ c.put_list.ensures)
