-- `put_cookie` meets its contract: the length, then the stored bytes.
-- Assumes nothing.
use native.Mathlib.Omega.{arith}
use Rattle.words.proofs.Put.{laid_put}
use Rattle.handover_file.specs.Given.{cookie_of}
use Rattle.handover_save.proofs.Writing.{cookie_put, cookie_size}
use Rattle.handover_save.proofs.put_cookie.Goals as goal

pub returns : goal.returns
returns c =
    let k = cookie_of c.args.cookie in
    let l = cookie_size k in
    let first = laid_put _ _ _ c.lay-to.ensures (omega (arith, l, c.requires)) in
    let then = laid_put _ _ _ c.lay.ensures (omega (arith, l, first.ends, c.lay-to.auto.out, c.requires)) in
    cookie_put k c.be16_bytes.ensures first then (omega (arith, l, c.requires))
