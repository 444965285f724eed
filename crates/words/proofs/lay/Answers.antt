-- `words::lay` meets its contract: the test says whether the bytes fit, and the copy puts them where they do.
-- Assumes nothing.
use Prim.Native.Nat.{◌+◌}
use mathlib.Core.Path.{sym, ◌∙◌}
use native.Mathlib.Omega.{arith}
use borrow.Author.Tests.{leb-true}
use lib.ListN.{length}
use Rattle.words.proofs.Put.{put_is, lays, lays_not}
use Rattle.words.proofs.lay.Goals as goal

pub returns-then-not-fits : goal.returns-then-not-fits
returns-then-not-fits c =
    let a = c.args in
    lays_not a.out.now a.at a.piece.now (sym c.fits.ensures ∙ c.if-not-fits.true)

pub returns : goal.returns
returns c =
    let a = c.args in
    let room = leb-true (a.at + length a.piece.now) (length a.out.now) (sym c.fits.ensures ∙ c.if-not-fits.false) in
    lays a.out.now a.at a.piece.now room
    (record { ends = omega arith; leaves = put_is a.out.now a.piece.now _ a.at c.copy_from_slice.ensures.after })
