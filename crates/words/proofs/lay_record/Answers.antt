-- `words::lay_record` meets its contract: the tests say whether head and body fit, and then one is put behind the other.
-- Assumes nothing.
use Prim.Native.Nat.{ℕ, ◌+◌, ◌-◌, ◌≤◌, ◌<◌, ◌/◌, ◌%◌}
use mathlib.Core.Path.{◌≡◌, sym, ◌∙◌, ap}
use mathlib.Core.List.{[], ◌∷◌}
use native.Mathlib.Omega.{arith}
use borrow.Author.Tests.{leb-true, leb-false}
use lib.ListN.{length}
use Rattle.words.specs.Bytes.{to_be}
use Rattle.words.specs.Put.{record_of}
use Rattle.words.proofs.Put.{lays, laid_put, record_long, record_lays_not, record_put}
use Rattle.words.proofs.lay_record.Goals as goal
use Rattle.words.proofs.lay_record.Goals.{Else-not-fits, then-out-n-via-then-out-n, then-out-n-via-else-out-n+then-not-fits}

-- past the tests there is room for both
room : (c : Else-not-fits) →
    let a = c.args in
    a.at + (4 + length a.body.now) ≤ length a.out.now
room c =
    let a = c.args in
    omega (
      arith,
      c.if-out-n.false,
      leb-true (a.at + 4) (length a.out.now - length a.body.now)
          (sym c.fits.ensures ∙ c.if-not-fits.false),
    )

-- the length's two bytes do not show what is above them
two_bytes : (n : ℕ) → to_be 2 (n % 65536) ≡ to_be 2 n
two_bytes n =
    let high : n % 65536 / 256 % 256 ≡ n / 256 % 256 = omega arith in
    let low : n % 65536 / 1 % 256 ≡ n / 1 % 256 = omega arith in
    λ i. high i ∷ low i ∷ []

pub returns-then-out-n : goal.returns-then-out-n
returns-then-out-n c =
    let a = c.args in
    let too_long : length a.out.now < a.at + (4 + length a.body.now) =
    elim c.then-out-n.branch [
      | then-out-n-via-then-out-n w ↦ omega (arith, w.if-out-n.true)
      | then-out-n-via-else-out-n+then-not-fits w ↦
          omega (
            arith,
            w.if-out-n.false,
            leb-false (a.at + 4) (length a.out.now - length a.body.now)
                (sym w.fits.ensures ∙ w.if-not-fits.true),
          )
    ] in
    record_lays_not a.out.now a.at a.mark a.body.now too_long

pub returns : goal.returns
returns c =
    let a = c.args in
    let r = room (goal.at.returns c).Else-not-fits in
    let long = ap length c.be16_pair.ensures in
    let head = laid_put _ _ _ c.lay-to.ensures (omega (arith, long)) in
    let body = laid_put _ _ _ c.lay.ensures (omega (arith, long, head.ends, c.lay-to.auto.out)) in
    lays a.out.now a.at (record_of a.mark a.body.now) (omega (arith, record_long a.mark a.body.now))
    (record_put a.mark _ a.body.now c.be16_pair.ensures (two_bytes (length a.body.now)) head body (omega arith))
