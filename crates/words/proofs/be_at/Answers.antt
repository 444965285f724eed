-- `words::be_at` meets its contract: there are at most as many bytes as are asked for, and each adds one to the number.
-- Assumes nothing.
use Rattle.std.proofs.Common.{arith, refl, ap, ◌∙◌, ℕ, ◌<◌, ◌≤◌, ◌≡◌, min, List, length, take, get_or, length-take}
use lib.Dec.{lit<}
use Rattle.words.specs.Bytes.{be, part}
use Rattle.words.proofs.Bytes.{bytes_part, gathered_next, gathered_all, gathered_fits, part_taken}
use Rattle.words.proofs.be_at.Goals as goal
use Rattle.words.proofs.be_at.Goals.{In-loop-b, After-from}

within : (n m k i : ℕ) (l : List ℕ) → k ≡ min n m → i ≤ length (take k l) → i ≤ n
within n m k i l e h = omega (arith, length-take k l)

byte : (c : After-from) → c.from.result < 256
byte c =
    let a = c.args in
    let i = c.loop-b.b-index in
    omega (
      arith,
      c.from.ensures,
      ap (λ (l : List ℕ). get_or l i 0) c.loop-b.invariant.there,
      bytes_part a.p.now a.at a.n (λ (j : ℕ). (c.type_inv.p j).fits) i,
    )

pub loop-b-init : goal.loop-b-init
unfolding be part
loop-b-init c = record { there = part_taken _ _ _ _ _ c.min.ensures c.min-2.ensures; gathered = (refl, lit< tt) }

pub overflow_mul-x : goal.overflow_mul-x
overflow_mul-x c =
    let l = c.loop-b in
    let more : l.b-index < c.args.n = within _ _ _ _ _ c.min-2.ensures c.loop-b-test.true in
    record { fits = (gathered_fits _ l.b-index l.x l.invariant.gathered 8 (omega arith)).0 }

pub overflow_add-x : goal.overflow_add-x
overflow_add-x c =
    let l = c.loop-b in
    let more : l.b-index < c.args.n = within _ _ _ _ _ c.min-2.ensures c.loop-b-test.true in
    record { fits = (gathered_fits _ l.b-index l.x l.invariant.gathered 8 (omega arith)).1 c.from.result (byte c) }

pub loop-b-preserved : goal.loop-b-preserved
loop-b-preserved c =
    let l = c.loop-b in
    record {
      there = l.invariant.there;
      gathered = gathered_next _ l.b-index l.x l.invariant.gathered c.from.result c.loop-b-test.true c.from.ensures (byte c);
    }

pub returns : goal.returns
returns c =
    let l = c.loop-b in
    let most = within _ _ _ _ _ c.min-2.ensures l.auto.b-index-end in
    let all = gathered_all _ l.b-index l.x l.invariant.gathered c.args.n c.loop-b-test.false most in
    (all.0 ∙ ap be l.invariant.there, all.1)
