-- `read_rows` meets its contract. Assumes nothing.
use Prim.Native.Nat.{◌-◌, ◌+◌, ◌*◌}
use mathlib.Core.Path.{◌≡◌, refl, sym, ap, ◌∙◌}
use mathlib.Core.Bool.{◌&&◌}
use native.Mathlib.Omega.{arith}
use Rattle.cookiestash.specs.Whole.{all_padded}
use Rattle.record_stash.specs.Rows.{slots_in}
use Rattle.cookiestash.proofs.Front.{front_none}
use Rattle.record_stash.proofs.Rows.{lens_more, lens_all, padded_start, padded_more, padded_end}
use Rattle.record_stash.proofs.read_rows.Goals as goal

pub loop-i-init : goal.loop-i-init
loop-i-init c = record { read = front_none 8 _; tested = padded_start c.args.b.now c.args.cap }

pub loop-i-preserved : goal.loop-i-preserved
loop-i-preserved c =
    let a = c.args in
    let o = c.loop-i in
    let b = a.b.now in
    let at = 92 + o.i * 726 in
    let next : at + 726 ≡ 92 + (o.i + 1) * 726 = omega arith in
    record {
      read = rw o.invariant.read (lens_more b a.cap o.i at _ (omega arith) c.requires.most refl c.length_at-len.ensures);
      tested = o.invariant.tested ∙ padded_more b at a.cap o.i o.padded _ (omega arith) c.padded_at-padded.ensures
          ∙ ap (λ k. (o.padded && c.padded_at-padded.result) && all_padded (slots_in b k (a.cap - (o.i + 1)))) next;
    }

pub returns-clause-padded : goal.returns-clause-padded
returns-clause-padded c = let o = c.loop-i in sym (o.invariant.tested ∙ padded_end c.args.b.now (92 + o.i * 726) c.args.cap o.i o.padded (omega arith))

pub returns-clause-lens : goal.returns-clause-lens
returns-clause-lens c = c.loop-i.invariant.read ∙ lens_all c.args.b.now c.args.cap c.loop-i.i (omega arith)
