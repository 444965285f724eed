use native.Mathlib.Omega.{arith}
use mathlib.Core.Path.{◌≡◌, sym, ap, ◌∙◌}
use Prim.Native.Nat.{◌-◌}
use mathlib.Core.Bool.{true}
use lib.ListN.{length, get_or, drop, length-drop}
use lib.Seq.{take_all}
use Rattle.words.specs.Bytes.{zeros}
use Rattle.cookiestash.specs.Whole.{all_padded, seen_from}
use Rattle.record_stash.specs.Rows.{slots_in, lens_in}
use Rattle.record_stash.proofs.Rows.{seen_in_lem}
use Rattle.record_stash.proofs.With.{sized_of, seen_is}
use Rattle.record_stash.proofs.Zeros.{empty_padded, empty_lens}
use Rattle.record_stash.proofs.see.Goals as goal

pub returns-then-zero_rows : goal.returns-then-zero_rows
returns-then-zero_rows c =
    let args = c.args in
    let sized = c.sized in
    let if1 = c.if-not-sized in
    let b = args.b.now in
    let cap = args.capacity in
    let e = sym sized.ensures ∙ if1.false in
    let s = sized_of b cap e in
    let z : zeros (drop 92 b) ≡ true = ap zeros (sym (take_all (length b - 92) (drop 92 b) (omega (arith, length-drop 92 b))))
    ∙ sym c.zero_rows.ensures ∙ c.if-zero_rows.true in
    let none : get_or b 28 0 ≡ 0 = sym c.from-held.ensures ∙ c.if-held-eq0.true in
    c.seen_empty.ensures
    ∙ (λ i. seen_from cap (c.from-read.ensures i) (sym none i) (sym (empty_padded b cap s z) i) (sym (empty_lens b cap s z) i))
    ∙ seen_in_lem b cap
    ∙ sym (seen_is cap b e)

pub returns : goal.returns
returns c =
    let args = c.args in
    let sized = c.sized in
    let if1 = c.if-not-sized in
    let rows = c.read_rows-padded.ensures in
    let b = args.b.now in
    c.seen_from.ensures
    ∙ (λ i. seen_from args.capacity (c.from-read.ensures i) (c.from-held.ensures i) (rows.padded i) (rows.lens i))
    ∙ ap (λ k. seen_from args.capacity (get_or b 27 0) (get_or b 28 0) (all_padded (slots_in b 92 k)) (lens_in b k)) c.from.ensures
    ∙ seen_in_lem b args.capacity
    ∙ sym (seen_is args.capacity b (sym sized.ensures ∙ if1.false))
