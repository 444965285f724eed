-- `write` meets its contract: 32, then 60, then the file.
-- Assumes nothing.
use mathlib.Core.Path.{◌≡◌, refl, sym, ap, ◌∙◌}
use native.Mathlib.Omega.{arith}
use Rattle.association.specs.Record.{whole_of}
use Rattle.association.proofs.Whole.{whole_of_lem}
use Rattle.handover_file.specs.Answers.{Handed}
use Rattle.handover_file.proofs.Cookies as C
use Rattle.handover_save.proofs.Saved.{whole_is, not_whole_by, short_by, saved_by_lem}
use Rattle.handover_save.proofs.write.Goals as goal
use Rattle.handover_save.proofs.write.Goals.{After-whole_seen}

-- what the test says
tested : (g : _) (k : After-whole_seen g) → k.whole_seen.result ≡ whole_of (g.S.Savable.association k.args.a.now)
tested g k = whole_is _ k.whole_seen.ensures k.settings.ensures k.seen.ensures.tells k.state.ensures

pub returns-then-not-whole_seen-clause-answers : goal.returns-then-not-whole_seen-clause-answers
returns-then-not-whole_seen-clause-answers g c =
    let e = tested g (goal.at.returns-then-not-whole_seen-clause-answers g c).After-whole_seen in
    ap (λ (h : Handed). h.gives.answer) (not_whole_by _ c.args.buffer.now (sym e ∙ c.if-not-whole_seen.true))

pub returns-then-not-whole_seen-clause-leaves : goal.returns-then-not-whole_seen-clause-leaves
returns-then-not-whole_seen-clause-leaves g c =
    let e = tested g (goal.at.returns-then-not-whole_seen-clause-leaves g c).After-whole_seen in
    ap (λ (h : Handed). h.left) (not_whole_by _ c.args.buffer.now (sym e ∙ c.if-not-whole_seen.true))

pub invariant_of-whole : goal.invariant_of-whole
invariant_of-whole g c =
    let e = tested g (goal.at.invariant_of-whole g c).After-whole_seen in
    record { whole = (whole_of_lem _ c.seen.ensures.typed (sym e ∙ c.if-not-whole_seen.false)).stash }

pub overflow_add-len : goal.overflow_add-len
overflow_add-len g c =
    let a = g.S.Savable.association c.args.a.now in
    let t = c.seen.ensures.typed in
    let e = tested g (goal.at.overflow_add-len g c).After-whole_seen in
    let w = (whole_of_lem a t (sym e ∙ c.if-not-whole_seen.false)).stash in
    omega (arith, c.stash_length-n.ensures, C.stash_long a.settings.capacity a.stash w t.eight)

pub returns-then-buffer-len-clause-answers : goal.returns-then-buffer-len-clause-answers
returns-then-buffer-len-clause-answers g c =
    let e = tested g (goal.at.returns-then-buffer-len-clause-answers g c).After-whole_seen in
    ap (λ (h : Handed). h.gives.answer)
    (short_by _ c.args.buffer.now (sym e ∙ c.if-not-whole_seen.false) _ c.stash_length-n.ensures (omega arith))

pub returns-then-buffer-len-clause-leaves : goal.returns-then-buffer-len-clause-leaves
returns-then-buffer-len-clause-leaves g c =
    let e = tested g (goal.at.returns-then-buffer-len-clause-leaves g c).After-whole_seen in
    ap (λ (h : Handed). h.left)
    (short_by _ c.args.buffer.now (sym e ∙ c.if-not-whole_seen.false) _ c.stash_length-n.ensures (omega arith))

pub put_file-requires : goal.put_file-requires
put_file-requires g c =
    let a = g.S.Savable.association c.args.a.now in
    let t = c.seen.ensures.typed in
    let e = tested g (goal.at.put_file-requires g c).After-whole_seen in
    let w = (whole_of_lem a t (sym e ∙ c.if-not-whole_seen.false)).stash in (
      c.stash_length-n.ensures,
      omega (arith, c.stash_length-n.ensures, C.stash_long a.settings.capacity a.stash w t.eight),
      omega arith,
    )

pub returns-clause-answers : goal.returns-clause-answers
returns-clause-answers g c =
    let e = tested g (goal.at.returns-clause-answers g c).After-whole_seen in
    ap (λ (h : Handed). h.gives.answer)
    (saved_by_lem _ c.args.buffer.now (sym e ∙ c.if-not-whole_seen.false) _ c.stash_length-n.ensures (omega arith) _ _ c.put_file.ensures _ refl)

pub returns-clause-leaves : goal.returns-clause-leaves
returns-clause-leaves g c =
    let e = tested g (goal.at.returns-clause-leaves g c).After-whole_seen in
    ap (λ (h : Handed). h.left)
    (saved_by_lem _ c.args.buffer.now (sym e ∙ c.if-not-whole_seen.false) _ c.stash_length-n.ensures (omega arith) _ _ c.put_file.ensures _ refl)
