-- `cookie_field` meets its contract.
-- Assumes nothing.
use mathlib.Core.Path.{sym, ◌∙◌}
use native.Mathlib.Omega.{arith}
use borrow.Author.Tests.{eq-eqb, ne_eqb}
use Rattle.words.proofs.Tests.{passes, fails}
use Rattle.handover_compare.proofs.Ages.{place_within, cookie_field_by}
use Rattle.handover_compare.proofs.fields.cookie_field.Goals as goal

pub overflow_cast-result : goal.overflow_cast-result
overflow_cast-result c =
    record { fits = omega (arith, place_within c.aged-a.result c.aged-b.result c.aged-a.ensures.sized c.place_of-place.result c.place_of-place.ensures) }

pub returns-then-a-b : goal.returns-then-a-b
returns-then-a-b c =
    let a = c.aged-a in
    let b = c.aged-b in
    cookie_field_by c.args.l.now c.args.r.now c.args.age a.result b.result a.ensures.sized b.ensures.sized a.ensures.is b.ensures.is _ _
    c.place_of-place.ensures (sym (passes _ (eq-eqb _ _ c.if-a-b.true)))

pub returns-else-a-b : goal.returns-else-a-b
returns-else-a-b c =
    let a = c.aged-a in
    let b = c.aged-b in
    let e = ne_eqb _ _ c.if-a-b.false in
    cookie_field_by c.args.l.now c.args.r.now c.args.age a.result b.result a.ensures.sized b.ensures.sized a.ensures.is b.ensures.is _ _
    c.place_of-place.ensures (e ∙ sym (fails _ e))
