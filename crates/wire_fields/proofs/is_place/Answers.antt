-- `wire_fields::is_place` meets its contract: the places of a walk that ends are its end and where its fields start.
-- Assumes nothing.
use Rattle.std.proofs.Common.{sym, ap, ◌∙◌, Bool, eqb, rules}
use Rattle.std.specs.List.{list_any}
use Rattle.std.proofs.lemmas.Iterator.Search.{any_from_yields_List}
use borrow.Author.Tests.{eq-eqb, ne_eqb}
use Rattle.wire_fields.specs.Walk.{packet_walk, is_place}
use Rattle.wire_fields.specs.Fields.{Told}
use Rattle.wire_fields.proofs.Sound.{whole_of_lem, not_whole}
use Rattle.wire_fields.proofs.Left.{gives_all, places}
use Rattle.wire_fields.proofs.is_place.Goals as goal

pub returns-in_default : goal.returns-in_default
unfolding is_place
returns-in_default c = sym (rw (not_whole _ (sym c.packet_walk.ensures ∙ c.in_default.is)))

pub returns-then-last-end : goal.returns-then-last-end
unfolding is_place
returns-then-last-end c =
    let p = c.args.p.now in
    let ended = sym c.packet_walk.ensures ∙ c.in-Some.is in
    rw (whole_of_lem _ _ ended, places p c.args.end _ (packet_walk p) ended, eq-eqb _ _ c.if-last-end.true)

pub returns-else-last-end : goal.returns-else-last-end
unfolding is_place
returns-else-last-end c =
    let p = c.args.p.now in
    let ended = sym c.packet_walk.ensures ∙ c.in-Some.is in
    let test : Told → Bool = λ f. eqb f.at c.args.end in
    rw (whole_of_lem _ _ ended, places p c.args.end _ (packet_walk p) ended, ne_eqb _ _ c.if-last-end.false)
    (any_from_yields_List test _ _ _ c.any.ensures.ran (gives_all c.packet.result) (λ x b q k. search rules) ∙ ap (list_any test) c.packet.ensures.fields)
