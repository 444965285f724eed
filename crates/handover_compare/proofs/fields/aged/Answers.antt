-- `aged` meets its contract: the cookie of this age, or none.
-- Assumes nothing.
use mathlib.Core.Path.{◌≡◌, refl, sym, ap, ◌∙◌}
use Rattle.std.specs.List.{slice_get}
use Rattle.std.specs.Option.{option_map}
use Rattle.std.proofs.lemmas.Iterator.Consumers.{nth_from_yields_List}
use Rattle.cookiestash.specs.Stash.{stored}
use Rattle.handover_file.specs.Given.{given_in, cookie_of}
use Rattle.handover_file.proofs.Given.{gives_all, given_sized}
use Rattle.handover_compare.proofs.Ages.{aged_found, aged_none}
use Rattle.handover_compare.proofs.fields.aged.Goals as goal
use Rattle.handover_compare.proofs.fields.aged.Goals.{After-nth}

at_age : (k : After-nth) → slice_get (given_in k.args.body.now) k.args.age ≡ option_map cookie_of k.nth.result
at_age k =
    (λ i. slice_get (sym k.new.ensures i) (sym k.from.ensures i))
    ∙ sym (nth_from_yields_List k.nth.result _ k.from.result k.nth.ensures.ran (gives_all k.new.result))

pub returns-in-Some-clause-is : goal.returns-in-Some-clause-is
returns-in-Some-clause-is c =
    let at = at_age (goal.at.returns-in-Some-clause-is c).After-nth ∙ ap (option_map cookie_of) c.in-Some.is in
    (λ i. record { number = c.from-in-Some.ensures i; bytes = c.in-Some.cookie.bytes.now })
    ∙ aged_found c.args.body.now c.args.age (cookie_of c.in-Some.cookie) at

pub returns-in-Some-clause-sized : goal.returns-in-Some-clause-sized
returns-in-Some-clause-sized c =
    let at = at_age (goal.at.returns-in-Some-clause-sized c).After-nth ∙ ap (option_map cookie_of) c.in-Some.is in
    given_sized c.args.body.now c.args.age (cookie_of c.in-Some.cookie) at ∙ ap stored (sym c.from-in-Some.ensures)

pub returns-in-None-clause-is : goal.returns-in-None-clause-is
returns-in-None-clause-is c =
    aged_none c.args.body.now c.args.age (at_age (goal.at.returns-in-None-clause-is c).After-nth ∙ ap (option_map cookie_of) c.in-None.is)

pub returns-in-None-clause-sized : goal.returns-in-None-clause-sized
unfolding stored
returns-in-None-clause-sized c = refl
