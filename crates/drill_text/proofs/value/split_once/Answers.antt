-- `drill_text::value::split_once` meets its contract: the place that `position` gives is the first separator's.
-- Assumes nothing.
use Rattle.std.proofs.Common.{◌≡◌, ◌∙◌, ◌+◌, sym, ap, rules, arith, position, eqb, take, drop, option_map}
use Rattle.std.proofs.lemmas.Grind.{common_steps}
use Rattle.std.proofs.lemmas.Iterator.{YieldsList-from_slice}
use Rattle.std.proofs.lemmas.Iterator.Search.{position_from_yields_List}
use Rattle.drill_text.proofs.Splits.{split_none, split_found}
use Rattle.drill_text.proofs.value.split_once.Goals as goal

pub returns-in_err-at : goal.returns-in_err-at
returns-in_err-at c =
    let at : c.position.result ≡ position (λ b. eqb b c.args.separator) c.args.text.now =
    position_from_yields_List (λ b. eqb b c.args.separator) _ _ _ c.position.ensures.ran (YieldsList-from_slice c.args.text.now cc)
    (λ x b q k. search rules) in
    ap (option_map (λ p. (p.0.now, p.1.now))) c.from_residual.ensures ∙ split_none c.args.text.now c.args.separator (sym c.in_err-at.was ∙ at)

pub returns : goal.returns
returns c =
    let at : c.position.result ≡ position (λ b. eqb b c.args.separator) c.args.text.now =
    position_from_yields_List (λ b. eqb b c.args.separator) _ _ _ c.position.ensures.ran (YieldsList-from_slice c.args.text.now cc)
    (λ x b q k. search rules) in
    let before : c.in_ok-get.field-0.now ≡ take c.in_ok-at.at c.args.text.now = search rules in
    let after : c.in_ok-get-2.field-0.now ≡ drop (c.in_ok-at.at + 1) c.args.text.now = grind (arith, common_steps) in
    rw (before, after) (sym (split_found c.args.text.now c.args.separator c.in_ok-at.at (sym c.in_ok-at.was ∙ at)))
