-- `drill_text::value::up_to` meets its contract: of a decimal number the filter leaves one up to the limit.
-- Assumes nothing.
use Rattle.std.proofs.Common.{rules, arith}
use Rattle.drill_text.proofs.Digits.{decimal_number, decimal_filtered}
use Rattle.drill_text.proofs.value.up_to.Goals as goal

pub returns : goal.returns
returns c =
    let number = decimal_number 64 c.args.text.now c.number.result c.number.ensures in
    decimal_filtered c.args.most 64 c.args.text.now c.number.result c.filter.result _ (λ n h. search rules) (omega arith) number c.filter.ensures
