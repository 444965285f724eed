-- `drill_text::value::identifier` meets its contract: eight hexadecimal digits write a number of 32 bits.
-- Assumes nothing.
use Rattle.std.proofs.Common.{◌∙◌, lit≤}
use Rattle.drill_text.proofs.Digits.{narrowed}
use Rattle.drill_text.proofs.value.identifier.Goals as goal

pub returns : goal.returns
returns c = c.ok.ensures.value
    ∙ narrowed 8 4294967296 c.in_ok-hexadecimal.field-0 c.args.text.now c.try_from.result c.in_ok-hexadecimal.ensures (lit≤ tt) c.try_from.ensures
