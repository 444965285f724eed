-- `drill_text::value::byte` meets its contract: two hexadecimal digits write a number below 256.
-- Assumes nothing.
use Rattle.std.proofs.Common.{◌∙◌, lit≤}
use Rattle.drill_text.proofs.Digits.{narrowed}
use Rattle.drill_text.proofs.value.byte.Goals as goal

pub returns : goal.returns
returns c = c.ok.ensures.value
    ∙ narrowed 2 256 c.in_ok-hexadecimal.field-0 c.args.text.now c.try_from.result c.in_ok-hexadecimal.ensures (lit≤ tt) c.try_from.ensures
