-- `drill_text::value::version` meets its contract: a word without tries, or the number behind `upgrading:`.
-- Assumes nothing.
use Rattle.std.proofs.Common.{◌∙◌, sym, None, Some}
use Rattle.drill_text.proofs.Digits.{decimal_number, decimal_is}
use Rattle.drill_text.proofs.Versions.{version_read, upgrading_read}
use Rattle.drill_text.proofs.value.version.Goals as goal

pub returns-in_err-number-in-None : goal.returns-in_err-number-in-None
returns-in_err-number-in-None c =
    let rest = c.in_ok-strip_prefix-in-None.field-0.now in
    let found = c.in_ok-strip_prefix-in-None.ensures.cases in
    let tries = decimal_is 255 rest c.number.result (decimal_number 8 rest c.number.result c.number.ensures) in
    c.from_residual-in_err-number-in-None.ensures
    ∙ version_read c.args.text.now None None c.in-None.ensures (upgrading_read c.args.text.now rest None found.0 found.1 (sym c.in_err-number-in-None.was
    ∙ tries))

pub returns-in_ok-number-in-None : goal.returns-in_ok-number-in-None
returns-in_ok-number-in-None c =
    let rest = c.in_ok-strip_prefix-in-None.field-0.now in
    let found = c.in_ok-strip_prefix-in-None.ensures.cases in
    let n = c.in_ok-number-in-None.field-0 in
    let tries = decimal_is 255 rest c.number.result (decimal_number 8 rest c.number.result c.number.ensures) in
    version_read c.args.text.now None _ c.in-None.ensures (upgrading_read c.args.text.now rest (Some n) found.0 found.1 (sym c.in_ok-number-in-None.was
    ∙ tries))
