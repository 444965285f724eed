-- `drill_text::value::hexadecimal` meets its contract: hexadecimal digits are text, and std's parser reads them.
-- Assumes nothing.
use Rattle.std.proofs.Common.{◌≡◌, ◌∙◌, true, sym, rules, arith}
use Rattle.std.proofs.lemmas.Iterator.{YieldsList-from_slice}
use Rattle.std.proofs.lemmas.Iterator.Search.{all_from_yields_List}
use Rattle.std.specs.Char.{is_ascii_hexdigit}
use Rattle.std.specs.List.{list_all}
use Rattle.drill_text.proofs.Digits.{hexadecimal_utf8, parsed_hexadecimal}
use Rattle.drill_text.proofs.value.hexadecimal.Goals as goal

pub returns-in_err-ok : goal.returns-in_err-ok
returns-in_err-ok c =
    let e = all_from_yields_List is_ascii_hexdigit _ _ _ c.all.ensures.ran (YieldsList-from_slice c.args.text.now cc) (λ x b q k. search rules) in
    let digits : list_all is_ascii_hexdigit c.args.text.now ≡ true = sym e ∙ c.if-not-all.false in
    let text = hexadecimal_utf8 c.args.text.now digits in
    search rules

pub returns : goal.returns
returns c =
    let e = all_from_yields_List is_ascii_hexdigit _ _ _ c.all.ensures.ran (YieldsList-from_slice c.args.text.now cc) (λ x b q k. search rules) in
    let digits : list_all is_ascii_hexdigit c.args.text.now ≡ true = sym e ∙ c.if-not-all.false in
    let same : c.in_ok-ok.field-0.now ≡ c.args.text.now = search rules in
    let parsed = rw same at c.from_str_radix.ensures.value in
    c.ok-2.ensures.value ∙ parsed_hexadecimal c.args.text.now c.args.count c.from_str_radix.result parsed digits (omega arith) c.requires.some c.requires.fits
