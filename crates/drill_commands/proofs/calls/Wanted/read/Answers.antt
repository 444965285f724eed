-- `drill_commands::calls::Wanted::read` meets its contract: each setting is what the parser of its key made of the words.
-- Assumes nothing.
use Rattle.std.proofs.Common.{rules, codes, ◌≡◌, ◌∙◌, option_copied, ap, subst, inl, inr, Err, None}
use Rattle.drill_text.proofs.Digits.{parses_unsigned, decimal_number, decimal_is}
use Rattle.drill_text.specs.Lines.{words_of}
use Rattle.drill_text.specs.Values.{IsNumber, decimal_up_to, hexadecimal_of, version_of, yes_or_no_of}
use Rattle.drill_commands.specs.Settings.{HasFault}
use Rattle.drill_commands.proofs.Reading.{lacks_value, lacks_default, lacks_list, lacks_signed, parses_signed, read_value, read_default, read_signed, read_list}
use Rattle.drill_commands.proofs.calls.Wanted.read.Goals as goal

pub returns-in_err-parse : goal.returns-in_err-parse
returns-in_err-parse c =
    let same = c.in_ok-pairs.ensures.1 in
    let fault : c.from_residual-in_err-parse.result ≡ Err c.in_err-parse.field-0.0 = search rules in
    rw fault (inr (inr (λ w i. lacks_signed _ (words_of c.args.line.now) (codes "min") _ _ _ _ c.in_err-parse.ensures
    (λ t o r. let n : IsNumber parses_signed r.shown.now o =
    r.says.met in subst (λ u. IsNumber parses_signed u o) r.shows n) (ap (λ v. v.text) c.value.ensures) (same (codes "min")) _ i.settings.min)))

pub returns-in_err-parse-2 : goal.returns-in_err-parse-2
returns-in_err-parse-2 c =
    let same = c.in_ok-pairs.ensures.1 in
    let fault : c.from_residual-in_err-parse-2.result ≡ Err c.in_err-parse-2.field-0.0 = search rules in
    rw fault (inr (inr (λ w i. lacks_signed _ (words_of c.args.line.now) (codes "max") _ _ _ _ c.in_err-parse-2.ensures
    (λ t o r. let n : IsNumber parses_signed r.shown.now o =
    r.says.met in subst (λ u. IsNumber parses_signed u o) r.shows n) (ap (λ v. v.text) c.value-2.ensures) (same (codes "max")) _ i.settings.max)))

pub returns-in_err-startup : goal.returns-in_err-startup
returns-in_err-startup c =
    let same = c.in_ok-pairs.ensures.1 in
    let fault : c.from_residual-in_err-startup.result ≡ Err c.in_err-startup.field-0.0 = search rules in
    let lacks = lacks_value (decimal_up_to 255) _ (words_of c.args.line.now) (codes "startup") _ _ _ _ c.in_err-startup.ensures
    (λ t o r. let n : IsNumber (parses_unsigned 8) r.shown.now o =
    r.says.met in decimal_is 255 t o (decimal_number 8 t o (subst (λ u. IsNumber (parses_unsigned 8) u o) r.shows n))) (ap (λ v. v.text) c.value-3.ensures)
    (same (codes "startup")) in
    rw fault (inr (inr (λ w i. let has = i.settings.startup in cc)))

pub returns-in_err-window : goal.returns-in_err-window
returns-in_err-window c =
    let same = c.in_ok-pairs.ensures.1 in
    let fault : c.from_residual-in_err-window.result ≡ Err c.in_err-window.field-0.0 = search rules in
    let lacks = lacks_value (decimal_up_to 18446744073709551615) _ (words_of c.args.line.now) (codes "window") _ _ _ _ c.in_err-window.ensures
    (λ t o r. let n : IsNumber (parses_unsigned 64) r.shown.now o =
    r.says.met in decimal_is 18446744073709551615 t o (decimal_number 64 t o (subst (λ u. IsNumber (parses_unsigned 64) u o) r.shows n)))
    (ap (λ v. v.text) c.value-4.ensures) (same (codes "window")) in
    rw fault (inr (inr (λ w i. let has = i.settings.window in cc)))

pub returns-in_err-list : goal.returns-in_err-list
returns-in_err-list c =
    let same = c.in_ok-pairs.ensures.1 in
    let fault : c.from_residual-in_err-list.result ≡ Err c.in_err-list.field-0.0 = search rules in
    rw fault (elim c.in_err-list.ensures [
      | inl e ↦ inl e
      | inr e ↦ let lacks =
          lacks_list (words_of c.args.line.now) (codes "list") _ _ _ _ _ e (ap (λ v. v.text) c.or.ensures) (ap (λ v. option_copied v.text) c.value-9.ensures
          ∙ same (codes "list")) in
          inr (inr (λ w i. let has = i.list in cc))
    ])

pub returns-in_err-capacity : goal.returns-in_err-capacity
returns-in_err-capacity c =
    let same = c.in_ok-pairs.ensures.1 in
    let fault : c.from_residual-in_err-capacity.result ≡ Err c.in_err-capacity.field-0.0 = search rules in
    let lacks = lacks_default (decimal_up_to 255) _ (words_of c.args.line.now) (codes "capacity") _ _ _ _ _ c.in_err-capacity.ensures
    (λ t o r. let n : IsNumber (parses_unsigned 8) r.shown.now o =
    r.says.met in decimal_is 255 t o (decimal_number 8 t o (subst (λ u. IsNumber (parses_unsigned 8) u o) r.shows n))) (ap (λ v. v.text) c.or-2.ensures)
    (ap (λ v. option_copied v.text) c.value-10.ensures ∙ same (codes "capacity")) in
    rw fault (inr (inr (λ w i. let has = i.settings.capacity in cc)))

pub returns : goal.returns
returns c =
    let words = words_of c.args.line.now in
    let same = c.in_ok-pairs.ensures.1 in
    let none = c.in_ok-pairs.ensures.0 in
    let fine : HasFault words None = search rules in (
      fine,
      record {
        settings = record {
          min = read_signed _ words (codes "min") _ _ _ _ c.in_ok-parse.ensures
              (λ t o r. let n : IsNumber parses_signed r.shown.now o =
              r.says.met in subst (λ u. IsNumber parses_signed u o) r.shows n) (ap (λ v. v.text) c.value.ensures) (same (codes "min"));
          max = read_signed _ words (codes "max") _ _ _ _ c.in_ok-parse-2.ensures
              (λ t o r. let n : IsNumber parses_signed r.shown.now o =
              r.says.met in subst (λ u. IsNumber parses_signed u o) r.shows n) (ap (λ v. v.text) c.value-2.ensures) (same (codes "max"));
          startup = read_value (decimal_up_to 255) _ words (codes "startup") _ _ _ _ c.in_ok-startup.ensures
              (λ t o r. let n : IsNumber (parses_unsigned 8) r.shown.now o =
              r.says.met in decimal_is 255 t o (decimal_number 8 t o (subst (λ u. IsNumber (parses_unsigned 8) u o) r.shows n)))
              (ap (λ v. v.text) c.value-3.ensures)
              (same (codes "startup"));
          window = read_value (decimal_up_to 18446744073709551615) _ words (codes "window") _ _ _ _ c.in_ok-window.ensures
              (λ t o r. let n : IsNumber (parses_unsigned 64) r.shown.now o =
              r.says.met in decimal_is 18446744073709551615 t o (decimal_number 64 t o (subst (λ u. IsNumber (parses_unsigned 64) u o) r.shows n)))
              (ap (λ v. v.text) c.value-4.ensures) (same (codes "window"));
          mark = read_value (hexadecimal_of 16) _ words (codes "mark") _ _ _ _ c.in_ok-upgrademark.ensures
              (λ t o r. search rules) (ap (λ v. v.text) c.value-5.ensures) (same (codes "mark"));
          start = read_value version_of _ words (codes "start") _ _ _ _ c.in_ok-start.ensures
              (λ t o r. search rules) (ap (λ v. v.text) c.value-6.ensures) (same (codes "start"));
          nts = read_value yes_or_no_of _ words (codes "nts") _ _ _ _ c.in_ok-nts.ensures
              (λ t o r. search rules) (ap (λ v. v.text) c.value-7.ensures) (same (codes "nts"));
          source = read_value (hexadecimal_of 8) _ words (codes "source") _ _ _ _ c.in_ok-parse-3.ensures
              (λ t o r. search rules) (ap (λ v. v.text) c.value-8.ensures) (same (codes "source"));
          capacity = read_default (decimal_up_to 255) _ words (codes "capacity") _ _ _ _ _ c.in_ok-capacity.ensures
              (λ t o r. let n : IsNumber (parses_unsigned 8) r.shown.now o =
              r.says.met in decimal_is 255 t o (decimal_number 8 t o (subst (λ u. IsNumber (parses_unsigned 8) u o) r.shows n)))
              (ap (λ v. v.text) c.or-2.ensures) (ap (λ v. option_copied v.text) c.value-10.ensures ∙ same (codes "capacity"));
        };
        list = read_list words (codes "list") _ _ _ _ _ c.in_ok-list.ensures
            (ap (λ v. v.text) c.or.ensures) (ap (λ v. option_copied v.text) c.value-9.ensures ∙ same (codes "list"));
      },
    )
