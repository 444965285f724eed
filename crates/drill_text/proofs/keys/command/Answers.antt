-- `drill_text::keys::command` meets its contract: the first part that the cuts at spaces give is the first word.
-- Assumes nothing.
use Rattle.std.proofs.Common.{◌∙◌, ap, rules, eqb}
use Rattle.std.proofs.lemmas.Iterator.Splits.{YieldsList-from_slice_split}
use Rattle.drill_text.proofs.Splits.{first_yielded}
use Rattle.drill_text.proofs.keys.command.Goals as goal

pub returns : goal.returns
returns c =
    ap (λ r. r.now) c.unwrap_or.ensures
    ∙ first_yielded (λ b. eqb b 32) c.args.line.now c.args.line c.next.result c.next.new.self c.next.ensures.steps
    (YieldsList-from_slice_split _ (λ b. eqb b 32) c.args.line.now c.split.ensures.rest c.split.ensures.done c.split.ensures.closure (λ x b q k. search rules))
