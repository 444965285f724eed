-- `drill_text::value::kind_without_tries` meets its contract: in each arm the text is the arm's word.
-- Assumes nothing.
use Rattle.std.proofs.Common.{◌≡◌, codes, refl, rules, arith}
use Rattle.std.proofs.lemmas.Slice.Eq.{text_from_reads}
use Rattle.drill_text.proofs.value.kind_without_tries.Goals as goal

pub returns-in-upgraded : goal.returns-in-upgraded
returns-in-upgraded c =
    let e : c.args.text.now ≡ codes "upgraded" = text_from_reads c.args.text.now (codes "upgraded") (omega arith) (search rules) in
    rw e refl
