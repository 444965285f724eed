-- `drill_text::value::group` meets its contract: in each arm the text is the arm's word.
-- Assumes nothing.
use Rattle.std.proofs.Common.{◌≡◌, codes, refl, rules, arith}
use Rattle.std.proofs.lemmas.Slice.Eq.{text_from_reads}
use Rattle.drill_text.proofs.value.group.Goals as goal

pub returns-in-absent : goal.returns-in-absent
returns-in-absent c =
    let e : c.args.text.now ≡ codes "absent" = text_from_reads c.args.text.now (codes "absent") (omega arith) (search rules) in
    rw e refl

pub returns-in-disagree : goal.returns-in-disagree
returns-in-disagree c =
    let e : c.args.text.now ≡ codes "disagree" = text_from_reads c.args.text.now (codes "disagree") (omega arith) (search rules) in
    rw e refl
