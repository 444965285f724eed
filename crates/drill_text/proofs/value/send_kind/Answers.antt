-- `drill_text::value::send_kind` meets its contract: in each arm the text is the arm's word.
-- Assumes nothing.
use Rattle.std.proofs.Common.{◌≡◌, codes, refl, rules, arith}
use Rattle.std.proofs.lemmas.Slice.Eq.{text_from_reads}
use Rattle.drill_text.proofs.value.send_kind.Goals as goal

pub returns-in-110 : goal.returns-in-110
returns-in-110 c =
    let e : c.args.text.now ≡ codes "nts-v4" = text_from_reads c.args.text.now (codes "nts-v4") (omega arith) (search rules) in
    rw e refl

pub returns-in-110-2 : goal.returns-in-110-2
returns-in-110-2 c =
    let e : c.args.text.now ≡ codes "nts-v5" = text_from_reads c.args.text.now (codes "nts-v5") (omega arith) (search rules) in
    rw e refl

pub returns-in-118 : goal.returns-in-118
returns-in-118 c =
    let e : c.args.text.now ≡ codes "v4-upgrade" = text_from_reads c.args.text.now (codes "v4-upgrade") (omega arith) (search rules) in
    rw e refl
