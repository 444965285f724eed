-- `reply` meets its contract: what is found in the bytes, or none.
-- Assumes nothing.
use mathlib.Core.Path.{◌∙◌}
use Rattle.association.specs.declared.Settings.{Settings}
use Rattle.association.specs.declared.State.{State}
use Rattle.reply_clauses.specs.After.{arrival}
use Rattle.reply_rules.specs.declared.ReplyAnswer.TheVariants.{NotWhole}
use Rattle.record_calls.specs.Reply.{gave}
use Rattle.record_calls.proofs.ReplyTold.{refused, told}
use borrow.Author.Rules.{rules}
use Rattle.record_calls.proofs.replies.reply.Goals as goal

pub returns-in_default : goal.returns-in_default
returns-in_default g c =
    let args = c.args in
    let stamps = args.stamps in
    (λ i. gave (record { answer = NotWhole; dropped = c.none.ensures i }) args.b.now)
    ∙ refused args.b.now (arrival args.list.now stamps.t1 stamps.t4 stamps.time) _ c.in_default.ensures

pub returns : goal.returns
returns g c =
    let args = c.args in
    let stamps = args.stamps in
    told args.b.now (arrival args.list.now stamps.t1 stamps.t4 stamps.time)
    (λ (s : Settings) (q : State). g.F.Form.read args.form s.nts q.request.uid)
    (search rules) c.in-Some.found c.in-Some.ensures c.judge-verdict.result c.settle.ensures.1 c.see-seen.result c.see-seen.ensures
    c.judge-verdict.ensures c.settle.result _ c.settle.ensures.0
