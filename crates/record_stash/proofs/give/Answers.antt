-- `give` meets its contract. Assumes nothing.
use Rattle.std.proofs.Common.{◌≡◌, ◌-◌, length, ◌∙◌, arith}
use Rattle.words.specs.Bytes.{part}
use Rattle.cookiestash.specs.Handed.{handed_of}
use Rattle.record_stash.specs.Rows.{slot_in}
use Rattle.record_stash.proofs.Blank.{start_part}
use Rattle.record_stash.proofs.give.Goals as goal

pub returns-in-Some : goal.returns-in-Some
unfolding slot_in part
returns-in-Some c =
    let a = c.args in
    let p : c.in-Some.bytes.now ≡ part a.b.now a.at 724
    = c.in-Some.ensures.cases.same ∙ start_part a.b.now a.at 724 (length a.b.now - a.at) (omega arith) in
    c.hand_out.ensures ∙ (λ i. handed_of (record { bytes = p i; len = c.be16_at-len.ensures i }) a.buffer.now)
