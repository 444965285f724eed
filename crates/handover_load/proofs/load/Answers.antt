-- `load` meets its contract: what was read, with the stash of its body; or the refusal, with the blank record.
-- Assumes nothing.
use mathlib.Core.Path.{sym, ◌∙◌}
use Rattle.std.specs.Prelude.{Ok, Err}
use Rattle.handover_load.specs.Reading.{contents_of}
use Rattle.handover_load.proofs.Within.{found_is, answer_is, refused_is}
use Rattle.handover_load.proofs.load.Goals as goal

pub returns-in-Ok : goal.returns-in-Ok
returns-in-Ok c =
    let f = found_is c.args.file.now (contents_of c.in-Ok.found) c.in-Ok.ensures in
    let a = answer_is c.args.file.now (Ok (contents_of c.in-Ok.found)) c.in-Ok.ensures in
    let s = f.association ∙ (λ i. record { settings = c.in-Ok.found.settings; stash = sym c.stash_in.ensures i; state = c.in-Ok.found.state }) in
    λ i. record { answer = a i; association = sym s i }

pub returns-in-Err : goal.returns-in-Err
returns-in-Err c =
    (λ i. record { answer = Err c.in-Err.refusal; association = c.blank.ensures i }) ∙ sym (refused_is c.args.file.now c.in-Err.refusal c.in-Err.ensures)
