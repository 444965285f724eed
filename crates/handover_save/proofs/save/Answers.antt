-- `save` meets its contract: what is written says whether the association keeps its cookies.
-- Assumes nothing.
use mathlib.Core.Path.{◌∙◌, ap}
use Rattle.cookiestash.specs.declared.CookieStash.{CookieStash}
use Rattle.std.specs.Prelude.{Ok}
use Rattle.handover_file.specs.Answers.{saved, handed}
use Rattle.handover_save.proofs.Saved.{refused_keeps, written_empties}
use Rattle.handover_save.proofs.save.Goals as goal

pub returns-in-Ok : goal.returns-in-Ok
unfolding Rattle.handover_file.specs.File.emptied
returns-in-Ok c =
    let a = c.args.a in
    let e = c.in-Ok.ensures in
    ap (λ (s : CookieStash). handed (saved (Ok c.in-Ok.len) (record { settings = a.settings; stash = s; state = a.state })) c.write.new.buffer)
    c.emptied.ensures
    ∙ (λ i. handed (written_empties a _ _ e.answers i) (e.leaves i))

pub returns-in-Err : goal.returns-in-Err
returns-in-Err c =
    let e = c.in-Err.ensures in
    λ i. handed (refused_keeps c.args.a _ _ e.answers i) (e.leaves i)
