-- `metered` meets its contract: what `carry_out` gave, of what the profile says.
-- Assumes nothing.
use mathlib.Core.Path.{ap, ◌∙◌}
use Rattle.record_new.proofs.Carried.{metered_carried, metered_told}
use Rattle.record_new.proofs.metered.Goals as goal

pub returns : goal.returns
returns c =
    let a = c.args in
    c.carry_out.ensures ∙ ap (metered_carried a.settings a.list.now a.b.now) c.profile.ensures ∙ metered_told a.settings a.list.now a.b.now
