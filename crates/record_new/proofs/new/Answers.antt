-- `new` meets its contract: what `carry_out` gave, of what was tested.
-- Assumes nothing.
use mathlib.Core.Path.{ap, ◌∙◌}
use Rattle.record_new.proofs.Carried.{new_carried, new_told}
use Rattle.record_new.proofs.new.Goals as goal

pub returns : goal.returns
returns c =
    let a = c.args in
    c.carry_out.ensures ∙ ap (new_carried a.settings a.list.now a.b.now) c.tested.ensures ∙ new_told a.settings a.list.now a.b.now
