-- What `carry_out` owes `make`: the number of bytes fits the capacity.
-- Assumes nothing.
use mathlib.Core.Path.{sym, ◌∙◌}
use Rattle.record_stash.proofs.With.{sized_of}
use Rattle.record_new.proofs.carry_out.Goals as goal

pub make-dropped-requires : goal.make-dropped-requires
make-dropped-requires g c =
    let a = c.args in
    sized_of a.b.now a.settings.capacity (sym c.sized.ensures ∙ c.if-not-sized.false)
