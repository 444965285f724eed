-- `handover_file::cut::held_at` meets its contract: each answer is that of the tests that led to it.
-- Assumes nothing.
use mathlib.Core.Path.{◌≡◌, sym, ap, ◌∙◌}
use borrow.Author.Tests.{le-ltb, lt-ltb, eq-eqb, ne_eqb}
use Rattle.cookiestash.specs.Stash.{stored}
use Rattle.handover_file.specs.Steps.{word_at, held_at}
use Rattle.handover_file.proofs.cut.held_at.Goals as goal
use Rattle.handover_file.proofs.cut.held_at.Goals.{After-stored_bytes-n}

-- how many bytes are kept, by the length that was read
kept_said : (k : After-stored_bytes-n) →
    let a = k.args in
    stored (word_at a.b.now a.at) ≡ k.stored_bytes-n.result
unfolding word_at
kept_said k = ap stored (sym k.be16_at-len.ensures ∙ sym k.from.ensures) ∙ sym k.stored_bytes-n.ensures

pub returns-then-b-at : goal.returns-then-b-at
unfolding held_at
returns-then-b-at c = simp (lt-ltb _ _ c.if-b-at.true)

pub returns-then-rest-eq0 : goal.returns-then-rest-eq0
unfolding held_at
returns-then-rest-eq0 c = simp (le-ltb _ _ c.if-b-at.false, eq-eqb _ _ c.if-rest-eq0.true)

pub returns-then-rest-lt2 : goal.returns-then-rest-lt2
unfolding held_at
returns-then-rest-lt2 c = simp (le-ltb _ _ c.if-b-at.false, ne_eqb _ _ c.if-rest-eq0.false, lt-ltb _ _ c.if-rest-lt2.true)

pub returns-then-rest-n : goal.returns-then-rest-n
unfolding held_at word_at
returns-then-rest-n c =
    simp (
      le-ltb _ _ c.if-b-at.false,
      ne_eqb _ _ c.if-rest-eq0.false,
      le-ltb _ _ c.if-rest-lt2.false,
      kept_said (goal.at.returns-then-rest-n c).After-stored_bytes-n,
      lt-ltb _ _ c.if-rest-n.true,
    )

pub returns : goal.returns
unfolding held_at word_at
returns c =
    simp (
      le-ltb _ _ c.if-b-at.false,
      ne_eqb _ _ c.if-rest-eq0.false,
      le-ltb _ _ c.if-rest-lt2.false,
      kept_said (goal.at.returns c).After-stored_bytes-n,
      le-ltb _ _ c.if-rest-n.false,
    )
    (cc)
