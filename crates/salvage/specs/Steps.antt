-- What a call of the walk gives: the step at its place, after which reading continues, or none at the end of the list.
-- Assumes nothing.
use Rattle.std.specs.Prelude.{◌≡◌, ◌+◌, ◌-◌, ◌≤◌, ◌<◌, length, Option, Some, None, MatchOption}
use Rattle.std.specs.Iterator.{Count, at_most}
use Rattle.salvage.specs.declared.Step.{Step}
use Rattle.salvage.specs.declared.Step.TheVariants.{Kept, Skipped}
use Rattle.salvage.specs.declared.Walk.{Walk}
use Rattle.salvage.specs.Walk.{record_at}

-- the step at the walk's place, and the place behind it
abbrev pub Takes : Walk → Walk → Step → Type 0
Takes old new (Kept start end) = (start ≡ old.at) × (record_at old.list.now old.at ≡ Some end) × (new.at ≡ end)
Takes old new (Skipped at) = (at ≡ old.at) × (record_at old.list.now old.at ≡ None) × (new.at ≡ old.at + 1)

abbrev pub GivesStep : Walk → Option Step → Walk → Type 0
GivesStep old given new = (new.list.now ≡ old.list.now) ×
    MatchOption given ((length old.list.now ≤ old.at) × (new.at ≡ old.at)) (λ step. (old.at < length old.list.now) × Takes old new step)

-- no more steps than bytes
abbrev pub steps_left : Walk → Count
steps_left walk = at_most (length walk.list.now - walk.at)
