-- Each public function's contract determines its result: any two that it allows are equal. `number` has the contract for any two types of an answer.
-- Assumes nothing.
use Rattle.std.proofs.Common.{sym, ◌∙◌}
use denote.RattleType.{RattleType}
use denote.Param.Laws.{Laws}
use mir.Syntax.{Dict}
use Rattle.words.specs.Determined.{Determined}
use Rattle.answers.specs.declared.Refusal.{Ghosts}
use Rattle.answers.proofs.number.Reads as number

pub number_determined : (T E : RattleType) (t : Laws T) (e : Laws E) (refusal : Ghosts E.Denot) (c d : Dict) → Determined (number.Post T E t e refusal c d)
number_determined T E t e refusal c d κs a y z f g p q = p ∙ sym q
