-- Each public function's contract determines its result: any two that it allows are equal.
-- Assumes nothing.
use mathlib.Core.Path.{◌∙◌, sym}
use Rattle.words.specs.Determined.{Determined}
use Rattle.timer_rules.proofs.TimerAnswer.number.Reads as number
use Rattle.timer_rules.proofs.decide.Reads as decide

pub number_determined : Determined number.Post
number_determined κs a y z e f p q = p ∙ sym q

pub decide_determined : Determined decide.Post
decide_determined κs a y z e f p q = p ∙ sym q
