-- Each public function's contract determines its result: any two that it allows are equal. `judge` does so at every form of a reply.
-- Assumes nothing.
use mathlib.Core.Path.{◌∙◌, sym}
use mir.Syntax.{Dict}
use denote.RattleType.{RattleType}
use denote.Param.Laws.{Laws, IsCopy}
use Rattle.std.specs.declared.clone.Clone as clone
use Rattle.words.specs.Determined.{Determined}
use Rattle.reply_rules.specs.declared.Form as form
use Rattle.reply_rules.proofs.ReplyAnswer.number.Reads as number
use Rattle.reply_rules.proofs.PacketForm.read.Reads as packet
use Rattle.reply_rules.proofs.DecodedReplyForm.read.Reads as decoded
use Rattle.reply_rules.proofs.OptionDecodedReplyForm.read.Reads as tried
use Rattle.reply_rules.proofs.judge.Reads as judge

pub number_determined : Determined number.Post
number_determined κs a y z e f p q = p ∙ sym q

pub packet_determined : Determined packet.Post
packet_determined κs a y z e f p q = p ∙ sym q

pub decoded_determined : Determined decoded.Post
decoded_determined κs a y z e f p q = p ∙ sym q

pub tried_determined : Determined tried.Post
tried_determined κs a y z e f p q = p ∙ sym q

module _ (F : RattleType) (laws : Laws F) (copy : IsCopy F) (reads : form.Ghosts F.Denot) (by : Dict) (clones : clone.Ghosts F.Denot) (with : Dict) where
  pub judge_determined : Determined (judge.Post F laws copy reads by clones with)
  judge_determined κs a y z e f p q = p ∙ sym q
