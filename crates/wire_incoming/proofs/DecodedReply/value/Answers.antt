-- `DecodedReply::value` meets its contract, by those of its calls.
-- Assumes nothing.
use Rattle.std.proofs.Common.{rules, ◌≡◌, ◌∙◌, sym, ap}
use mir.Syntax.{w8}
use mir.Val.{SFits}
use mir.Facts.{to_z-of_z}
use Rattle.wire_incoming.specs.Incoming.{is_response, decoded_of}
use Rattle.wire_incoming.proofs.Modes.{no_response}
use Rattle.wire_incoming.proofs.DecodedReply.value.Goals as goal
use Rattle.wire_incoming.proofs.DecodedReply.value.Goals.{in-Response, in_default}

pub returns : goal.returns
unfolding decoded_of
returns c =
    let fit : SFits w8 c.args.self.precision = search rules in
    let response : c.match-matches.matches ≡ is_response c.args.self.mode =
    elim c.match-matches.branch [
      | in-Response w ↦ w.matches-is ∙ sym (ap is_response w.in-Response.is)
      | in_default w ↦ w.matches-is ∙ sym (no_response _ w.in_default.not-Response)
    ] in
    rw (c.none.ensures, response, to_z-of_z fit)
