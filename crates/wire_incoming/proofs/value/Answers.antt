-- `value` meets its contract: field by field, what each call ensures.
-- Assumes nothing.
use Rattle.std.proofs.Common.{rules, ◌≡◌, ◌∙◌, sym, ap}
use mir.Syntax.{w8}
use mir.Val.{SFits}
use mir.Facts.{to_z-of_z}
use Rattle.wire_incoming.specs.Incoming.{is_server, value_of}
use Rattle.wire_incoming.proofs.Modes.{no_server}
use Rattle.wire_incoming.proofs.value.Goals as goal
use Rattle.wire_incoming.proofs.value.Goals.{in-Server, in_default}

pub returns : goal.returns
unfolding value_of
returns c =
    let fit : SFits w8 c.args.h.precision = search rules in
    let server : c.match-matches.matches ≡ is_server c.args.h.mode =
    elim c.match-matches.branch [
      | in-Server w ↦ w.matches-is ∙ sym (ap is_server w.in-Server.is)
      | in_default w ↦ w.matches-is ∙ sym (no_server _ w.in_default.not-Server)
    ] in
    rw (
      c.kisses.ensures,
      c.from_short-2.ensures,
      c.from_short.ensures,
      server,
      c.from.ensures,
      c.number.ensures,
      to_z-of_z fit,
    )
