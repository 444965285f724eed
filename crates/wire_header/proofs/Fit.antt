-- A header whose numbers fit their types, and that every header of the machine is one.
-- Assumes nothing.
use mathlib.Core.List.{List}
use Prim.Native.Nat.{◌^◌, ◌<◌}
use borrow.Author.Rules.{rules}
use denote.Laws.{Is}
use mir.Syntax.{w8}
use mir.Val.{Val, SFits}
use Rattle.wire_header.specs.declared.Header.{Header}
use Rattle.wire_header.specs.contracts.Header.{the_row}

pub record Fit (h : Header) : Type 0 where
  pub stratum : h.stratum < 2 ^ 8
  pub poll : SFits w8 h.poll.0
  pub precision : SFits w8 h.precision
  pub rootdelay : h.rootdelay < 2 ^ 32
  pub rootdisp : h.rootdisp < 2 ^ 32
  pub refid : h.refid.0 < 2 ^ 32
  pub reftime : h.reftime.0 < 2 ^ 64
  pub origin : h.origin.0 < 2 ^ 64
  pub receive : h.receive.0 < 2 ^ 64
  pub transmit : h.transmit.0 < 2 ^ 64

-- the types alone give it: every header that stands for machine values
-- promise: 6.3
pub types_fit : (h : Header) (vs : List Val) → Is the_row h vs → Fit h
types_fit h vs is =
    record {
      stratum = search rules;
      poll = search rules;
      precision = search rules;
      rootdelay = search rules;
      rootdisp = search rules;
      refid = search rules;
      reftime = search rules;
      origin = search rules;
      receive = search rules;
      transmit = search rules;
    }
