-- `CState::from` meets its contract, by those of its calls.
-- Assumes nothing.
use mathlib.Core.Path.{◌≡◌, refl, ◌∙◌}
use mathlib.Core.Bool.{Bool, true, false}
use mir.Val.{bool_byte}
use Rattle.exports_values.specs.Codes.{bit_of}
use Rattle.exports_values.specs.Packed.{pack_state}
use Rattle.exports_values.proofs.CStateFromState.from.Goals as goal

is_bit_of : (b : Bool) → bool_byte b ≡ bit_of b
is_bit_of true = refl
is_bit_of false = refl

pub returns : goal.returns
unfolding pack_state
returns c =
    let s = c.args.s in
    rw (
      c.from.ensures,
      c.kind_code.ensures,
      c.tries_code.ensures,
      c.from-2.ensures ∙ is_bit_of s.source.denial,
      c.from-3.ensures ∙ is_bit_of s.request.answered,
      c.from-4.ensures ∙ is_bit_of s.request.present,
    )
