-- A mode that is no server's answer is told as none.
-- Assumes nothing.
use Rattle.std.proofs.Common.{◌≡◌, refl, false}
use Rattle.wire_header.specs.declared.Mode.{Mode}
use Rattle.wire_header.specs.declared.Mode.TheVariants.{
  Reserved,
  SymmetricActive,
  SymmetricPassive,
  Client,
  Server,
  Broadcast,
  Control,
  Private,
}
use Rattle.wire_incoming.specs.declared.DecodedMode.{DecodedMode}
use Rattle.wire_incoming.specs.declared.DecodedMode.TheVariants.{Request, Response}
use Rattle.wire_incoming.specs.Incoming.{is_server, is_response}

pub no_server : (m : Mode) → (m ≡ Server → ⊥) → is_server m ≡ false
no_server Reserved other = refl
no_server SymmetricActive other = refl
no_server SymmetricPassive other = refl
no_server Client other = refl
no_server Server other = absurd (other refl)
no_server Broadcast other = refl
no_server Control other = refl
no_server Private other = refl

pub no_response : (m : DecodedMode) → (m ≡ Response → ⊥) → is_response m ≡ false
no_response Request other = refl
no_response Response other = absurd (other refl)
