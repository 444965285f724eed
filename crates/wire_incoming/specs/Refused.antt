-- When the byte form of a reply is rejected with 1, as a statement: what `read_of` of specs/Incoming.antt tests (RULES, parts 6, 7 and 11).
-- Assumes nothing.
use Rattle.std.specs.Prelude.{◌≡◌, Bool, true, List, ◌⊎◌, ℕ, None}
use Rattle.wire_header.specs.Header.{version_bits, header_of}
use Rattle.wire_fields.specs.Walk.{decrypted_walk, walked_of}
use Rattle.wire_fields.specs.Sound.{Place}

-- the header is not decodable; the authenticated end is no place (V3 has only 48, V4 those of a walk that ends); or, with NTS, the decrypted fields are broken
abbrev pub PacketRefused : Bool → List ℕ → ℕ → List ℕ → Type 0
PacketRefused nts p end decrypted =
    (header_of p ≡ None)
    ⊎ (((version_bits p ≡ 3) × (end ≡ 48 → ⊥))
    ⊎ (((version_bits p ≡ 4) × (Place p end → ⊥))
    ⊎ ((nts ≡ true) × (walked_of (decrypted_walk decrypted) ≡ None))))
