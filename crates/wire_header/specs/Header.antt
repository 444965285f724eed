-- RULES, part 6: the header's 48 bytes, with fields at 0, 1, 2, 3, 4, 8, 12, 16, 24, 32 and 40 (RFC 5905, section 7.3).
-- Assumes nothing.
use Rattle.std.specs.Prelude.{ℕ, ◌+◌, ◌*◌, ◌/◌, ◌%◌, ◌^◌, cond, List, ◌∷◌, ◌++◌, ltb, eqb, length, get_or, Option, Some, None}
use Rattle.words.specs.Bytes.{be, part, to_be}
use Rattle.words.specs.Signed.{signed, unsigned}
use Rattle.identifiers.specs.Names.{named}
use Rattle.time_types.specs.Time.{timestamp}
use Rattle.time_types.specs.Poll.{interval}
use Rattle.wire_header.specs.declared.HeaderVersion.{HeaderVersion}
use Rattle.wire_header.specs.declared.HeaderVersion.TheVariants.{V3, V4}
use Rattle.wire_header.specs.declared.Leap.{Leap}
use Rattle.wire_header.specs.declared.Leap.TheVariants.{NoWarning, Leap61, Leap59, Unsynchronized}
use Rattle.wire_header.specs.declared.Mode.{Mode}
use Rattle.wire_header.specs.declared.Mode.TheVariants.{
  Reserved,
  SymmetricActive,
  SymmetricPassive,
  Client,
  Server,
  Broadcast,
  Control,
  Private,
}
use Rattle.wire_header.specs.declared.Header.{Header}

-- ---- the three numbers of byte 0

-- leap: four kinds
abbrev pub leap_code : Leap → ℕ
leap_code NoWarning = 0
leap_code Leap61 = 1
leap_code Leap59 = 2
leap_code Unsynchronized = 3

abbrev pub leap_of : ℕ → Leap
leap_of n = cond (eqb n 0) NoWarning (cond (eqb n 1) Leap61 (cond (eqb n 2) Leap59 Unsynchronized))

-- mode: eight kinds
abbrev pub mode_code : Mode → ℕ
mode_code Reserved = 0
mode_code SymmetricActive = 1
mode_code SymmetricPassive = 2
mode_code Client = 3
mode_code Server = 4
mode_code Broadcast = 5
mode_code Control = 6
mode_code Private = 7

abbrev pub mode_of : ℕ → Mode
mode_of n =
    cond (eqb n 0) Reserved
    (cond (eqb n 1) SymmetricActive
    (cond (eqb n 2) SymmetricPassive
    (cond (eqb n 3) Client
    (cond (eqb n 4) Server
    (cond (eqb n 5) Broadcast
    (cond (eqb n 6) Control Private))))))

-- version: 3 and 4
-- promise: 6.2
abbrev pub version_code : HeaderVersion → ℕ
version_code V3 = 3
version_code V4 = 4

-- byte 0: leap in bits 6 and 7, version in bits 3 to 5, mode in bits 0 to 2
abbrev pub first_byte : Leap → HeaderVersion → Mode → ℕ
first_byte l v m = leap_code l * 64 + version_code v * 8 + mode_code m

-- promise 6.2: The version is in bits 3 to 5 of byte 0. Versions 3 and 4 are read.
abbrev pub version_bits : List ℕ → ℕ
version_bits p = get_or p 0 0 / 8 % 8

-- ---- the reader

-- the fields at their offsets; poll and precision are signed
-- promise 6.1: A header has 48 bytes, with fields at 0, 1, 2, 3, 4, 8, 12, 16, 24, 32 and 40. Poll and precision are signed.
--     edit: wire_header/forty_seven_bytes_are_read, wire_header/leap_59_is_read_as_61, wire_header/a_server_is_read_as_a_client
unfoldable pub fields : HeaderVersion → List ℕ → Header
fields v p =
    record {
      version = v;
      leap = leap_of (get_or p 0 0 / 64);
      mode = mode_of (get_or p 0 0 % 8);
      stratum = get_or p 1 0;
      poll = interval (signed (2 ^ 7) (get_or p 2 0));
      precision = signed (2 ^ 7) (get_or p 3 0);
      rootdelay = be (part p 4 4);
      rootdisp = be (part p 8 4);
      refid = named (be (part p 12 4));
      reftime = timestamp (be (part p 16 8));
      origin = timestamp (be (part p 24 8));
      receive = timestamp (be (part p 32 8));
      transmit = timestamp (be (part p 40 8));
    }

-- fewer than 48 bytes, or a version other than 3 and 4, are not decodable
-- promise: 6.1
unfoldable pub header_of : List ℕ → Option Header
header_of p =
    cond (ltb (length p) 48) None
    (cond (eqb (version_bits p) 3) (Some (fields V3 p))
    (cond (eqb (version_bits p) 4) (Some (fields V4 p))
    None))

-- the number in RULES: 1 for bytes that are not decodable; a header that is read is not rejected
-- promise 6.4: An undecodable header is 1. No other answer of the reader has a number.
abbrev pub refusal_of : Option Header → Option ℕ
refusal_of (Some h) = None
refusal_of None = Some 1

-- ---- the writer

-- the fields in the order of their offsets
-- promise 6.3: The writer returns 48 bytes by value and rejects nothing.
--     edit: wire_header/origin_written_twice, wire_header/a_server_is_written_as_a_client, wire_header/leap_59_is_written_as_61
unfoldable pub bytes_of : Header → List ℕ
bytes_of h =
    first_byte h.leap h.version h.mode
    ∷ h.stratum
    ∷ unsigned (2 ^ 7) h.poll.0
    ∷ unsigned (2 ^ 7) h.precision
    ∷ (to_be 4 h.rootdelay
    ++ to_be 4 h.rootdisp
    ++ to_be 4 h.refid.0
    ++ to_be 8 h.reftime.0
    ++ to_be 8 h.origin.0
    ++ to_be 8 h.receive.0
    ++ to_be 8 h.transmit.0)
