-- The packet of a request (RULES, No. 1): RFC 5905, section 7.3, and with NTS RFC 8915, section 5.7.
-- Assumes nothing.
use Rattle.std.specs.Prelude.{ℕ, ◌-◌, Bool, true, false, ◌&&◌, cond, List, [], ◌∷◌, ◌++◌, leb, pos, length, replicate}
use Rattle.identifiers.specs.Names.{named}
use Rattle.time_types.specs.declared.PollInterval.{PollInterval}
use Rattle.time_types.specs.Time.{timestamp}
use Rattle.wire_header.specs.declared.Header.{Header}
use Rattle.wire_header.specs.declared.HeaderVersion.TheVariants as version
use Rattle.wire_header.specs.declared.Leap.TheVariants as leap
use Rattle.wire_header.specs.declared.Mode.TheVariants as mode
use Rattle.wire_header.specs.Header.{bytes_of}
use Rattle.wire_groups.specs.Matching.{uid_kind}
use Rattle.wire_collector.specs.Collector.{cookie_kind}
use Rattle.version.specs.declared.SendKind.{SendKind}
use Rattle.version.specs.declared.SendKind.TheVariants.{V4, V4Upgrade, V5, NtsV4, NtsV5}
use Rattle.wire_request.specs.Extension.{Extension, extension, field_length, all_bytes}

-- ---- the five kinds

abbrev pub is_v5 : SendKind → Bool
is_v5 V4 = false
is_v5 V4Upgrade = false
is_v5 V5 = true
is_v5 NtsV4 = false
is_v5 NtsV5 = true

abbrev pub has_nts : SendKind → Bool
has_nts V4 = false
has_nts V4Upgrade = false
has_nts V5 = false
has_nts NtsV4 = true
has_nts NtsV5 = true

-- a cookie of at most 724 bytes, and 1 to 8 asked for
-- promise: no1.5
abbrev pub ask_valid : ℕ → ℕ → Bool
ask_valid len asked = leb len 724 && (leb 1 asked && leb asked 8)

-- ---- the header

-- the upgrade request has the mark as reference timestamp
-- promise: no1.1
abbrev pub reftime_of : SendKind → ℕ → ℕ
reftime_of V4 upgrademark = 0
reftime_of V4Upgrade upgrademark = upgrademark
reftime_of V5 upgrademark = 0
reftime_of NtsV4 upgrademark = 0
reftime_of NtsV5 upgrademark = 0

-- leap 0, version 4, mode 3, the last poll, the pending 64 bits as transmit timestamp; all else is zero
-- promise no1.1: A request has leap 0, version 4, mode 3, the last poll and the pending 64 bits as transmit timestamp. The upgrade request has the mark as
--     reference timestamp. All else is zero.
unfoldable pub header_for : SendKind → PollInterval → ℕ → ℕ → Header
header_for kind poll id upgrademark =
    record {
      version = version.V4;
      leap = leap.NoWarning;
      mode = mode.Client;
      stratum = 0;
      poll = poll;
      precision = pos 0;
      rootdelay = 0;
      rootdisp = 0;
      refid = named 0;
      reftime = timestamp (reftime_of kind upgrademark);
      origin = timestamp 0;
      receive = timestamp 0;
      transmit = timestamp id;
    }

-- ---- the fields

abbrev pub placeholder_kind : ℕ
placeholder_kind = 0x0304

-- the field of a body, as long as the body needs
-- promise: no1.2
abbrev pub carrying : ℕ → List ℕ → Extension
carrying kind body = extension kind (field_length (length body)) body

-- a placeholder of a length
-- promise: no1.2
abbrev pub placeholder : ℕ → Extension
placeholder len = extension placeholder_kind len []

-- unique identifier; cookie; one placeholder of the cookie field's length for each new cookie beyond the first
-- promise no1.2: With NTS a request has the unique identifier (0104), the cookie (0204), and for each new cookie beyond the first one placeholder (0304) of
--     the cookie field's length.
--     edit: wire_request/a_placeholder_too_many
unfoldable pub fields_for : List ℕ → List ℕ → ℕ → List Extension
fields_for uid cookie asked = carrying uid_kind uid ∷ carrying cookie_kind cookie ∷ replicate (asked - 1) (placeholder (field_length (length cookie)))

-- ---- the packet

-- the fields after the bytes of a header; after them is the place for the caller's authenticator
unfoldable pub with_fields : List ℕ → List ℕ → List ℕ → ℕ → List ℕ
with_fields front uid cookie asked = front ++ all_bytes (fields_for uid cookie asked)

-- the header, and with NTS the fields
-- promise no1.6: The longest request.
unfoldable pub packet_of : SendKind → PollInterval → ℕ → ℕ → List ℕ → List ℕ → ℕ → List ℕ
packet_of kind poll id upgrademark uid cookie asked =
    cond (has_nts kind)
    (with_fields (bytes_of (header_for kind poll id upgrademark)) uid cookie asked)
    (bytes_of (header_for kind poll id upgrademark))
