-- Both forms of a reply as one value (RULES, part 11): the byte form through its header, its walk and its groups, and V5's decoded form.
-- Assumes nothing.
use Rattle.std.specs.Prelude.{Bool, true, false, not, ◌&&◌, ◌||◌, cond, List, ℕ, eqb, length, Option, Some, None, Result, Ok, Err}
use Rattle.identifiers.specs.Names.{named, xnon}
use Rattle.time_types.specs.Time.{duration, short_of}
use Rattle.wire_header.specs.declared.Header.{Header}
use Rattle.wire_header.specs.declared.HeaderVersion.{HeaderVersion}
use Rattle.wire_header.specs.declared.HeaderVersion.TheVariants.{V3, V4}
use Rattle.wire_header.specs.declared.Leap.{Leap}
use Rattle.wire_header.specs.declared.Leap.TheVariants as L
use Rattle.wire_header.specs.declared.Mode.{Mode}
use Rattle.wire_header.specs.declared.Mode.TheVariants as M
use Rattle.wire_header.specs.Header.{header_of, version_code}
use Rattle.wire_header.specs.Kiss.{kisses_of}
use Rattle.wire_fields.specs.Walk.{is_place, decrypted_walk, whole}
use Rattle.wire_groups.specs.declared.Uid.{Uid}
use Rattle.wire_groups.specs.declared.Uid.TheVariants.{Absent}
use Rattle.wire_groups.specs.Matching.{packet_uid, decrypted_uid}
use Rattle.wire_incoming.specs.declared.NtpLeapIndicator.{NtpLeapIndicator}
use Rattle.wire_incoming.specs.declared.NtpLeapIndicator.TheVariants as I
use Rattle.wire_incoming.specs.declared.UnknownLeap.{UnknownLeap}
use Rattle.wire_incoming.specs.declared.Reply.{Reply}
use Rattle.wire_incoming.specs.declared.DecodedMode.{DecodedMode}
use Rattle.wire_incoming.specs.declared.DecodedMode.TheVariants.{Request, Response}
use Rattle.wire_incoming.specs.declared.DecodedReply.{DecodedReply}

-- the leap kinds as a program prints them
abbrev pub leap_printed : NtpLeapIndicator → ℕ
leap_printed I.NoWarning = 0
leap_printed I.Leap61 = 1
leap_printed I.Leap59 = 2
leap_printed I.Unknown = 3
leap_printed I.Unsynchronized = 4

-- the kind that such a number stands for; no other number stands for one
-- promise: exports.7
abbrev pub leap_coded : ℕ → Result NtpLeapIndicator UnknownLeap
leap_coded n =
    cond (eqb n 0) (Ok I.NoWarning)
    (cond (eqb n 1) (Ok I.Leap61)
    (cond (eqb n 2) (Ok I.Leap59) (cond (eqb n 3) (Ok I.Unknown) (cond (eqb n 4) (Ok I.Unsynchronized) (Err (record { 0 = n }))))))

-- a header's leap kinds among those of a measurement
abbrev pub leap_of : Leap → NtpLeapIndicator
leap_of L.NoWarning = I.NoWarning
leap_of L.Leap61 = I.Leap61
leap_of L.Leap59 = I.Leap59
leap_of L.Unsynchronized = I.Unsynchronized

abbrev pub is_server : Mode → Bool
is_server M.Reserved = false
is_server M.SymmetricActive = false
is_server M.SymmetricPassive = false
is_server M.Client = false
is_server M.Server = true
is_server M.Broadcast = false
is_server M.Control = false
is_server M.Private = false

-- the authenticated end: V3 has only tail, so that 48 is its walk's only place; V4's is a place of a walk that is not broken
-- promise 7.7: V3 has only a tail, of any length.
abbrev pub end_valid : HeaderVersion → List ℕ → ℕ → Bool
end_valid V3 p end = eqb end 48
end_valid V4 p end = is_place p end

-- decrypted field bytes are read only with NTS; broken: 1
-- promise 8.3: Without NTS neither groups nor decrypted bytes are read.
abbrev pub decrypted_valid : Bool → List ℕ → Bool
decrypted_valid nts decrypted = not nts || whole (decrypted_walk decrypted)

-- the groups, which only NTS reads: fields before the authenticated end are authenticated, after it untrusted; V3 has none
-- promise: 7.8, 8.3
abbrev pub group_of : Bool → HeaderVersion → List ℕ → ℕ → ℕ → List ℕ → Uid
group_of nts V3 p from to uid = Absent
group_of nts V4 p from to uid = cond nts (packet_uid p from to uid) Absent

-- promise: 8.3
abbrev pub encrypted_of : Bool → List ℕ → List ℕ → Uid
encrypted_of nts decrypted uid = cond nts (decrypted_uid decrypted uid) Absent

-- the value of a header and its groups; root values are in the short format
unfoldable pub value_of : Header → Uid → Uid → Uid → Reply
value_of h authenticated encrypted untrusted =
    record {
      version = version_code h.version;
      leap = leap_of h.leap;
      server = is_server h.mode;
      stratum = h.stratum;
      poll = h.poll;
      precision = h.precision;
      rootdelay = duration (short_of h.rootdelay);
      rootdisp = duration (short_of h.rootdisp);
      refid = h.refid;
      origin = h.origin.0;
      receive = h.receive;
      transmit = h.transmit;
      kisses = kisses_of h;
      authenticated = authenticated;
      encrypted = encrypted;
      untrusted = untrusted;
    }

-- the byte form of a header that is read
unfoldable pub bytes_read : Bool → List ℕ → List ℕ → ℕ → List ℕ → Header → Option Reply
bytes_read nts uid p end decrypted h =
    cond (end_valid h.version p end && decrypted_valid nts decrypted)
    (Some (value_of h (group_of nts h.version p 48 end uid) (encrypted_of nts decrypted uid) (group_of nts h.version p end (length p) uid)))
    None

abbrev pub on_header : (Header → Option Reply) → Option Header → Option Reply
on_header f (Some h) = f h
on_header f None = None

-- the byte form: it rejects an undecodable header, an authenticated end that is no place, and broken decrypted fields
unfoldable pub read_of : Bool → List ℕ → List ℕ → ℕ → List ℕ → Option Reply
read_of nts uid p end decrypted = on_header (bytes_read nts uid p end decrypted) (header_of p)

-- the number in RULES: 1 for packet bytes that are not decodable; a reply that is read is not rejected here
abbrev pub refusal_of : Option Reply → Option ℕ
refusal_of (Some r) = None
refusal_of None = Some 1

abbrev pub is_response : DecodedMode → Bool
is_response Request = false
is_response Response = true

-- the decoded form: version 5, the client cookie as the 64 bits; it reports no reference identifier, as in the crate
-- promise 9.2: A V5 reply carries the caller's five answers.
--     edit: wire_incoming/v5_is_version_4, wire_incoming/unsynchronized_is_read_as_unknown
unfoldable pub decoded_of : DecodedReply → Reply
decoded_of d =
    record {
      version = 5;
      leap = d.leap;
      server = is_response d.mode;
      stratum = d.stratum;
      poll = d.poll;
      precision = d.precision;
      rootdelay = d.rootdelay;
      rootdisp = d.rootdisp;
      refid = named xnon;
      origin = d.cookie;
      receive = d.receive;
      transmit = d.transmit;
      kisses = d.kisses;
      authenticated = d.authenticated;
      encrypted = d.encrypted;
      untrusted = d.untrusted;
    }
