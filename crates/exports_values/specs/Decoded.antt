-- The decoded form of a reply with its codes as numbers.
-- Assumes nothing.
use Rattle.std.specs.Prelude.{Bool, ◌&&◌, cond, ℕ, eqb, leb, Option, Some, None}
use Rattle.wire_header.specs.declared.Kisses.{Kisses}
use Rattle.wire_incoming.specs.declared.NtpLeapIndicator.{NtpLeapIndicator}
use Rattle.wire_incoming.specs.declared.NtpLeapIndicator.TheVariants as L
use Rattle.wire_incoming.specs.declared.DecodedMode.{DecodedMode}
use Rattle.wire_incoming.specs.declared.DecodedMode.TheVariants as M
use Rattle.wire_incoming.specs.declared.DecodedReply.{DecodedReply}
use Rattle.wire_incoming.specs.declared.Reply.{Reply}
use Rattle.wire_incoming.specs.Incoming.{decoded_of}
use Rattle.wire_groups.specs.declared.Uid.{Uid}
use Rattle.wire_groups.specs.declared.Uid.TheVariants as U
use Rattle.exports_values.specs.Codes.{is_bit, truth}
use Rattle.exports_values.specs.declared.CDecoded.{CDecoded}

-- 0 no warning, 1 a minute of 61 seconds, 2 one of 59, 3 unknown, 4 unsynchronized
abbrev pub leap_known : ℕ → Bool
leap_known n = leb n 4

abbrev pub leap_in : ℕ → NtpLeapIndicator
leap_in n = cond (eqb n 0) L.NoWarning (cond (eqb n 1) L.Leap61 (cond (eqb n 2) L.Leap59 (cond (eqb n 3) L.Unknown L.Unsynchronized)))

-- 0 request, 1 response
abbrev pub mode_in : ℕ → DecodedMode
mode_in n = cond (eqb n 0) M.Request M.Response

-- 0 absent, 1 agrees, 2 disagrees
abbrev pub uid_known : ℕ → Bool
uid_known n = leb n 2

abbrev pub uid_in : ℕ → Uid
uid_in n = cond (eqb n 0) U.Absent (cond (eqb n 1) U.Agree U.Disagree)

abbrev pub bits_ok : ℕ → ℕ → ℕ → ℕ → ℕ → Bool
bits_ok rate deny rstr ntsn any = is_bit rate && ((is_bit deny && is_bit rstr) && (is_bit ntsn && is_bit any))

abbrev pub kisses_in : ℕ → ℕ → ℕ → ℕ → ℕ → Kisses
kisses_in rate deny rstr ntsn any = record { rate = truth rate; deny = truth deny; rstr = truth rstr; ntsn = truth ntsn; any = truth any }

abbrev pub uids_ok : ℕ → ℕ → ℕ → Bool
uids_ok authenticated encrypted untrusted = (uid_known authenticated && uid_known encrypted) && uid_known untrusted

-- whether every code is known
-- promise exports.9: A decoded reply with an unknown code is undecodable: 1, after 32.
--     edit: exports_values/the_untrusted_finding_is_the_encrypted_one
unfoldable pub decoded_ok : CDecoded → Bool
decoded_ok d =
    (leap_known d.leap && is_bit d.mode) && (bits_ok d.rate d.deny d.rstr d.ntsn d.any && uids_ok d.authenticated d.encrypted d.untrusted)

-- promise: exports.7
unfoldable pub decoded_in : CDecoded → DecodedReply
decoded_in d =
    record {
      leap = leap_in d.leap;
      mode = mode_in d.mode;
      stratum = d.stratum;
      poll = d.poll;
      precision = d.precision;
      rootdelay = d.rootdelay;
      rootdisp = d.rootdisp;
      receive = d.receive;
      transmit = d.transmit;
      cookie = d.cookie;
      kisses = kisses_in d.rate d.deny d.rstr d.ntsn d.any;
      authenticated = uid_in d.authenticated;
      encrypted = uid_in d.encrypted;
      untrusted = uid_in d.untrusted;
    }

-- the decoded form, if every code is known
abbrev pub decoded_form : CDecoded → Option DecodedReply
decoded_form d = cond (decoded_ok d) (Some (decoded_in d)) None

-- a reply with an unknown code cannot be decoded
-- promise: exports.9
abbrev pub decoded_read : CDecoded → Option Reply
decoded_read d = cond (decoded_ok d) (Some (decoded_of (decoded_in d))) None
