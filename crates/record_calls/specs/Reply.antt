-- The reply on a record in lent bytes: the reply on what they unpack to, packed again. Bytes that are no record: 32, and nothing changes.
-- Assumes nothing.
use Rattle.std.specs.Prelude.{cond, List, ℕ, Option, Some}
use Rattle.cookiestash.specs.Falling.{none_dropped}
use Rattle.wire_incoming.specs.declared.Reply.{Reply}
use Rattle.wire_incoming.specs.declared.DecodedReply.{DecodedReply}
use Rattle.wire_incoming.specs.Incoming.{decoded_of}
use Rattle.reply_clauses.specs.After.{Arrival}
use Rattle.reply_rules.specs.declared.ReplyAnswer.{ReplyAnswer}
use Rattle.reply_rules.specs.declared.ReplyAnswer.TheVariants.{NotWhole}
use Rattle.reply_rules.specs.declared.Verdict.{Verdict}
use Rattle.reply_rules.specs.Judge.{read_with}
use Rattle.reply.specs.declared.Replied.{Replied}
use Rattle.reply.specs.declared.ReplyOut.{ReplyOut}
use Rattle.reply.specs.Reply.{replied_of}
use Rattle.record_stash.specs.Slots.{Refilled, refilled_in}
use Rattle.record_bytes.specs.Record.{ok, unpacked, packed, stored_state}

pub record ReplyCall : Type 0 where
  pub replied : Replied
  pub bytes : List ℕ

abbrev pub gave : Replied → List ℕ → ReplyCall
gave r b = record { replied = r; bytes = b }

abbrev pub reply_packed : ReplyOut → ReplyCall
reply_packed o = gave o.replied (packed o.association)

-- what is returned for bytes that are no record
abbrev pub no_record : Replied
no_record = record { answer = NotWhole; dropped = none_dropped }

-- from what was read, in any form
-- promise: exports.3
unfoldable pub replied_call : List ℕ → Option Reply → Arrival → ReplyCall
replied_call b read t = cond (ok b) (reply_packed (replied_of (unpacked b) read t)) (gave no_record b)

-- the byte form (V3, V4)
abbrev pub reply_call : List ℕ → List ℕ → ℕ → List ℕ → Arrival → ReplyCall
reply_call b packet end decrypted t = replied_call b (read_with (unpacked b).settings (unpacked b).state packet end decrypted) t

-- the decoded form (V5 only)
abbrev pub reply_decoded_call : List ℕ → DecodedReply → Arrival → ReplyCall
reply_decoded_call b d t = replied_call b (Some (decoded_of d)) t

-- a verdict, carried out on the record in place: its state, then the cookies of the list
abbrev pub answered : ReplyAnswer → Refilled → ReplyCall
answered r f = gave (record { answer = r; dropped = f.dropped }) f.bytes

unfoldable pub settled_in : ℕ → Verdict → List ℕ → List ℕ → ReplyCall
settled_in cap v list b = answered v.answer (refilled_in cap v.stores list (stored_state b v.state))
