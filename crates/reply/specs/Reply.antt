-- RULES, part 11: the answer and the next record of both forms of the call.
-- Assumes nothing.
use Rattle.std.specs.Prelude.{cond, List, ℕ, Option, Some}
use Rattle.cookiestash.specs.declared.Dropped.{Dropped}
use Rattle.cookiestash.specs.StoreList.{store_list_of}
use Rattle.cookiestash.specs.Falling.{none_dropped, dropped_of}
use Rattle.cookiestash.specs.Whole.{seen_of}
use Rattle.association.specs.declared.Association.{Association}
use Rattle.wire_incoming.specs.declared.Reply.{Reply}
use Rattle.wire_incoming.specs.declared.DecodedReply.{DecodedReply}
use Rattle.wire_incoming.specs.Incoming.{decoded_of}
use Rattle.reply_rules.specs.declared.ReplyAnswer.{ReplyAnswer}
use Rattle.reply_rules.specs.declared.Verdict.{Verdict}
use Rattle.reply_clauses.specs.After.{Arrival}
use Rattle.reply_rules.specs.Judge.{verdict_of, read_with}
use Rattle.reply.specs.declared.ReplyOut.{ReplyOut}

-- with what fell out of the stash (RULES, No. 5)
-- promise: no5.5
abbrev pub told : ReplyAnswer → Dropped → Association → ReplyOut
told r d a = record { replied = record { answer = r; dropped = d }; association = a }

-- an answer with which nothing is stored
abbrev pub out : ReplyAnswer → Association → ReplyOut
out r a = told r none_dropped a

-- the record after a verdict: the settings, the stash, with the list's cookies in order if they are stored, and the next state
-- promise: 11.8, no5.5, no5.6 (its record), no12.2
abbrev pub judged : Association → List ℕ → Verdict → ReplyOut
judged a list v =
    told v.answer (cond v.stores (dropped_of a.settings.capacity a.stash list) none_dropped)
    (record { settings = a.settings; stash = cond v.stores (store_list_of a.settings.capacity a.stash list) a.stash; state = v.state })

-- the result of either form, from what was read
-- promise: 11.1
unfoldable pub replied_of : Association → Option Reply → Arrival → ReplyOut
replied_of a read t = judged a t.list (verdict_of a.settings a.state (seen_of a.settings.capacity a.stash) read t)

-- the byte form (V3, V4)
-- promise 11.10: The association that the caller lends by reference is updated.
--     edit: reply/the_lent_record_is_left
-- promise: 11.1
abbrev pub reply_of : Association → List ℕ → ℕ → List ℕ → Arrival → ReplyOut
reply_of a packet end decrypted t = replied_of a (read_with a.settings a.state packet end decrypted) t

-- the decoded form (V5 only)
-- promise: 11.1, 11.10
abbrev pub reply_decoded_of : Association → DecodedReply → Arrival → ReplyOut
reply_decoded_of a d t = replied_of a (Some (decoded_of d)) t
