-- `wire_groups::decrypted_uid` meets its contract: every field starts before the end of the bytes.
-- Assumes nothing.
use Rattle.std.proofs.Common.{ap, ◌∙◌, length}
use lib.Dec.{lit≤}
use Rattle.wire_fields.specs.Walk.{decrypted_walk, fields_of, bodies_of}
use Rattle.wire_fields.proofs.Sound.{within_all}
use Rattle.wire_groups.specs.Matching.{uid_kind, uid_of, uids_within, decrypted_uid}
use Rattle.wire_groups.proofs.Groups.{uids_are}
use Rattle.wire_groups.proofs.decrypted_uid.Goals as goal

pub returns : goal.returns
unfolding decrypted_uid
returns c =
    let p = c.args.p.now in
    let read = ap (uids_within 0 (length p)) c.decrypted.ensures.fields ∙ uids_are p 0 (length p) (fields_of (decrypted_walk p)) in
    let all = ap (bodies_of uid_kind p) (within_all p 4 0 (lit≤ tt) 0) in
    c.uid_among.ensures ∙ ap (uid_of c.args.uid) (read ∙ all)
