-- The verdict of the rule is the one that its answer comes to: by the tests, one after the other.
-- Assumes nothing.
use mathlib.Core.Path.{◌≡◌, refl}
use mathlib.Core.Bool.{Bool, true, false, not, cond}
use lib.Dec.{ltb}
use Rattle.cookielist.specs.List.{list_broken}
use Rattle.version.specs.Upgrade.{expects_of}
use Rattle.association.specs.declared.Settings.{Settings}
use Rattle.association.specs.declared.State.{State}
use Rattle.wire_incoming.specs.declared.Reply.{Reply}
use Rattle.reply_clauses.specs.declared.Measurement.{Measurement}
use Rattle.reply_clauses.specs.After.{
  Arrival,
  never_sent,
  already_measured,
  expired,
  answers,
  denies,
  stepped,
  after_rate_kiss,
  after_denial,
  after_measured,
  measurement_of,
}
use Rattle.reply_rules.specs.declared.ReplyAnswer.TheVariants.{
  Measured,
  UnexpectedVersion,
  NeverSent,
  AlreadyMeasured,
  Expired,
  NoMatch,
  Rate,
  Denied,
  DeniedNts,
  Ntsn,
  OtherKiss,
  BadStratum,
  NotServer,
  BrokenList,
}
use Rattle.reply_rules.specs.declared.Verdict.{Verdict}
use Rattle.reply_rules.specs.Judge.{leaves, matched_of, judge_of}
use Rattle.reply_rules.specs.Told.{after_of, stores_of, told_of}

module _ (g : Settings) (s : State) (r : Reply) where
  abbrev after_match : (rate denied nts ntsn any high other : Bool) → Measurement → Verdict
  after_match rate denied nts ntsn any high other m =
      cond rate (leaves Rate (after_rate_kiss g (stepped s)))
      (cond denied
      (cond nts (leaves DeniedNts (stepped s)) (leaves Denied (after_denial (stepped s))))
      (cond ntsn (leaves Ntsn (stepped s))
      (cond any (leaves OtherKiss (stepped s))
      (cond high (leaves BadStratum (stepped s))
      (cond other (leaves NotServer (stepped s))
      (record { answer = Measured m; state = after_measured (stepped s) r; stores = g.nts }))))))

  match_told : (rate denied nts ntsn any high other : Bool) (m : Measurement) → let v = after_match rate denied nts ntsn any high other m in
      v ≡ told_of g s r v.answer
  unfolding told_of after_of stores_of
  match_told true b n c d e f m = refl
  match_told false true true c d e f m = refl
  match_told false true false c d e f m = refl
  match_told false false n true d e f m = refl
  match_told false false n false true e f m = refl
  match_told false false n false false true f m = refl
  match_told false false n false false false true m = refl
  match_told false false n false false false false m = refl

  abbrev before_match : (broken version never already late unmatched : Bool) → Verdict → Verdict
  before_match broken version never already late unmatched v =
      cond broken (leaves BrokenList s)
      (cond version (leaves UnexpectedVersion s)
      (cond never (leaves NeverSent s)
      (cond already (leaves AlreadyMeasured s)
      (cond late (leaves Expired s)
      (cond unmatched (leaves NoMatch s) v)))))

  all_told : (broken version never already late unmatched : Bool) (v : Verdict) → v ≡ told_of g s r v.answer →
      let w = before_match broken version never already late unmatched v in w ≡ told_of g s r w.answer
  unfolding told_of after_of stores_of
  all_told true a b c d e v h = refl
  all_told false true b c d e v h = refl
  all_told false false true c d e v h = refl
  all_told false false false true d e v h = refl
  all_told false false false false true e v h = refl
  all_told false false false false false true v h = refl
  all_told false false false false false false v h = h

  pub judged_told : (t : Arrival) → judge_of g s r t ≡ told_of g s r (judge_of g s r t).answer
  unfolding judge_of matched_of
  judged_told t =
      all_told
      (list_broken g.nts t.list)
      (not (expects_of s.version r.version))
      (never_sent s.request)
      (already_measured s.request)
      (expired s.request t.time)
      (not (answers g.nts s.request.id r))
      _
      (match_told r.kisses.rate (denies r) g.nts r.kisses.ntsn r.kisses.any (ltb 16 r.stratum) (not r.server)
      (measurement_of r t.t1 t.t4 t.time))
