-- RULES, "The numbers": when a reply returns each number, and with which answer and record, in the order of the tests.
-- Of a reply of either form, only what is read from it counts.
-- Assumes nothing.
use Rattle.std.specs.Prelude.{◌≡◌, Bool, true, false, ◌||◌, cond, ℕ, ltb, eqb, Option, Some, None}
use Rattle.cookiestash.specs.StoreList.{store_list_of}
use Rattle.cookiestash.specs.Falling.{none_dropped, dropped_of}
use Rattle.version.specs.Upgrade.{expects_of}
use Rattle.association.specs.declared.Association.{Association}
use Rattle.association.specs.Record.{whole_of, with_state, with_stash}
use Rattle.wire_incoming.specs.declared.Reply.{Reply}
use Rattle.reply_rules.specs.declared.ReplyAnswer.TheVariants.{
  Measured,
  Undecodable,
  UnexpectedVersion,
  NeverSent,
  AlreadyMeasured,
  Expired,
  NoMatch,
  Rate,
  Denied,
  DeniedNts,
  Ntsn,
  OtherKiss,
  BadStratum,
  NotServer,
  NotWhole,
  BrokenList,
}
use Rattle.reply.specs.declared.ReplyOut.{ReplyOut}
use Rattle.reply_clauses.specs.After.{
  Arrival,
  live,
  no_live,
  never_sent,
  already_measured,
  expired,
  answers,
  denies,
  stepped,
  after_rate_kiss,
  after_denial,
  after_measured,
  measurement_of,
}
use Rattle.cookielist.specs.List.{list_broken}
use Rattle.reply.specs.Reply.{told, out}

-- the three numbers in 3's place (RULES, No. 3)
-- promise: no3.4
abbrev pub for_three : ℕ → Bool
for_three n = eqb n 12 || eqb n 13 || eqb n 14

module _ (a : Association) (read : Option Reply) (t : Arrival) where
  -- ---- the tests that a reply has passed, each with those before it

  -- neither 32 nor 1
  pub record Read (r : Reply) : Type 0 where
    pub whole : whole_of a ≡ true
    pub decoded : read ≡ Some r

  -- nor 33
  pub record Listed (r : Reply) : Type 0 where
    pub read_as : Read r
    pub cookies : list_broken a.settings.nts t.list ≡ false

  -- nor 2
  pub record Expected (r : Reply) : Type 0 where
    pub listed : Listed r
    pub version : expects_of a.state.version r.version ≡ true

  -- where 3 was returned before No. 3: no pending request, or its deadline < now
  -- promise: no3.4
  pub record WasThree (r : Reply) : Type 0 where
    pub expected : Expected r
    pub no_live_lem : no_live a.state.request t.time ≡ true

  -- nor 12, 13 and 14: a request is live
  pub record InTime (r : Reply) : Type 0 where
    pub expected : Expected r
    pub pending : live a.state.request t.time ≡ true

  -- nor 4: a matching reply
  pub record Matching (r : Reply) : Type 0 where
    pub in_time : InTime r
    pub identifiers : answers a.settings.nts a.state.request.id r ≡ true

  -- nor 5
  pub record Unlimited (r : Reply) : Type 0 where
    pub matching : Matching r
    pub rate : r.kisses.rate ≡ false

  -- nor 6 and 7
  pub record Undenied (r : Reply) : Type 0 where
    pub unlimited : Unlimited r
    pub denial : denies r ≡ false

  -- nor 8
  pub record Acknowledged (r : Reply) : Type 0 where
    pub undenied : Undenied r
    pub ntsn : r.kisses.ntsn ≡ false

  -- nor 9
  pub record Unkissed (r : Reply) : Type 0 where
    pub acknowledged : Acknowledged r
    pub kiss : r.kisses.any ≡ false

  -- nor 10
  pub record Ranked (r : Reply) : Type 0 where
    pub unkissed : Unkissed r
    pub stratum : ltb 16 r.stratum ≡ false

  -- ---- the numbers, each with its answer and the record after it
  -- promise: 11.1, no5.5
  pub data Given : ℕ → ReplyOut → Type 0 where
    not_whole : whole_of a ≡ false → Given 32 (out NotWhole a)
    undecodable : whole_of a ≡ true → read ≡ None → Given 1 (out Undecodable a)
    broken_list : {r : Reply} → Read r → list_broken a.settings.nts t.list ≡ true → Given 33 (out BrokenList a)
    unexpected_version : {r : Reply} → Listed r → expects_of a.state.version r.version ≡ false → Given 2 (out UnexpectedVersion a)
    never_sent_lem : {r : Reply} → Expected r → never_sent a.state.request ≡ true → Given 12 (out NeverSent a)
    already_measured_lem : {r : Reply} → Expected r → already_measured a.state.request ≡ true → Given 13 (out AlreadyMeasured a)
    late : {r : Reply} → Expected r → expired a.state.request t.time ≡ true → Given 14 (out Expired a)
    no_match : {r : Reply} → InTime r → answers a.settings.nts a.state.request.id r ≡ false → Given 4 (out NoMatch a)
    rate : {r : Reply} → Matching r → r.kisses.rate ≡ true → Given 5 (out Rate (with_state a (after_rate_kiss a.settings (stepped a.state))))
    denied : {r : Reply} → Unlimited r → denies r ≡ true → a.settings.nts ≡ false →
        Given 6 (out Denied (with_state a (after_denial (stepped a.state))))
    denied_nts : {r : Reply} → Unlimited r → denies r ≡ true → a.settings.nts ≡ true →
        Given 7 (out DeniedNts (with_state a (stepped a.state)))
    ntsn : {r : Reply} → Undenied r → r.kisses.ntsn ≡ true → Given 8 (out Ntsn (with_state a (stepped a.state)))
    other_kiss : {r : Reply} → Acknowledged r → r.kisses.any ≡ true → Given 9 (out OtherKiss (with_state a (stepped a.state)))
    bad_stratum : {r : Reply} → Unkissed r → ltb 16 r.stratum ≡ true → Given 10 (out BadStratum (with_state a (stepped a.state)))
    not_server : {r : Reply} → Ranked r → r.server ≡ false → Given 11 (out NotServer (with_state a (stepped a.state)))
    -- with NTS the cookies are stored in order, and what fell out is reported
    measured : {r : Reply} → Ranked r → r.server ≡ true →
        Given 0 (told (Measured (measurement_of r t.t1 t.t4 t.time))
        (cond a.settings.nts (dropped_of a.settings.capacity a.stash t.list) none_dropped)
        (with_stash (with_state a (after_measured (stepped a.state) r))
        (cond a.settings.nts (store_list_of a.settings.capacity a.stash t.list) a.stash)))
