-- Over any log from a new association the cookies handed out, byte for byte as the lent buffer has them, are some of the cookies stored, in order, each place
-- used at most once (RULES, No. 14).
-- Of each call: what it hands out and what the stash holds after it are some of what the stash held before and of what the call stores, in order.
-- Assumes nothing.
use mathlib.Core.Path.{◌≡◌, refl, sym, ap, subst, ◌∙◌}
use mathlib.Core.Bool.{Bool, true, false, ◌&&◌, cond}
use mathlib.Core.List.{List, [], ◌∷◌, ◌++◌, map, append-nil, append_assoc}
use mathlib.Core.Logic.{◌⊎◌, inl, inr}
use Prim.Native.Nat.{ℕ, ◌≤◌, ◌<◌}
use native.Mathlib.Omega.{arith}
use lib.Dec.{eqb}
use lib.ListN.{length, take}
use borrow.Author.Tests.{lt-ltb, le-leb}
use Rattle.words.proofs.Tests.{passes, when, unless}
use Rattle.cookielist.specs.List.{cookies_in}
use Rattle.cookiestash.specs.Stash as stash
use Rattle.cookiestash.specs.Stash.{in_range, get_of, slot_or_empty}
use Rattle.cookiestash.specs.Whole.{seen_of}
use Rattle.cookiestash.specs.Queue.{cookie_of, cookies}
use Rattle.cookiestash.specs.StoreList.{store_list_of}
use Rattle.cookiestash.specs.Handed.{wrote}
use Rattle.version.specs.declared.ProtocolVersion.{ProtocolVersion}
use Rattle.version.specs.declared.ProtocolVersion.TheVariants.{V4, Upgrading, Upgraded, V5}
use Rattle.version.specs.Send.{kind_of}
use Rattle.association.specs.declared.Settings.{Settings}
use Rattle.association.specs.declared.Association.{Association}
use Rattle.association.specs.declared.NewOut.{NewOut}
use Rattle.association.specs.Record.{blank_of, fresh_of, with_stash}
use Rattle.association.specs.Whole.{Whole}
use Rattle.association.specs.New as new
use Rattle.association.specs.Numbers as A
use Rattle.association.proofs.New.{capacity_in}
use Rattle.association.proofs.Numbers as new-numbers
use Rattle.timer_rules.specs.Decide.{oldest_len}
use Rattle.timer_rules.proofs.Count.{asked_short, oldest_is}
use Rattle.timer_rules.specs.Poll.{tried_of}
use Rattle.timer.specs.declared.TimerOut.{TimerOut}
use Rattle.timer.specs.Timer.{handed, buffer_of}
use Rattle.timer.specs.Numbers as T
use Rattle.timer.proofs.Numbers as timer-numbers
use Rattle.wire_request.specs.Request.{has_nts}
use Rattle.std.specs.Prelude.{Option}
use Rattle.wire_incoming.specs.declared.Reply.{Reply}
use Rattle.reply_rules.specs.Answer as reply
use Rattle.reply.specs.declared.ReplyOut.{ReplyOut}
use Rattle.reply.specs.Numbers as R
use Rattle.reply.proofs.Numbers as reply-numbers
use Rattle.laws_log.specs.Machine as M
use Rattle.laws.specs.Association.{TimerIn, ReplyIn, arrival_of, read_as, rule, machine}
use Rattle.laws.proofs.Obeys.{laws}
use Rattle.laws.proofs.Bridge.{Ran, ran_is_run}
use Rattle.laws.specs.Some.{SomeOf, pass, Placed}
use Rattle.laws.specs.Cookies.{cookies_of, stored_on, stored_by, stored_in, stored_from, handed_by, handed_out}
use Rattle.laws.proofs.Some.{some_none, some_all, some_before, some_behind, some_front, some_some, placed}
use Rattle.laws.proofs.Stash.{Holds, new_holds, First, first, handed_bytes, Holding, store_some}

-- ---- one call

-- what it hands out and what is held after it are, in order, some of what was held and of what it stores
pub record Went (inside : List (List ℕ)) (nts : Bool) (d : M.Done machine) (next : Association) : Type 0 where
  pub left : List (List ℕ)
  pub holds : Holds next.settings.capacity next.stash left
  pub order : SomeOf (handed_by d ++ left) (inside ++ stored_by nts d)

-- a call that leaves the stash
stays : {inside : List (List ℕ)} {nts : Bool} {d : M.Done machine} {next : Association} → handed_by d ≡ [] →
    Holds next.settings.capacity next.stash inside → Went inside nts d next
stays {inside} {nts} {d} e h =
    record {
      left = inside;
      holds = h;
      order = subst (λ (hs : List (List ℕ)). SomeOf (hs ++ inside) (inside ++ stored_by nts d)) (sym e)
          (some_front inside (stored_by nts d));
    }

-- a call that takes the first, which is handed out or lost
first_taken : {inside : List (List ℕ)} (c : List ℕ) (rest : List (List ℕ)) → inside ≡ c ∷ rest → SomeOf (c ∷ rest) (inside ++ [])
first_taken c rest e = rw (e, append-nil) (some_all (c ∷ rest))

first_lost : {inside : List (List ℕ)} (c : List ℕ) (rest : List (List ℕ)) → inside ≡ c ∷ rest → SomeOf rest (inside ++ [])
first_lost c rest e = some_some (pass (some_all rest)) (first_taken c rest e)

-- a poll is of an NTS kind exactly with NTS
nts_kind : (v : ProtocolVersion) (nts : Bool) → has_nts (kind_of v nts) ≡ nts
nts_kind V4 true = refl
nts_kind V4 false = refl
nts_kind (Upgrading tries) true = refl
nts_kind (Upgrading tries) false = refl
nts_kind Upgraded true = refl
nts_kind Upgraded false = refl
nts_kind V5 true = refl
nts_kind V5 false = refl

not_zero : (n : ℕ) → 0 < n → n ≡ 0 → ⊥
not_zero n h e = omega arith

module _ (a : Association) (inside : List (List ℕ)) (h : Holds a.settings.capacity a.stash inside) where
  abbrev cap : ℕ
  cap = a.settings.capacity

  module _ (t : TimerIn) where
    -- what is done by a timer that gives this
    abbrev done : TimerOut → M.Done machine
    done o = M.of_timer t (o.answer, wrote (slot_or_empty (get_of cap a.stash)).bytes (handed o.answer) t.buffer)

    -- the oldest is taken
    oldest : T.Taken a t.poll (length t.buffer) → First cap a.stash inside
    oldest k = first cap a.stash (timer-numbers.in_range_lem a k.tried.accepted.whole) h.room k.some inside h.held

    timed : {n : ℕ} {o : TimerOut} → T.Given a t.poll (length t.buffer) n o → Went inside a.settings.nts (done o) o.association
    timed (T.not_whole w) = stays refl h
    timed (T.short_buffer_lem w s) = stays refl h
    timed (T.demobilize c o d) = stays refl h
    timed (T.reset c o d) = stays refl h
    timed (T.no_cookie_lem t n k) = stays refl h
    timed (T.too_large k z) = let f = oldest k in record { left = f.rest; holds = f.holds; order = first_lost f.cookie f.rest f.parts }
    timed (T.sent g n) = stays (unless _ _ (nts_kind (tried_of a.state).version.kind a.settings.nts ∙ n)) h
    timed (T.sent_nts k z) =
        let f = oldest k in
        let x = slot_or_empty (get_of cap a.stash) in
        let n = oldest_len (seen_of cap a.stash) in
        let long : n ≡ x.len = oldest_is cap a.stash in
        let short : n ≤ 724 = asked_short _ n (not_zero _ z) in
        let bytes : take n (wrote x.bytes n t.buffer) ≡ f.cookie =
        subst (λ (n : ℕ). take n (wrote x.bytes n t.buffer) ≡ f.cookie) (sym long) (handed_bytes x f.cookie t.buffer f.slot (omega arith)) in
        let e = when _ _ (nts_kind (tried_of a.state).version.kind a.settings.nts ∙ k.nts) ∙ ap (λ (c : List ℕ). c ∷ []) bytes in
        record {
          left = f.rest;
          holds = f.holds;
          order = subst (λ (hs : List (List ℕ)). SomeOf (hs ++ f.rest) (inside ++ [])) (sym e) (first_taken f.cookie f.rest f.parts);
        }

    timer_went : Went inside a.settings.nts (M.made machine a (M.timer t)) (M.step machine a (M.timer t))
    unfolding buffer_of
    timer_went = timed (timer-numbers.given a t.poll (length t.buffer))

  -- a list that is stored with NTS
  listed : (nts : Bool) (list : List ℕ) → in_range cap a.stash ≡ true →
      Holding cap (cond nts (store_list_of cap a.stash list) a.stash) (inside ++ cond nts (cookies_of (cookies_in list)) [])
  listed true list i = store_some cap a.stash inside i h list
  listed false list i = record { inside = inside; holds = h; order = some_front inside [] }

  module _ (r : ReplyIn) where
    abbrev read : Option Reply
    read = read_as a.settings a.state.request r

    replied : {n : ℕ} {o : ReplyOut} → R.Given a read (arrival_of r) n o → Went inside a.settings.nts (M.of_reply r o.replied) o.association
    replied (R.not_whole e) = stays refl h
    replied (R.undecodable w e) = stays refl h
    replied (R.broken_list d e) = stays refl h
    replied (R.unexpected_version l e) = stays refl h
    replied (R.never_sent_lem x e) = stays refl h
    replied (R.already_measured_lem x e) = stays refl h
    replied (R.late x e) = stays refl h
    replied (R.no_match i e) = stays refl h
    replied (R.rate m e) = stays refl h
    replied (R.denied u e f) = stays refl h
    replied (R.denied_nts u e f) = stays refl h
    replied (R.ntsn v e) = stays refl h
    replied (R.other_kiss w e) = stays refl h
    replied (R.bad_stratum k e) = stays refl h
    replied (R.not_server s e) = stays refl h
    replied (R.measured s e) =
        let whole = s.unkissed.acknowledged.undenied.unlimited.matching.in_time.expected.listed.read_as.whole in
        let k = listed a.settings.nts (arrival_of r).list (timer-numbers.in_range_lem a whole) in
        record { left = k.inside; holds = k.holds; order = k.order }

  pub went : (c : M.Call rule) → Went inside a.settings.nts (M.made machine a c) (M.step machine a c)
  went (M.timer t) = timer_went t
  went (M.reply r) = replied r (reply-numbers.given a (read r) (arrival_of r))

-- ---- a log from any record

-- one call, and those behind it
pub joined : (h left inside s more : List (List ℕ)) {later : List (List ℕ)} → SomeOf (h ++ left) (inside ++ s) → SomeOf later (left ++ more) →
    SomeOf (h ++ later) (inside ++ (s ++ more))
joined h left inside s more one rest = some_some (some_behind h rest) (rw (append_assoc h left more, append_assoc inside s more) at (some_before one more))

pub handed_some : (calls : List (M.Call rule)) (a : Association) (inside : List (List ℕ)) → Holds a.settings.capacity a.stash inside →
    let done = M.run machine a calls in SomeOf (handed_out done) (inside ++ stored_in a.settings.nts done)
handed_some [] a inside h = some_none (inside ++ [])
handed_some (c ∷ cs) a inside h =
    let w = went a inside h c in
    let more = M.run machine (M.step machine a c) cs in
    let rest = handed_some cs (M.step machine a c) w.left w.holds in
    let d = M.made machine a c in
    joined (handed_by d) w.left inside (stored_by a.settings.nts d) (stored_in a.settings.nts more) w.order
    (subst (λ (g : Settings). SomeOf (handed_out more) (w.left ++ stored_in g.nts more)) (laws.settings_kept a c) rest)

-- from any whole record that holds these cookies: some of them and of what was stored since
module _ (a : Association) (w : Whole a) (inside : List (List ℕ)) (held : cookies a.settings.capacity a.stash ≡ map cookie_of inside) where
  -- promise: no14.9
  pub any_cookie_order : (calls : List (M.Call rule)) → let done = M.run machine a calls in SomeOf (handed_out done) (inside ++ stored_in a.settings.nts done)
  any_cookie_order calls = handed_some calls a inside (record { held = held; room = w.stash.room })

  -- promise: no14.9
  pub code_any_cookie_order : {b : Association} {calls : List (M.Call rule)} {done : List (M.Done machine)} → Ran a calls done b →
      SomeOf (handed_out done) (inside ++ stored_in a.settings.nts done)
  code_any_cookie_order {calls} r = rw (ran_is_run r).0 (any_cookie_order calls)

-- ---- a log from a new association

module _ (cap : ℕ) (some : 0 < cap) (few : cap ≤ 8) where
  new_range : in_range cap stash.new_of ≡ true
  unfolding in_range stash.new_of
  new_range = passes _ (le-leb cap 8 few) ∙ passes _ (lt-ltb 0 cap some) ∙ le-leb 0 cap (omega arith)

  -- with nothing stored yet
  empty : Holding cap stash.new_of []
  empty = record { inside = []; holds = new_holds cap few; order = some_none [] }

  -- and with a first list
  filled : (list : List ℕ) → Holding cap (store_list_of cap stash.new_of list) (cookies_of (cookies_in list))
  filled list = store_some cap stash.new_of [] new_range (new_holds cap few) list

-- what a new one holds is some of its first list
module _ (s : Settings) (list : List ℕ) where
  new_by : {n : ℕ} {o : NewOut} → A.Given s list n o →
      Holding o.association.settings.capacity o.association.stash (stored_on (new.number_of o.answer) s.nts list)
  unfolding blank_of fresh_of new.made_of
  new_by (A.bad_settings v) = record { inside = []; holds = new_holds 0 (omega arith); order = some_none [] }
  new_by (A.broken_list v b) = record { inside = []; holds = new_holds 0 (omega arith); order = some_none [] }
  new_by (A.retired v b u) = record { inside = []; holds = new_holds 0 (omega arith); order = some_none [] }
  new_by (A.made v b u) = by s.nts
    where
      by : (nts : Bool) → let a = cond nts (with_stash (fresh_of s) (store_list_of s.capacity (fresh_of s).stash list)) (fresh_of s) in
          Holding a.settings.capacity a.stash (cond nts (cookies_of (cookies_in list)) [])
      by true = let c = capacity_in s v in filled s.capacity (omega (arith, c.0)) c.1 list
      by false = let c = capacity_in s v in empty s.capacity (omega (arith, c.0)) c.1

  -- it has the settings that were given, or is blank, without NTS
  nts_by : {n : ℕ} {o : NewOut} → A.Given s list n o → (o.association.settings.nts ≡ s.nts) ⊎ (o.association.settings.nts ≡ false)
  unfolding blank_of fresh_of new.made_of
  nts_by (A.bad_settings v) = inr refl
  nts_by (A.broken_list v b) = inr refl
  nts_by (A.retired v b u) = inr refl
  nts_by (A.made v b u) = inl (by s.nts)
    where
      by : (nts : Bool) → (cond nts (with_stash (fresh_of s) (store_list_of s.capacity (fresh_of s).stash list)) (fresh_of s)).settings.nts ≡ s.nts
      by true = refl
      by false = refl

-- without NTS nothing is stored
none_stored : (ds : List (M.Done machine)) → stored_in false ds ≡ []
none_stored [] = refl
none_stored (M.of_timer t x ∷ ds) = none_stored ds
none_stored (M.of_reply r x ∷ ds) = by (eqb (reply.number_of x.answer) 0) (none_stored ds)
  where
    by : (b : Bool) → stored_in false ds ≡ [] → cond (b && false) (cookies_of (cookies_in (arrival_of r).list)) [] ++ stored_in false ds ≡ []
    by true e = e
    by false e = e

stored_less : (b c : Bool) (ds : List (M.Done machine)) → (b ≡ c) ⊎ (b ≡ false) → SomeOf (stored_in b ds) (stored_in c ds)
stored_less b c ds (inl e) = subst (λ (x : Bool). SomeOf (stored_in x ds) (stored_in c ds)) (sym e) (some_all (stored_in c ds))
stored_less b c ds (inr e) =
    subst (λ (x : Bool). SomeOf (stored_in x ds) (stored_in c ds)) (sym e)
    (subst (λ (xs : List (List ℕ)). SomeOf xs (stored_in c ds)) (sym (none_stored ds)) (some_none (stored_in c ds)))

module _ (s : Settings) (list : List ℕ) where
  abbrev pub made : Association
  made = (new.new_of s list).association

  -- what is some of what a new one holds and of what is stored since is some of the order of storing, whatever `new` answered
  pub from_new : {handed : List (List ℕ)} (done : List (M.Done machine)) →
      ((inside : List (List ℕ)) → Holds made.settings.capacity made.stash inside → SomeOf handed (inside ++ stored_in made.settings.nts done)) →
      SomeOf handed (stored_from s list done)
  from_new done some =
      let k = new_by s list (new-numbers.given s list) in
      some_some (some k.inside k.holds)
      (some_some (some_before k.order (stored_in made.settings.nts done))
      (some_behind (stored_on (new.number_of (new.new_of s list).answer) s.nts list)
      (stored_less made.settings.nts s.nts done (nts_by s list (new-numbers.given s list)))))

  -- promise: no14.8
  pub cookie_order : (calls : List (M.Call rule)) → let done = M.run machine made calls in SomeOf (handed_out done) (stored_from s list done)
  cookie_order calls = from_new (M.run machine made calls) (handed_some calls made)

  -- by the places in the order of storing, which rise
  -- promise: no14.8
  pub cookie_places : (calls : List (M.Call rule)) → let done = M.run machine made calls in Placed [] (handed_out done) (stored_from s list done)
  cookie_places calls = placed [] (cookie_order calls)

  -- and over any run of the code's calls
  -- promise: no14.8
  pub code_cookie_order : {b : Association} {calls : List (M.Call rule)} {done : List (M.Done machine)} → Ran made calls done b →
      SomeOf (handed_out done) (stored_from s list done)
  code_cookie_order {calls} r = rw (ran_is_run r).0 (cookie_order calls)
