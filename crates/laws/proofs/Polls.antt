-- No poll that is sent along a log has an exponent below what the remote minimum began with, since that never falls (RULES, No. 7); so of a plain association
-- none is below
-- poll min, and of a metered one none is below 8 (RULES, No. 11), whatever poll is desired and whatever RATE or a V5 reply says.
-- Assumes nothing.
use mathlib.Core.Path.{◌≡◌, refl, sym, ap, subst, ◌∙◌}
use mathlib.Core.Bool.{Bool, true, false, cond}
use mathlib.Core.List.{List, [], ◌∷◌, ◌++◌}
use Prim.Native.Nat.{ℕ}
use lib.Dec.{eqb}
use lib.IntN.{ℤ, pos}
use lib.ListN.{length}
use lib.Signed.{◌≤ℤ◌, ≤ℤ_refl, lt_z_no}
use borrow.Author.Tests.{eqb-true, eqb-false}
use Rattle.time_types.specs.declared.PollInterval.{PollInterval}
use Rattle.time_types.proofs.Rate.{≤ℤ_trans, larger_right}
use Rattle.cookiestash.specs.StoreList.{store_list_of}
use Rattle.association.specs.declared.Settings.{Settings}
use Rattle.association.specs.declared.Polls.{Polls}
use Rattle.association.specs.declared.Association.{Association}
use Rattle.association.specs.declared.NewOut.{NewOut}
use Rattle.association.specs.Settings.{settings_valid}
use Rattle.association.specs.Record.{blank_of, fresh_of, with_stash, whole_seen, whole_of}
use Rattle.association.specs.New as new
use Rattle.association.specs.Numbers as plain
use Rattle.association.specs.Numbers.{bad_settings, broken_list, made}
use Rattle.association.proofs.Numbers as plain-numbers
use Rattle.timer_rules.specs.declared.TimerInput.{TimerInput}
use Rattle.timer_rules.specs.Answer as timer
use Rattle.timer_rules.specs.Poll.{tried_of, poll_of}
use Rattle.timer.specs.declared.TimerOut.{TimerOut}
use Rattle.timer.specs.Numbers as T
use Rattle.timer.specs.Numbers.{not_whole, short_buffer_lem, demobilize, reset, no_cookie_lem, too_large, sent, sent_nts}
use Rattle.timer.proofs.Numbers as timer-numbers
use Rattle.timer.proofs.After.{rang}
use Rattle.reply.specs.Numbers as R
use Rattle.reply.proofs.Numbers as reply-numbers
use Rattle.reply.proofs.After as reply-after
use Rattle.laws_log.specs.Machine as M
use Rattle.laws.specs.Association.{arrival_of, read_as, rule, timed, machine}
use Rattle.laws.proofs.Bridge.{Ran, ran_is_run}
use Rattle.laws.specs.Rate.{remote_of}
use Rattle.laws.proofs.Along.{along_with}
use Rattle.laws.proofs.Rate.{never_falls}
use Rattle.association_metered.specs.Profile.{number_of, profile_of, metered_of}
use Rattle.association_metered.proofs.Plain.{same_record, refused_blank, settled, plain_made}
use Rattle.laws.specs.Polls.{last_of, AtLeast, AllAtLeast, Sparing}

-- ---- one call

-- one answer more
and_one : (least : ℤ) (done : List (M.Done machine)) (d : M.Done machine) → AllAtLeast least done → AllAtLeast least (d ∷ []) →
    AllAtLeast least (done ++ d ∷ [])
and_one least [] d p q = q
and_one least (M.of_timer t x ∷ ds) d p q = (p.0, and_one least ds d p.1 q)
and_one least (M.of_reply r x ∷ ds) d p q = and_one least ds d p q

-- a poll that is sent is at least the remote minimum
poll_least : {least : ℤ} (desired remote : PollInterval) → least ≤ℤ remote.0 → least ≤ℤ (poll_of desired remote).0
poll_least desired remote h = ≤ℤ_trans h (larger_right desired.0 remote.0)

module _ (least : ℤ) (a : Association) (i : TimerInput) (room : ℕ) (h : least ≤ℤ remote_of a) where
  sent_least : {n : ℕ} {o : TimerOut} → T.Given a i room n o → AtLeast least o.answer
  unfolding tried_of
  sent_least (not_whole w) = tt
  sent_least (short_buffer_lem w s) = tt
  sent_least (demobilize c o d) = tt
  sent_least (reset c o d) = tt
  sent_least (no_cookie_lem t n k) = tt
  sent_least (too_large k z) = tt
  sent_least (sent t n) = poll_least i.desired a.state.polls.remote h
  sent_least (sent_nts k z) = poll_least i.desired a.state.polls.remote h

-- the last poll is the one that was sent, or the one before
last_least : (least : ℤ) (b : Bool) (desired : PollInterval) (p : Polls) → least ≤ℤ p.remote.0 → least ≤ℤ p.last.0 →
    least ≤ℤ (cond b (record { last = poll_of desired p.remote; remote = p.remote }) p).last.0
last_least least true desired p h k = poll_least desired p.remote h
last_least least false desired p h k = k

-- ---- a log from any record

-- what is kept along a log: no poll was below it, and neither is the remote minimum
pub record Held (least : ℤ) (done : List (M.Done machine)) (a : Association) : Type 0 where
  pub sparing : Sparing least done a
  pub remote : least ≤ℤ remote_of a

pub held_kept : (least : ℤ) (done : List (M.Done machine)) (a : Association) (c : M.Call rule) → Held least done a →
    Held least (done ++ M.made machine a c ∷ []) (M.step machine a c)
held_kept least done a (M.timer t) k =
    let r = rang a t.poll (length t.buffer) in
    let sent = eqb (timer.number_of (timed a t).0.0) 20 in
    let one = sent_least least a t.poll (length t.buffer) k.remote (timer-numbers.given a t.poll (length t.buffer)) in
    record {
      sparing =
          record {
            sent = and_one least done _ k.sparing.sent (one, tt);
            last = subst (λ (p : Polls). least ≤ℤ p.last.0) (sym r.polls)
                (last_least least sent t.poll.desired a.state.polls k.remote k.sparing.last);
          };
      remote = ≤ℤ_trans k.remote (never_falls a (M.timer t ∷ []));
    }
held_kept least done a (M.reply r) k =
    let read = read_as a.settings a.state.request r in
    let p = reply-after.paced a read (arrival_of r) (reply-numbers.given a read (arrival_of r)) in
    record {
      sparing =
          record {
            sent = and_one least done _ k.sparing.sent tt;
            last = subst (λ (z : PollInterval). least ≤ℤ z.0) (sym p.last) k.sparing.last;
          };
      remote = ≤ℤ_trans k.remote (never_falls a (M.reply r ∷ []));
    }

-- what is below the remote minimum and the last poll stays below every poll of any log
pub sparing_from : (least : ℤ) (a : Association) → least ≤ℤ remote_of a → least ≤ℤ last_of a → (calls : List (M.Call rule)) →
    Sparing least (M.run machine a calls) (M.after machine a calls)
sparing_from least a h k calls =
    (along_with machine (Held least) (held_kept least) a (record { sparing = record { sent = tt; last = k }; remote = h }) calls).sparing

-- ---- a log from a new association

made_polls : (s : Settings) (list : List ℕ) → (new.made_of s list).state.polls ≡ record { last = s.min; remote = s.min }
unfolding new.made_of fresh_of
made_polls s list = by s.nts
  where
    by : (n : Bool) → (cond n (with_stash (fresh_of s) (store_list_of s.capacity (fresh_of s).stash list)) (fresh_of s)).state.polls
        ≡ record { last = s.min; remote = s.min }
    by true = refl
    by false = refl

-- both poll values of what `new` makes are at min
new_polls : (s : Settings) (list : List ℕ) → new.number_of (new.new_of s list).answer ≡ 0 →
    (new.new_of s list).association.state.polls ≡ record { last = s.min; remote = s.min }
new_polls s list e = by ((plain-numbers.number s list 0).0 e)
  where
    by : ((o : NewOut) × plain.Given s list 0 o) → (new.new_of s list).association.state.polls ≡ record { last = s.min; remote = s.min }
    by (_, made v b u) = ap (λ (o : NewOut). o.association.state.polls) (plain-numbers.only s list (made v b u)) ∙ made_polls s list

-- over any log from the plain call no poll is below poll min
-- promise: no11.5 (of a plain association no sent poll is below poll min)
pub new_sparing : (s : Settings) (list : List ℕ) → new.number_of (new.new_of s list).answer ≡ 0 → (calls : List (M.Call rule)) →
    let a = (new.new_of s list).association in Sparing s.min.0 (M.run machine a calls) (M.after machine a calls)
new_sparing s list e calls =
    let p = new_polls s list e in
    let min = s.min.0 in
    sparing_from min (new.new_of s list).association
    (subst (λ (q : Polls). min ≤ℤ q.remote.0) (sym p) (≤ℤ_refl min))
    (subst (λ (q : Polls). min ≤ℤ q.last.0) (sym p) (≤ℤ_refl min))
    calls

-- ---- a log from a metered association

-- the metered call that answered 0 begins with both poll values at 8 or more
pub metered_held : (s : Settings) (list : List ℕ) → number_of (profile_of s list) ≡ 0 → Held (pos 8) [] (metered_of s list).association
metered_held s list e =
    let least : pos 8 ≤ℤ s.min.0 = lt_z_no (rw (settled s list e).brief.slow.min tt) in
    let p = ap (λ (a : Association). a.state.polls) (same_record s list e) ∙ new_polls s list (plain_made s list e) in
    record {
      sparing = record { sent = tt; last = subst (λ (q : Polls). pos 8 ≤ℤ q.last.0) (sym p) least };
      remote = subst (λ (q : Polls). pos 8 ≤ℤ q.remote.0) (sym p) least;
    }

-- over any log from it no sent poll has a last poll below 8
-- promise: no11.5
pub never_below_8 : (s : Settings) (list : List ℕ) → number_of (profile_of s list) ≡ 0 → (calls : List (M.Call rule)) →
    let a = (metered_of s list).association in Sparing (pos 8) (M.run machine a calls) (M.after machine a calls)
never_below_8 s list e calls =
    let h = metered_held s list e in
    sparing_from (pos 8) (metered_of s list).association h.remote h.sparing.last calls

-- and over any run of the code's calls
-- promise: no11.5 (over any run of the code's calls)
pub code_never_below_8 : (s : Settings) (list : List ℕ) → number_of (profile_of s list) ≡ 0 →
    {b : Association} {calls : List (M.Call rule)} {done : List (M.Done machine)} →
    Ran (metered_of s list).association calls done b → Sparing (pos 8) done b
code_never_below_8 s list e {calls} r = let k = ran_is_run r in rw (k.0, k.1) (never_below_8 s list e calls)

-- ---- where the call was refused, nothing is sent at all

blank_broken : whole_of blank_of ≡ false
unfolding whole_of whole_seen settings_valid blank_of
blank_broken = refl

record Blank (least : ℤ) (done : List (M.Done machine)) (a : Association) : Type 0 where
  sent : AllAtLeast least done
  blank : a ≡ blank_of

blank_kept : (least : ℤ) (done : List (M.Done machine)) (a : Association) (c : M.Call rule) → Blank least done a →
    Blank least (done ++ M.made machine a c ∷ []) (M.step machine a c)
blank_kept least done a (M.timer t) k =
    let w = ap whole_of k.blank ∙ blank_broken in
    let e = timer-numbers.only a t.poll (length t.buffer) (not_whole w) in
    record {
      sent = and_one least done _ k.sent (subst (λ (o : TimerOut). AtLeast least o.answer) (sym e) tt, tt);
      blank = ap (λ (o : TimerOut). o.association) e ∙ k.blank;
    }
blank_kept least done a (M.reply r) k =
    let w = ap whole_of k.blank ∙ blank_broken in
    let read = read_as a.settings a.state.request r in
    let e = reply-numbers.only a read (arrival_of r) (R.not_whole w) in
    record { sent = and_one least done _ k.sent tt; blank = ap (λ o. o.association) e ∙ k.blank }

-- so whatever the metered call answered, no poll that is sent after it is below 8
-- promise: no11.5 (whatever the call answered)
pub sent_never_below_8 : (s : Settings) (list : List ℕ) (calls : List (M.Call rule)) → AllAtLeast (pos 8) (M.run machine (metered_of s list).association calls)
sent_never_below_8 s list calls = by (eqb (number_of (profile_of s list)) 0) refl
  where
    by : (b : Bool) → eqb (number_of (profile_of s list)) 0 ≡ b → AllAtLeast (pos 8) (M.run machine (metered_of s list).association calls)
    by true e = (never_below_8 s list (eqb-true _ _ e) calls).sent
    by false e =
        (along_with machine (Blank (pos 8)) (blank_kept (pos 8)) (metered_of s list).association
        (record { sent = tt; blank = refused_blank s list (eqb-false _ _ e) })
        calls).sent
