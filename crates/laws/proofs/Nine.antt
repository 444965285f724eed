-- Among any nine timers in a row that were not refused, with no reply measured between the first and the ninth, one answers a reset or a demobilize (RULES,
-- No. 14).
-- A sent poll shifts reach and adds one to tries: after eight of them reach is 0 and tries are at least 8, which no startup limit exceeds.
-- Assumes nothing.
use mathlib.Core.Path.{◌≡◌, refl, sym, ap, subst, ◌∙◌}
use mathlib.Core.Bool.{Bool, true, false, not, ◌||◌, false≢true}
use mathlib.Core.List.{List, [], ◌∷◌, ◌++◌}
use mathlib.Core.Logic.{◌⊎◌, inl, inr, ⊎_elim}
use Prim.Native.Nat.{ℕ, zero, suc, ◌+◌, ◌*◌, ◌/◌, ◌%◌, ◌≤◌, ◌<◌}
use native.Mathlib.Decide.{dec_lt}
use native.Mathlib.Omega.{arith}
use lib.Dec.{T, eqb, leb, eqb→eq}
use lib.ListN.{length}
use borrow.Author.Tests.{leb-true, le-leb, eq-eqb, eqb-true, eqb-false}
use Rattle.words.proofs.Tests.{both, passes, when, unless}
use Rattle.association.specs.declared.Effort.{Effort}
use Rattle.association.specs.declared.Association.{Association}
use Rattle.association.specs.Settings.{within, limits_valid, settings_valid}
use Rattle.association.specs.Record.{whole_seen, whole_of}
use Rattle.association.specs.Actions.{reset, demobilize}
use Rattle.timer_rules.specs.declared.TimerInput.{TimerInput}
use Rattle.timer_rules.specs.Answer as timer
use Rattle.timer_rules.specs.Poll.{startup_over, polled, tried_of, sent_of}
use Rattle.timer.specs.declared.TimerOut.{TimerOut}
use Rattle.timer.specs.Numbers as T
use Rattle.timer.specs.Numbers.{not_whole, short_buffer_lem, no_cookie_lem, too_large, sent, sent_nts}
use Rattle.timer.proofs.Numbers as timer-numbers
use Rattle.reply_rules.specs.Answer as reply
use Rattle.reply.proofs.Numbers as reply-numbers
use Rattle.reply.proofs.After.{heard}
use Rattle.laws_log.specs.Log as log
use Rattle.laws_log.specs.Why.{NoZero}
use Rattle.laws_log.specs.Machine as M
use Rattle.laws_log.proofs.Strike.{not_T}
use Rattle.laws.specs.Association.{TimerIn, ReplyIn, arrival_of, read_as, rule, replied, machine}
use Rattle.laws.proofs.Bridge.{Ran, ran_is_run}
use Rattle.laws.proofs.Along.{stretch}
use Rattle.laws.specs.Nine.{refused, timers_in, gives_up, GaveUp, NineTimers}

-- ---- eight shifts within 8 bits leave nothing

-- so many shifts lead to a number
pub data Shifts : ℕ → ℕ → Type 0 where
  none : {x : ℕ} → Shifts 0 x
  more : {k x : ℕ} → Shifts k x → Shifts (suc k) ((x * 2) % 256)

-- so often doubled
abbrev doubled : ℕ → ℕ → ℕ
doubled zero y = y
doubled (suc k) y = 2 * doubled k y

-- the number, with what was shifted out, is another one so often doubled
record Doubled (k x : ℕ) : Type 0 where
  base : ℕ
  out : ℕ
  sum : x + 256 * out ≡ doubled k base

shifts_double : {k x : ℕ} → Shifts k x → Doubled k x
shifts_double (none {x}) = record { base = x; out = 0; sum = omega arith }
shifts_double (more {k} {x} s) =
    let d = shifts_double s in
    record { base = d.base; out = (x * 2) / 256 + 2 * d.out; sum = omega (arith, d.sum) }

shifts_small : {k x : ℕ} → Shifts k x → 0 < k → x < 256
shifts_small none h = absurd (omega arith)
shifts_small (more s) h = omega arith

shifted_out : {x : ℕ} → Shifts 8 x → x ≡ 0
shifted_out s = let d = shifts_double s in omega (arith, d.sum, shifts_small s (omega arith))

-- ---- polls that were sent and not answered

-- what k of them in a row leave, whatever was there before
pub record Unheard (k : ℕ) (e : Effort) : Type 0 where
  pub few : k ≤ 8
  pub shifts : Shifts k e.reach.0
  pub tries : k ≤ e.tries

one_more_lem : {k : ℕ} {e : Effort} → k < 8 → Unheard k e → Unheard (suc k) (polled e)
unfolding polled
one_more_lem l u = record { few = omega arith; shifts = more u.shifts; tries = omega (arith, u.tries) }

-- the startup limit of a whole record is at most 8
startup_most : (a : Association) → whole_of a ≡ true → a.settings.startup ≤ 8
unfolding whole_of whole_seen settings_valid
startup_most a w =
    let g = a.settings in
    let rest = (both (limits_valid g.min.0 g.max.0) _ (both (settings_valid g) _ w).0).1 in
    leb-true _ _ (both (leb 1 g.startup) _ (both (within 1 g.startup 8) _ rest).0).1

-- after eight of them the timer gives up, so where it does not there were fewer
still_few : {k : ℕ} (a : Association) → whole_of a ≡ true → startup_over a.settings a.state ≡ false → Unheard k a.state.effort → k < 8
unfolding startup_over
still_few {k} a w o u =
    elim (dec_lt k 8) [
      | yes l ↦ l
      | no l ↦
          let e : k ≡ 8 = omega (arith, u.few) in
          let z = shifted_out (subst (λ (n : ℕ). Shifts n a.state.effort.reach.0) e u.shifts) in
          let t : a.settings.startup ≤ a.state.effort.tries = omega (arith, startup_most a w, u.tries) in
          absurd (false≢true (sym o ∙ passes _ (eq-eqb _ 0 z) ∙ le-leb _ _ t))
    ]

-- ---- one call

-- what a timer does beside k unanswered polls: it gives up, is refused and leaves the record, or counts one more
pub data Turn (k : ℕ) (a : Association) : ℕ → TimerOut → Type 0 where
  gives_up_lem : {n : ℕ} {o : TimerOut} → T (gives_up n) → Turn k a n o
  leaves : {n : ℕ} {o : TimerOut} → refused n ≡ true → o.association ≡ a → Turn k a n o
  counts : {n : ℕ} {o : TimerOut} → refused n ≡ false → Unheard (suc k) o.association.state.effort → Turn k a n o

module _ {k : ℕ} (a : Association) (i : TimerInput) (room : ℕ) (u : Unheard k a.state.effort) where
  -- a poll that was sent
  tried : T.Tried a i room → Unheard (suc k) (polled a.state.effort)
  tried t = one_more_lem (still_few a t.accepted.whole t.going u) u

  pub turned : {n : ℕ} {o : TimerOut} → T.Given a i room n o → Turn k a n o
  unfolding tried_of sent_of
  turned (not_whole w) = leaves refl refl
  turned (short_buffer_lem w s) = leaves refl refl
  turned (T.demobilize c o d) = gives_up_lem tt
  turned (T.reset c o d) = gives_up_lem tt
  turned (no_cookie_lem t n h) = gives_up_lem tt
  turned (too_large x z) = gives_up_lem tt
  turned (sent t n) = counts refl (tried t)
  turned (sent_nts x z) = counts refl (tried x.tried)

-- a reply that is not measured leaves reach and tries
pub unmeasured : {k : ℕ} (a : Association) (r : ReplyIn) → Unheard k a.state.effort → T (not (eqb (reply.number_of (replied a r).0.answer) 0)) →
    Unheard k (M.step machine a (M.reply r)).state.effort
unmeasured {k} a r u z =
    let read = read_as a.settings a.state.request r in
    let h = heard a read (arrival_of r) (reply-numbers.given a read (arrival_of r)) in
    subst (λ (e : Effort). Unheard k e) (sym (h.effort (eqb-false _ 0 (not_T _ z)))) u

-- ---- a log from any record

pub later : {D : log.Rule} (e : log.Entry D) {es : List (log.Entry D)} → GaveUp es → GaveUp (e ∷ es)
later e g =
    record {
      older = e ∷ g.older;
      newer = g.newer;
      poll = g.poll;
      number = g.number;
      parts = ap (λ (l : List (log.Entry _)). e ∷ l)
          g.parts;
      gave_up = g.gave_up;
    }

-- after k polls that were sent and not answered, nine less k are enough
abbrev Enough : ℕ → Association → List (M.Call rule) → Type 0
Enough k a calls = NoZero (M.log_of machine a calls) → 9 ≤ k + timers_in (M.log_of machine a calls) → GaveUp (M.log_of machine a calls)

-- one timer, before a log of which it is known
pub first : {k : ℕ} {a : Association} {n : ℕ} {o : TimerOut} (t : TimerIn) (es : List (log.Entry rule)) → Unheard k a.state.effort → Turn k a n o →
    ((j : ℕ) → Unheard j o.association.state.effort → 9 ≤ j + timers_in es → GaveUp es) → 9 ≤ k + timers_in (log.timed t n ∷ es) →
    GaveUp (log.timed t n ∷ es)
first t es u (gives_up_lem g) rest m = record { older = []; newer = es; poll = t; number = _; parts = refl; gave_up = g }
first {k} t es u (leaves r e) rest m =
    let v = subst (λ (b : Association). Unheard k b.state.effort) (sym e) u in
    later _ (rest k v (omega (arith, m, when (timers_in es) (suc (timers_in es)) r)))
first {k} t es u (counts r v) rest m = later _ (rest (suc k) v (omega (arith, m, unless (timers_in es) (suc (timers_in es)) r)))

enough : (calls : List (M.Call rule)) (k : ℕ) (a : Association) → Unheard k a.state.effort → Enough k a calls
enough [] k a u z m = absurd (omega (arith, u.few))
enough (M.timer t ∷ cs) k a u z m =
    let room = length t.buffer in
    let b = M.step machine a (M.timer t) in
    first t (M.log_of machine b cs) u (turned a t.poll room u (timer-numbers.given a t.poll room)) (λ j v. enough cs j b v z.1) m
enough (M.reply r ∷ cs) k a u z m = later _ (enough cs k (M.step machine a (M.reply r)) (unmeasured a r u z.0) z.1 m)

-- nothing is asked of a record for its being the first of so many
pub none_yet : (e : Effort) → Unheard 0 e
none_yet e = record { few = omega arith; shifts = none; tries = omega arith }

-- from any record, whole or not, whatever came before
-- promise: no14.7 (from any record, whole or not, in any stretch of any log from it)
pub nine_timers : (a : Association) (calls : List (M.Call rule)) → NineTimers machine a calls
nine_timers a calls before nine behind e z m =
    let s = stretch machine a calls before nine behind e in
    rw s.same (enough s.calls 0 s.start (none_yet s.start.state.effort) (rw s.same at z) (omega (arith, ap timers_in s.same)))

-- and in the log of any run of the code's calls
-- promise: no14.7 (of any run of the code's calls)
pub code_nine_timers : {a b : Association} {calls : List (M.Call rule)} {done : List (M.Done machine)} → Ran a calls done b →
    (before nine behind : List (log.Entry rule)) → M.logged machine done ≡ before ++ (nine ++ behind) → NoZero nine → 9 ≤ timers_in nine → GaveUp nine
code_nine_timers {a} {calls} r before nine behind e = nine_timers a calls before nine behind (sym (ap (M.logged machine) (ran_is_run r).0) ∙ e)

-- ---- what a number that gives up asks of the caller

one_of : (b c : Bool) → T (b || c) → T b ⊎ (c ≡ true)
one_of true c t = inl tt
one_of false true t = inr refl
one_of false false t = absurd t

-- promise: no14.7 (each of the four numbers asks for a reset or a demobilize)
pub gives_up_acts : (n : ℕ) → T (gives_up n) → (timer.actions_of n ≡ reset ∷ []) ⊎ (timer.actions_of n ≡ demobilize ∷ [])
gives_up_acts n g =
    ⊎_elim (λ h. ⊎_elim (λ k. ⊎_elim (λ l. inl (rw (eqb→eq n 21 l))) (λ e. inr (rw (eqb-true n 22 e))) (one_of (eqb n 21) (eqb n 22) k))
    (λ e. inl (rw (eqb-true n 23 e)))
    (one_of (eqb n 21 || eqb n 22) (eqb n 23) h))
    (λ e. inl (rw (eqb-true n 24 e)))
    (one_of (eqb n 21 || eqb n 22 || eqb n 23) (eqb n 24) g)
