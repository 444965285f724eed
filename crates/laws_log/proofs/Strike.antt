-- Demand 3 holds of any machine that obeys the laws, from any record with nothing pending.
-- Assumes nothing.
use mathlib.Core.Path.{◌≡◌, refl, sym, ap, ◌∙◌}
use mathlib.Core.Bool.{Bool, true, false, cond, not, false≢true}
use mathlib.Core.List.{List, [], ◌∷◌, ◌++◌}
use Rattle.std.specs.Prelude.{Option, None}
use Prim.Native.Nat.{ℕ, zero, suc, ◌≤◌}
use native.Mathlib.Omega.{arith}
use lib.Dec.{T, eqb, eqb-suc-zero}
use Rattle.laws_log.specs.Log.{
  Rule,
  Entry,
  timed,
  replied,
  accepted,
  refusal,
  sent,
  measured,
  Accepted,
  NoPoll,
  measured_in,
  next,
  asked_from,
  asked,
  live,
  strikes,
  struck,
  marks_from,
  marks,
  strike,
}
use Rattle.laws_log.specs.Machine.{
  Machine,
  Call,
  timer,
  reply,
  Done,
  of_timer,
  of_reply,
  call_of,
  calls_of,
  note,
  logged,
  made,
  step,
  run,
  after,
  log_of,
  Laws,
}
use Rattle.laws_log.specs.Demand.{Demand3}

pub not_true : (b : Bool) → not b ≡ true → b ≡ false
not_true true e = sym e
not_true false e = refl

pub not_T : (b : Bool) → T (not b) → b ≡ false
not_T true t = absurd t
not_T false t = refl

cond_same : {A : Type 0} (b : Bool) (x : A) → cond b x x ≡ x
cond_same true x = refl
cond_same false x = refl

refusal_not_zero : (n : ℕ) → T (refusal n) → eqb n 0 ≡ false
refusal_not_zero zero t = absurd t
refusal_not_zero (suc n) t = eqb-suc-zero n

-- The log alone.
module _ (D : Rule) (s : D.Settings) where
  pub asked_append : (q : Option D.Request) (xs ys : List (Entry D)) → asked_from D s q (xs ++ ys) ≡ asked_from D s (asked_from D s q xs) ys
  asked_append q [] ys = refl
  asked_append q (x ∷ xs) ys = asked_append (next D s q x) xs ys

  -- with nothing asked, all but a sent poll leaves it so
  stays_none : (e : Entry D) → T (not (sent e)) → next D s None e ≡ None
  stays_none (timed t n) h = rw (not_T (eqb n 20) h)
  stays_none (replied r n) h = cond_same (eqb n 0) None

  pub asked_none : (xs : List (Entry D)) → NoPoll xs → asked_from D s None xs ≡ None
  asked_none [] h = refl
  asked_none (x ∷ xs) h = rw (stays_none x h.0) (asked_none xs h.1)

  -- no struck entry is measured
  abbrev Sound : Option D.Request → List (Entry D) → Type 0
  Sound q [] = Unit {0}
  Sound q (e ∷ es) = (strikes D s q e ≡ true → measured e ≡ false) × Sound (next D s q e) es

  sound_left : (q : Option D.Request) (xs ys : List (Entry D)) → Sound q (xs ++ ys) → Sound q xs
  sound_left q [] ys h = tt
  sound_left q (x ∷ xs) ys h = (h.0, sound_left (next D s q x) xs ys h.1)

  sound_right : (q : Option D.Request) (xs ys : List (Entry D)) → Sound q (xs ++ ys) → Sound (asked_from D s q xs) ys
  sound_right q [] ys h = h
  sound_right q (x ∷ xs) ys h = sound_right (next D s q x) xs ys h.1

  none_measured : (xs : List (Entry D)) → NoPoll xs → Sound None xs → measured_in xs ≡ 0
  none_measured [] p h = refl
  none_measured (timed t n ∷ xs) p h = none_measured xs p.1 (rw (stays_none (timed t n) p.0) at h.1)
  none_measured (replied r n ∷ xs) p h = rw (h.0 refl, none_measured xs p.1 (rw (stays_none (replied r n) tt) at h.1))

  few_measured : (q : Option D.Request) (xs : List (Entry D)) → NoPoll xs → Sound q xs → measured_in xs ≤ 1
  few_measured q [] p h = omega arith
  few_measured q (timed t n ∷ xs) p h = few_measured (next D s q (timed t n)) xs p.1 h.1
  few_measured q (replied r n ∷ xs) p h = by_number (eqb n 0) (few_measured q xs p.1) h.1
    where
      by_number : (b : Bool) → (Sound q xs → measured_in xs ≤ 1) → Sound (cond b None q) xs → cond b (suc (measured_in xs)) (measured_in xs) ≤ 1
      by_number true more k = omega (arith, none_measured xs p.1 k)
      by_number false more k = more k

  -- a measured reply is not struck; one behind it, with no sent poll between, is, and is not measured
  kept : (q : Option D.Request) (r : D.Reply) (rest : List (Entry D)) → Sound q (replied r 0 ∷ rest) → strikes D s q (replied r 0) ≡ false
  kept q r rest h = by (live D s q r) h.0
    where
      by : (b : Bool) → (not b ≡ true → true ≡ false) → not b ≡ false
      by true k = refl
      by false k = k refl

  pub behind_struck : (before mid : List (Entry D)) (r r' : D.Reply) (n : ℕ) → NoPoll mid → struck D s (before ++ replied r 0 ∷ mid) (replied r' n) ≡ true
  behind_struck before mid r r' n p = rw (asked_append None before (replied r 0 ∷ mid), asked_none mid p)

  behind_unmeasured : (q : Option D.Request) (mid behind : List (Entry D)) (r r' : D.Reply) (n : ℕ) → NoPoll mid →
      Sound q (replied r 0 ∷ (mid ++ replied r' n ∷ behind)) → n ≡ 0 → ⊥
  behind_unmeasured q mid behind r r' n p h z =
      let last : Sound None (replied r' n ∷ behind) = rw (asked_none mid p) at (sound_right None mid (replied r' n ∷ behind) h.1) in
      false≢true (sym (rw z at (last.0 refl)))

-- The machine.
module _ {D : Rule} (M : Machine D) (L : Laws M) where
  -- a struck reply, by what is pending: it is refused, and leaves the record
  abbrev Harmless : Done M → Type 0
  Harmless (of_timer t x) = ⊥
  Harmless (of_reply r x) = M.Quiet x × T (refusal (M.reply_number x))

  struck_call : (a : M.Record) (c : Call D) → T (accepted (note M (made M a c))) →
      strikes D (M.settings a) (M.pending a) (note M (made M a c)) ≡ true → Harmless (made M a c) × (step M a c ≡ a)
  struck_call a (timer t) ok e = absurd (false≢true e)
  struck_call a (reply r) ok e =
      let k = L.refused a r (not_true (live D (M.settings a) (M.pending a) r) e) ok in
      ((k.1, k.0), k.2)

  -- every struck one of the calls is harmless
  abbrev Calm : D.Settings → Option D.Request → List (Done M) → Type 0
  Calm s q [] = Unit {0}
  Calm s q (x ∷ xs) = (strikes D s q (note M x) ≡ true → Harmless x) × Calm s (next D s q (note M x)) xs

  calm_right : (s : D.Settings) (q : Option D.Request) (xs ys : List (Done M)) → Calm s q (xs ++ ys) → Calm s (asked_from D s q (logged M xs)) ys
  calm_right s q [] ys h = h
  calm_right s q (x ∷ xs) ys h = calm_right s (next D s q (note M x)) xs ys h.1

  calm_sound : (s : D.Settings) (q : Option D.Request) (xs : List (Done M)) → Calm s q xs → Sound D s q (logged M xs)
  calm_sound s q [] h = tt
  calm_sound s q (of_timer t x ∷ xs) h = (λ e. refl, calm_sound s (next D s q (timed t (M.timer_number x))) xs h.1)
  calm_sound s q (of_reply r x ∷ xs) h = (
    λ e. refusal_not_zero (M.reply_number x) (h.0 e).1,
    calm_sound s (next D s q (replied r (M.reply_number x))) xs
        h.1,
  )

  calm : (cs : List (Call D)) (a : M.Record) → Accepted (log_of M a cs) → Calm (M.settings a) (M.pending a) (run M a cs)
  calm [] a ok = tt
  calm (c ∷ cs) a ok = (
    λ e. (struck_call a c ok.0 e).0,
    rw (L.settings_kept a c, L.pending_next a c) at (calm cs (step M a c) ok.1),
  )

  -- the shorter log, from any record: one call, then all
  call_back : (a : M.Record) (c : Call D) → call_of (note M (made M a c)) ≡ c
  call_back a (timer t) = refl
  call_back a (reply r) = refl

  abbrev Same : M.Record → List Bool → List (Entry D) → List (Done M) → M.Record → Type 0
  Same a ms log xs z = (after M a (calls_of (strike ms log)) ≡ z) × (run M a (calls_of (strike ms log)) ≡ strike ms xs)

  turn : (b : Bool) (ms : List Bool) (log : List (Entry D)) (xs : List (Done M)) (z a : M.Record) (c : Call D) →
      (b ≡ true → step M a c ≡ a) → Same (step M a c) ms log xs z → Same a (b ∷ ms) (note M (made M a c) ∷ log) (made M a c ∷ xs) z
  turn true ms log xs z a c stays h = rw (stays refl) at h
  turn false ms log xs z a c stays h = rw (call_back a c) (h.0, ap (λ (l : List (Done M)). made M a c ∷ l) h.1)

  same : (cs : List (Call D)) (a : M.Record) → Accepted (log_of M a cs) →
      Same a (marks_from D (M.settings a) (M.pending a) (log_of M a cs)) (log_of M a cs) (run M a cs) (after M a cs)
  same [] a ok = (refl, refl)
  same (c ∷ cs) a ok =
      turn (strikes D (M.settings a) (M.pending a) (note M (made M a c)))
      (marks_from D (M.settings a) (next D (M.settings a) (M.pending a) (note M (made M a c))) (log_of M (step M a c) cs))
      (log_of M (step M a c) cs) (run M (step M a c) cs) (after M (step M a c) cs) a c (λ e. (struck_call a c ok.0 e).1)
      (rw (L.settings_kept a c, L.pending_next a c) at (same cs (step M a c) ok.1))

  logged_strike : (ms : List Bool) (xs : List (Done M)) → logged M (strike ms xs) ≡ strike ms (logged M xs)
  logged_strike [] xs = refl
  logged_strike (m ∷ ms) [] = refl
  logged_strike (true ∷ ms) (x ∷ xs) = logged_strike ms xs
  logged_strike (false ∷ ms) (x ∷ xs) = ap (λ (l : List (Entry D)). note M x ∷ l) (logged_strike ms xs)

  -- promise: no3.6, no5.7, demand.3 (of any machine that obeys the five laws)
  pub demand3 : (a : M.Record) (calls : List (Call D)) → M.pending a ≡ None → Accepted (log_of M a calls) → Demand3 M a calls
  demand3 a calls new ok =
      let s = M.settings a in
      let log = log_of M a calls in
      let both : Same a (marks D s log) log (run M a calls) (after M a calls) = rw new at (same calls a ok) in
      let quiet : Calm s None (run M a calls) = rw new at (calm calls a ok) in
      let fair : Sound D s None log = calm_sound s None (run M a calls) quiet in
      record {
        same_end = both.0;
        same_answers = both.1;
        same_log = ap (logged M) both.1 ∙ logged_strike (marks D s log) (run M a calls);
        no_action = λ before behind r x e h. (calm_right s None before (of_reply r x ∷ behind) (rw e at quiet)).0 h;
        one_measured = λ before mid behind e p.
            few_measured D s (asked D s before) mid p
            (sound_left D s (asked D s before) mid behind (sound_right D s None before (mid ++ behind) (rw e at fair)));
        measured_kept = λ before behind r e. kept D s (asked D s before) r behind (sound_right D s None before (replied r 0 ∷ behind) (rw e at fair));
        rest_struck = λ before mid behind r r' n e p. (
          behind_struck D s before mid r r' n p,
          behind_unmeasured D s (asked D s before) mid behind r r' n p
              (sound_right D s None before (replied r 0 ∷ (mid ++ replied r' n ∷ behind)) (rw e at fair)),
        );
      }
