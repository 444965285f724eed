-- Why a reply had no live request, by the log alone (RULES, No. 3): 12 exactly if no poll was sent, 13 if one was and was measured since,
-- 14 if the last one sent is unmeasured and its deadline is before now. Of any machine that obeys the laws, from any record with nothing
-- pending and no reply measured; refused calls are calls too.
-- Assumes nothing.
use mathlib.Core.Path.{◌≡◌, refl, sym, ap, ◌∙◌}
use mathlib.Core.Bool.{Bool, true, false, cond, not, ◌||◌}
use mathlib.Core.List.{List, [], ◌∷◌, ◌++◌}
use Rattle.std.specs.Prelude.{Option, Some, None}
use Prim.Native.Nat.{ℕ, ◌<◌}
use native.Mathlib.Omega.{arith}
use lib.Dec.{T, eqb, eqb→eq}
use Rattle.laws_log.specs.Log.{Rule, Entry, timed, replied, NoPoll, next, asked_from, asked, next_answered, answered_from, reason, says, considered}
use Rattle.laws_log.specs.Machine.{Machine, Call, timer, reply, note, made, step, log_of, Laws}
use Rattle.laws_log.specs.Why.{NoZero, Answered, Late, Why}
use Rattle.laws_log.proofs.Strike.{not_T, asked_append, asked_none}
use Rattle.laws_log.proofs.Asked.{Kind, unsent, spent, open_poll, kind, asked_stays}

not_both : (n : ℕ) → n ≡ 0 → 0 < n → ⊥
not_both n e k = omega arith

-- what a number says is that number, if it says anything
said : (n k : ℕ) → 0 < k → says n ≡ k → n ≡ k
said n k p = by (eqb n 12 || eqb n 13 || eqb n 14)
  where
    by : (b : Bool) → cond b n 0 ≡ k → n ≡ k
    by true e = e
    by false e = absurd (not_both k (sym e) p)

-- ---- whether a reply has been measured since

answered_append : {D : Rule} (w : Bool) (xs ys : List (Entry D)) → answered_from w (xs ++ ys) ≡ answered_from (answered_from w xs) ys
answered_append w [] ys = refl
answered_append w (x ∷ xs) ys = answered_append (next_answered w x) xs ys

cond_same : (b w : Bool) → cond b w w ≡ w
cond_same true w = refl
cond_same false w = refl

-- yes stays, with no sent poll
answered_yes : {D : Rule} (es : List (Entry D)) → NoPoll es → answered_from true es ≡ true
answered_yes [] p = refl
answered_yes (timed t n ∷ es) p = rw (not_T (eqb n 20) p.0) (answered_yes es p.1)
answered_yes (replied r n ∷ es) p = rw (cond_same (eqb n 0) true) (answered_yes es p.1)

-- no stays, with no measured reply
answered_no : {D : Rule} (es : List (Entry D)) → NoZero es → answered_from false es ≡ false
answered_no [] z = refl
answered_no (timed t n ∷ es) z = rw (cond_same (eqb n 20) false) (answered_no es z.1)
answered_no (replied r n ∷ es) z = rw (not_T (eqb n 0) z.0) (answered_no es z.1)

-- ---- a log in which each reply that comes so far is told its reason
module _ (D : Rule) (s : D.Settings) where
  abbrev Says : Option D.Request → Bool → Entry D → Type 0
  Says q w (timed t n) = Unit {0}
  Says q w (replied r n) = T (considered n) → says n ≡ reason D q w r

  abbrev Told : Option D.Request → Bool → List (Entry D) → Type 0
  Told q w [] = Unit {0}
  Told q w (e ∷ es) = Says q w e × Told (next D s q e) (next_answered w e) es

  told_left : (q : Option D.Request) (w : Bool) (xs ys : List (Entry D)) → Told q w (xs ++ ys) → Told q w xs
  told_left q w [] ys h = tt
  told_left q w (x ∷ xs) ys h = (h.0, told_left (next D s q x) (next_answered w x) xs ys h.1)

  told_right : (q : Option D.Request) (w : Bool) (xs ys : List (Entry D)) → Told q w (xs ++ ys) → Told (asked_from D s q xs) (answered_from w xs) ys
  told_right q w [] ys h = h
  told_right q w (x ∷ xs) ys h = told_right (next D s q x) (next_answered w x) xs ys h.1

  -- where nothing is asked for there is a reason
  some_reason : (w : Bool) (r : D.Reply) → 0 < reason D None w r
  some_reason true r = omega arith
  some_reason false r = omega arith

  -- so nothing is measured before a poll was sent
  polled : (older : List (Entry D)) (r : D.Reply) (since : List (Entry D)) → Told None false (older ++ replied r 0 ∷ since) → NoPoll older → ⊥
  polled older r since h p =
      let e : 0 ≡ reason D (asked D s older) (answered_from false older) r = (told_right None false older (replied r 0 ∷ since) h).0 tt in
      let k : 0 ≡ reason D None (answered_from false older) r = rw (asked_none D s older p) at e in
      not_both (reason D None (answered_from false older) r) (sym k) (some_reason (answered_from false older) r)

  -- the reason that a log gives
  abbrev why : List (Entry D) → D.Reply → ℕ
  why before r = reason D (asked D s before) (answered_from false before) r

  why_answered : (older since : List (Entry D)) (m r : D.Reply) → NoPoll since → why (older ++ replied m 0 ∷ since) r ≡ 13
  why_answered older since m r p = rw (
    asked_append D s None older (replied m 0 ∷ since),
    asked_none D s since p,
    answered_append false older
        (replied m 0 ∷ since),
    answered_yes since p,
  )

  why_open : (older since : List (Entry D)) (t : D.Timer) (r : D.Reply) → NoPoll since → NoZero since →
      why (older ++ timed t 20 ∷ since) r ≡ cond (D.unexpired (D.asks s t) r) 0 14
  why_open older since t r p z = rw (asked_append D s None older (timed t 20 ∷ since), asked_stays D s (Some (D.asks s t)) since p z)

  why_unsent : (before : List (Entry D)) (r : D.Reply) → NoPoll before → NoZero before → why before r ≡ 12
  why_unsent before r p z = rw (asked_none D s before p, answered_no before z)

  -- the three stories, and a request that is unexpired, each with its reason
  data Story (before : List (Entry D)) (r : D.Reply) : ℕ → Type 0 where
    never : NoPoll before → Story before r 12
    answered : Answered before → Story before r 13
    late : Late s before r → Story before r 14
    live : Story before r 0

  story : (before : List (Entry D)) (r : D.Reply) → Told None false before → Story before r (why before r)
  story before r h = by before (kind before) h
    where
      open_by : (older since : List (Entry D)) (t : D.Timer) → NoPoll since → NoZero since → (b : Bool) → D.unexpired (D.asks s t) r ≡ b →
          Story (older ++ timed t 20 ∷ since) r (cond b 0 14)
      open_by older since t p z true e = live
      open_by older since t p z false e = late (record { older = older; since = since; poll = t; parts = refl; last = p; unmeasured = z; passed = e })

      by : (log : List (Entry D)) → Kind log → Told None false log → Story log r (why log r)
      by _ (unsent log p z) h = rw (why_unsent log r p z) (never p)
      by _ (spent older since m p) h =
          rw (why_answered older since m r p) (answered
          (record { older = older; since = since; reply = m; parts = refl; polled = polled older m since h; last = p }))
      by _ (open_poll older since t p z) h = rw (why_open older since t r p z) (open_by older since t p z (D.unexpired (D.asks s t) r) refl)

  -- with no poll sent none is measured, so the reason is 12
  no_zero : (w : Bool) (xs : List (Entry D)) → NoPoll xs → Told None w xs → NoZero xs
  no_zero w [] p h = tt
  no_zero w (timed t n ∷ xs) p h = (tt, no_zero w xs p.1 (rw (not_T (eqb n 20) p.0) at h.1))
  no_zero w (replied r n ∷ xs) p h = by (eqb n 0) refl (no_zero w xs p.1)
    where
      by : (b : Bool) → eqb n 0 ≡ b → (Told None w xs → NoZero xs) → T (not (eqb n 0)) × NoZero xs
      by true e more =
          let z : n ≡ 0 = eqb→eq n 0 (rw e tt) in
          let k : 0 ≡ reason D None w r = (rw z at h.0) tt in
          absurd (not_both (reason D None w r) (sym k) (some_reason w r))
      by false e more = (rw e tt, more (rw e at h.1))

  module _ (before behind : List (Entry D)) (r : D.Reply) (n : ℕ) (h : Told None false (before ++ replied r n ∷ behind)) (c : T (considered n)) where
    is_why : says n ≡ why before r
    is_why = (told_right None false before (replied r n ∷ behind) h).0 c

    before_told : Told None false before
    before_told = told_left None false before (replied r n ∷ behind) h

    -- what was said is the story's
    says_why : (k : ℕ) → says k ≡ k → n ≡ k → why before r ≡ k
    says_why k e f = sym is_why ∙ ap says f ∙ e

    pub is_12 : n ≡ 12 → NoPoll before
    is_12 e = by (why before r) (story before r before_told) (says_why 12 refl e)
      where
        by : (k : ℕ) → Story before r k → k ≡ 12 → NoPoll before
        by _ (never p) f = p
        by _ (answered x) f = absurd (omega arith)
        by _ (late x) f = absurd (omega arith)
        by _ live f = absurd (omega arith)

    pub is_13 : n ≡ 13 → Answered before
    is_13 e = by (why before r) (story before r before_told) (says_why 13 refl e)
      where
        by : (k : ℕ) → Story before r k → k ≡ 13 → Answered before
        by _ (never p) f = absurd (omega arith)
        by _ (answered x) f = x
        by _ (late x) f = absurd (omega arith)
        by _ live f = absurd (omega arith)

    pub is_14 : n ≡ 14 → Late s before r
    is_14 e = by (why before r) (story before r before_told) (says_why 14 refl e)
      where
        by : (k : ℕ) → Story before r k → k ≡ 14 → Late s before r
        by _ (never p) f = absurd (omega arith)
        by _ (answered x) f = absurd (omega arith)
        by _ (late x) f = x
        by _ live f = absurd (omega arith)

    pub of_12 : NoPoll before → n ≡ 12
    of_12 p = said n 12 (omega arith) (is_why ∙ why_unsent before r p (no_zero false before p before_told))

    pub of_13 : Answered before → n ≡ 13
    of_13 x = said n 13 (omega arith) (is_why ∙ ap (λ (l : List (Entry D)). why l r) x.parts ∙ why_answered x.older x.since x.reply r x.last)

    pub of_14 : Late s before r → n ≡ 14
    of_14 x =
        said n 14 (omega arith)
        (is_why ∙ ap (λ (l : List (Entry D)). why l r) x.parts ∙ why_open x.older x.since x.poll r x.last x.unmeasured
        ∙ ap (λ (b : Bool). cond b 0 14) x.passed)

-- ---- the machine

module _ {D : Rule} (M : Machine D) (L : Laws M) where
  one : (a : M.Record) (c : Call D) → Says D (M.settings a) (M.pending a) (M.answered a) (note M (made M a c))
  one a (timer t) = tt
  one a (reply r) = L.told a r

  all : (cs : List (Call D)) (a : M.Record) → Told D (M.settings a) (M.pending a) (M.answered a) (log_of M a cs)
  all [] a = tt
  all (c ∷ cs) a = (one a c, rw (L.settings_kept a c, L.pending_next a c, L.answered_next a c) at (all cs (step M a c)))

  -- promise: no3.5 (of any machine that obeys the laws)
  pub why_told : (a : M.Record) (calls : List (Call D)) → M.pending a ≡ None → M.answered a ≡ false → Why M a calls
  why_told a calls new unanswered =
      let s = M.settings a in
      let h : Told D s None false (log_of M a calls) = rw (new, unanswered) at (all calls a) in
      record {
        never_sent_lem = λ before behind r n e c. let k = rw e at h in (is_12 D s before behind r n k c, of_12 D s before behind r n k c);
        already_measured_lem = λ before behind r n e c. let k = rw e at h in (is_13 D s before behind r n k c, of_13 D s before behind r n k c);
        late = λ before behind r n e c. let k = rw e at h in (is_14 D s before behind r n k c, of_14 D s before behind r n k c);
      }
