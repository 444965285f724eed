-- A record that the types allow passes the test for a whole record exactly where it is whole in the words of specs/Words.antt.
-- Assumes nothing.
use mathlib.Core.Path.{◌≡◌, refl, sym, ap, ◌∙◌}
use mathlib.Core.Bool.{Bool, true, false, not, ◌&&◌, ◌||◌, cond}
use mathlib.Core.List.{List, [], ◌∷◌}
use mathlib.Core.Logic.{◌↔◌}
use Prim.Native.Nat.{ℕ, zero, suc, ◌≤◌}
use native.Mathlib.Omega.{arith}
use borrow.Author.Tests.{leb-true, le-leb, eqb-true, eq-eqb, not-true}
use lib.Dec.{leb, eqb}
use lib.IntN.{ℤ, pos, negsuc}
use Rattle.words.specs.Bytes.{zeros}
use Rattle.words.proofs.Tests.{passes, both}
use Rattle.cookiestash.specs.Whole.{Typed}
use Rattle.version.specs.declared.ProtocolVersion.{ProtocolVersion}
use Rattle.version.specs.declared.ProtocolVersion.TheVariants.{V4, Upgrading, Upgraded, V5}
use Rattle.version.specs.declared.Version.{Version}
use Rattle.version.specs.Upgrade.{upgrading}
use Rattle.association.specs.declared.Settings.{Settings}
use Rattle.association.specs.declared.Pending.{Pending}
use Rattle.association.specs.declared.Association.{Association}
use Rattle.association.specs.Settings.{within, limits_valid, settings_valid}
use Rattle.association.specs.Record.{versions_valid, pending_valid, idle_valid, whole_of}
use Rattle.association.proofs.Whole.{whole_of_lem, of_whole}
use Rattle.association.specs.Words.{AllZero, InRanges, NotRetired, Requested, Idle, WholeWords}

-- ---- bytes

zero_each : (b : List ℕ) → zeros b ≡ true → AllZero b
unfolding zeros
zero_each [] e k = refl
zero_each (x ∷ b) e zero = eqb-true x 0 (both (eqb x 0) (zeros b) e).0
zero_each (x ∷ b) e (suc k) = zero_each b (both (eqb x 0) (zeros b) e).1 k

each_zero : (b : List ℕ) → AllZero b → zeros b ≡ true
unfolding zeros
each_zero [] z = refl
each_zero (x ∷ b) z = passes _ (eq-eqb x 0 (z 0)) ∙ each_zero b (λ k. z (suc k))

-- ---- settings

record Limited (min max : ℤ) : Type 0 where
  least : ℕ
  most : ℕ
  min_is : min ≡ pos least
  max_is : max ≡ pos most
  ordered : least ≤ most
  top : most ≤ 17

never : {A : Type 0} → false ≡ true → A
never e = let z : ◌≡◌ {A = ℕ} 0 1 = cc in absurd (omega arith)

limited : (min max : ℤ) → limits_valid min max ≡ true → Limited min max
limited (pos m) (pos n) e =
    let p = both (leb 0 m) (leb m n && leb n 17) e in
    let q = both (leb m n) (leb n 17) p.1 in
    record { least = m; most = n; min_is = refl; max_is = refl; ordered = leb-true m n q.0; top = leb-true n 17 q.1 }
limited (pos m) (negsuc n) e = never (both (leb 0 m) false e).1
limited (negsuc m) n e = never e

limits_of : (min max : ℤ) → Limited min max → limits_valid min max ≡ true
limits_of min max l =
    rw (l.min_is, l.max_is) (passes _ (le-leb 0 l.least (omega arith)) ∙ passes _ (le-leb l.least l.most l.ordered)
    ∙ le-leb l.most 17 l.top)

between : (low x high : ℕ) → within low x high ≡ true → (low ≤ x) × (x ≤ high)
between low x high e = let p = both (leb low x) (leb x high) e in (leb-true low x p.0, leb-true x high p.1)

between_of : (low x high : ℕ) → low ≤ x → x ≤ high → within low x high ≡ true
between_of low x high h k = passes _ (le-leb low x h) ∙ le-leb x high k

in_ranges : (s : Settings) → settings_valid s ≡ true → InRanges s
unfolding settings_valid
in_ranges s e =
    let p = both (limits_valid s.min.0 s.max.0) (within 1 s.startup 8 && (within 1 s.window 60000000000 && within 1 s.capacity 8)) e in
    let q = both (within 1 s.startup 8) (within 1 s.window 60000000000 && within 1 s.capacity 8) p.1 in
    let r = both (within 1 s.window 60000000000) (within 1 s.capacity 8) q.1 in
    let l = limited s.min.0 s.max.0 p.0 in
    let a = between 1 s.startup 8 q.0 in
    let b = between 1 s.window 60000000000 r.0 in
    let c = between 1 s.capacity 8 r.1 in
    record {
      least = l.least;
      most = l.most;
      min_is = l.min_is;
      max_is = l.max_is;
      ordered = l.ordered;
      top = l.top;
      startup_some = a.0;
      startup_few = a.1;
      window_some = b.0;
      window_short = b.1;
      capacity_some = c.0;
      capacity_few = c.1;
    }

ranges_of : (s : Settings) → InRanges s → settings_valid s ≡ true
unfolding settings_valid
ranges_of s r =
    passes _ (limits_of s.min.0 s.max.0
    (record { least = r.least; most = r.most; min_is = r.min_is; max_is = r.max_is; ordered = r.ordered; top = r.top }))
    ∙ passes _ (between_of 1 s.startup 8 r.startup_some r.startup_few)
    ∙ passes _ (between_of 1 s.window 60000000000 r.window_some r.window_short)
    ∙ between_of 1 s.capacity 8 r.capacity_some r.capacity_few

-- ---- versions

kept_kind : (k : ProtocolVersion) → not (upgrading k) ≡ true → (tries : ℕ) → k ≡ Upgrading tries → ⊥
kept_kind k e tries q = never (sym (ap (λ (x : ProtocolVersion). not (upgrading x)) q) ∙ e)

kind_kept : (k : ProtocolVersion) → ((tries : ℕ) → k ≡ Upgrading tries → ⊥) → not (upgrading k) ≡ true
kind_kept V4 h = refl
kind_kept (Upgrading tries) h = absurd (h tries refl)
kind_kept Upgraded h = refl
kind_kept V5 h = refl

not_retired : (v w : Version) → versions_valid v w ≡ true → NotRetired v × NotRetired w
unfolding versions_valid
not_retired v w e = let p = both (not (upgrading v.kind)) (not (upgrading w.kind)) e in (kept_kind v.kind p.0, kept_kind w.kind p.1)

of_not_retired : (v w : Version) → NotRetired v → NotRetired w → versions_valid v w ≡ true
unfolding versions_valid
of_not_retired v w c d = passes _ (kind_kept v.kind c) ∙ kind_kept w.kind d

-- ---- the request

requested : (q : Pending) → pending_valid q ≡ true → Requested q
unfolding pending_valid
requested q e =
    record {
      unanswered = λ p. not-true q.answered (rw p at e);
      no_id = λ p. eqb-true _ _ (gone p).0;
      no_deadline = λ p. eqb-true _ _
          (rest p).0;
      no_uid = λ p. zero_each q.uid (rest p).1;
    }
  where
    gone : q.present ≡ false → (eqb q.id 0 ≡ true) × ((eqb q.deadline 0 && zeros q.uid) ≡ true)
    gone p = both (eqb q.id 0) (eqb q.deadline 0 && zeros q.uid) (rw p at e)

    rest : q.present ≡ false → (eqb q.deadline 0 ≡ true) × (zeros q.uid ≡ true)
    rest p = both (eqb q.deadline 0) (zeros q.uid) (gone p).1

of_requested : (q : Pending) → Requested q → pending_valid q ≡ true
unfolding pending_valid
of_requested q r = by q.present refl
  where
    by : (t : Bool) → q.present ≡ t → cond t (not q.answered) (eqb q.id 0 && (eqb q.deadline 0 && zeros q.uid)) ≡ true
    by true p = ap not (r.unanswered p)
    by false p = passes _ (eq-eqb q.id 0 (r.no_id p)) ∙ passes _ (eq-eqb q.deadline 0 (r.no_deadline p)) ∙ each_zero q.uid (r.no_uid p)

-- ---- without NTS

module _ (a : Association) where
  idle : idle_valid a.settings.nts a.stash.read a.stash.held a.state.request.uid ≡ true → Idle a
  unfolding idle_valid
  idle e = record { read = λ p. eqb-true _ _ (gone p).0; held = λ p. eqb-true _ _ (rest p).0; uid = λ p. zero_each a.state.request.uid (rest p).1 }
    where
      gone : a.settings.nts ≡ false → (eqb a.stash.read 0 ≡ true) × ((eqb a.stash.held 0 && zeros a.state.request.uid) ≡ true)
      gone p = both (eqb a.stash.read 0) (eqb a.stash.held 0 && zeros a.state.request.uid) (rw p at e)

      rest : a.settings.nts ≡ false → (eqb a.stash.held 0 ≡ true) × (zeros a.state.request.uid ≡ true)
      rest p = both (eqb a.stash.held 0) (zeros a.state.request.uid) (gone p).1

  of_idle : Idle a → idle_valid a.settings.nts a.stash.read a.stash.held a.state.request.uid ≡ true
  unfolding idle_valid
  of_idle i = by a.settings.nts refl
    where
      by : (t : Bool) → a.settings.nts ≡ t → (t || (eqb a.stash.read 0 && (eqb a.stash.held 0 && zeros a.state.request.uid))) ≡ true
      by true p = refl
      by false p = passes _ (eq-eqb a.stash.read 0 (i.read p)) ∙ passes _ (eq-eqb a.stash.held 0 (i.held p))
          ∙ each_zero a.state.request.uid (i.uid p)

  -- ---- the record

  pub whole_words : Typed a.stash → (whole_of a ≡ true) ↔ WholeWords a
  whole_words t = (into, from)
    where
      into : whole_of a ≡ true → WholeWords a
      into e =
          let w = whole_of_lem a t e in
          let c = not_retired a.settings.start a.state.version w.versions in
          record {
            settings = in_ranges a.settings w.settings;
            stash = w.stash;
            counted = w.counted;
            start = c.0;
            version = c.1;
            request = requested a.state.request w.request;
            idle = idle w.idle;
          }

      from : WholeWords a → whole_of a ≡ true
      from w =
          of_whole a
          (record {
            settings = ranges_of a.settings w.settings;
            stash = w.stash;
            counted = w.counted;
            versions = of_not_retired a.settings.start a.state.version w.start w.version;
            request = of_requested a.state.request w.request;
            idle = of_idle w.idle;
          })
