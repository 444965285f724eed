-- V4 in place of the retired kind (RULES, No. 14): a record that has none of it is loaded as it was read, and which files load otherwise than before.
-- Assumes nothing.
use mathlib.Core.Path.{◌≡◌, refl, sym, ap, ◌∙◌}
use mathlib.Core.Bool.{Bool, true, false, not, ◌&&◌, ◌||◌, cond, false≢true}
use mathlib.Core.List.{List}
use mathlib.Core.Logic.{◌↔◌}
use Prim.Native.Nat.{ℕ}
use Rattle.words.proofs.Tests.{passes}
use Rattle.version.specs.declared.Version.{Version}
use Rattle.version.specs.Upgrade.{upgrading, settled_of}
use Rattle.version.proofs.Retired as version
use Rattle.association.specs.declared.Association.{Association}
use Rattle.association.specs.Settings.{settings_valid}
use Rattle.association.specs.Record.{blank_of, versions_valid, whole_seen, whole_of}
use Rattle.association.specs.Whole.{Current}
use Rattle.handover_file.specs.declared.LoadRefusal.TheVariants.{NoAssociation}
use Rattle.handover_file.specs.declared.LoadOut.{LoadOut}
use Rattle.handover_file.specs.Sections.{Cut, bodies, misplaced, missized, cut_as}
use Rattle.handover_file.specs.File.{shapes, known, record_in, retired, settled_settings, settled_state, settled}
use Rattle.handover_file.specs.Answers.{load_number, told, says_retired, loaded, refused, load_in, on_cut, load_of}
use Rattle.handover_file.specs.Before.{whole_before, Before, before, before_in, before_on, before_of}

-- the two tests as one
both_tests : (k w : Bool) (x y : LoadOut) → cond k (cond w x y) y ≡ cond (k && w) x y
both_tests true w x y = refl
both_tests false w x y = refl

pub load_tests : (bs : List (List ℕ)) → let a = record_in bs in
    load_in bs ≡ cond (known bs && whole_of (settled a)) (loaded (told (retired a.settings a.state)) (settled a)) (refused NoAssociation)
unfolding load_in
load_tests bs =
    let a = record_in bs in
    both_tests (known bs) (whole_of (settled a)) (loaded (told (retired a.settings a.state)) (settled a)) (refused NoAssociation)

-- ---- a record that has none of the retired kind

version_same : (v : Version) → upgrading v.kind ≡ false → settled_of v ≡ v
version_same v e = λ i. record { kind = version.settled_same v.kind e i }

module _ (a : Association) where
  -- promise: no14.5
  pub settled_same : Current a → settled a ≡ a
  unfolding settled settled_settings settled_state
  settled_same c =
      let s = a.settings in
      let q = a.state in
      let start = version_same s.start c.0 in
      let spoken = version_same q.version c.1 in
      λ i. record {
        settings =
            record {
              min = s.min;
              max = s.max;
              startup = s.startup;
              window = s.window;
              upgrademark = s.upgrademark;
              start = start i;
              nts = s.nts;
              source = s.source;
              capacity = s.capacity;
            };
        stash = a.stash;
        state = record { effort = q.effort; version = spoken i; polls = q.polls; source = q.source; request = q.request };
      }

  pub retired_none : Current a → retired a.settings a.state ≡ false
  unfolding retired
  retired_none c = ap (λ (b : Bool). b || upgrading a.state.version.kind) c.0 ∙ c.1

  pub none_retired : retired a.settings a.state ≡ false → Current a
  unfolding retired
  none_retired e = by (upgrading a.settings.start.kind) (upgrading a.state.version.kind) e
    where
      by : (b c : Bool) → (b || c) ≡ false → (b ≡ false) × (c ≡ false)
      by true c e = absurd (false≢true (sym e))
      by false c e = (refl, e)

  -- what is settled has none of it
  pub settled_current : Current (settled a)
  unfolding settled settled_settings settled_state
  settled_current = (version.settled_stays a.settings.start.kind, version.settled_stays a.state.version.kind)

  -- so a record is loaded as it was read exactly where the answer does not say that the retired kind was there
  -- promise: no14.4 (a record is loaded as it was read exactly if `retired` is no)
  pub as_read : (settled a ≡ a) ↔ (retired a.settings a.state ≡ false)
  as_read = (
    λ e. retired_none (
      sym (ap (λ (x : Association). upgrading x.settings.start.kind) e) ∙ settled_current.0,
      sym (ap (λ (x : Association). upgrading x.state.version.kind) e) ∙ settled_current.1,
    ),
    λ e. settled_same (none_retired e),
  )

-- ---- which files load otherwise than before

versions_settled : (start spoken : Version) → versions_valid (settled_of start) (settled_of spoken) ≡ true
unfolding versions_valid
versions_settled start spoken = passes _ (ap not (version.settled_stays start.kind)) ∙ ap not (version.settled_stays spoken.kind)

-- a settled record is whole exactly where the one that was read was whole before
-- promise: no14.4
pub whole_settled : (a : Association) → whole_of (settled a) ≡ whole_before a
unfolding whole_of whole_seen settings_valid settled settled_settings settled_state whole_before
whole_settled a = rw (versions_settled a.settings.start a.state.version)

-- what an answer of now is, of one of before: the same number, the record settled, and whether there was anything to settle
pub record Otherwise (was : Before) (o : LoadOut) : Type 0 where
  pub number : load_number o.answer ≡ was.number
  pub association : o.association ≡ settled was.association
  pub says : says_retired o.answer ≡ retired was.association.settings was.association.state

blank_same : settled blank_of ≡ blank_of
unfolding settled settled_settings settled_state blank_of
blank_same = refl

blank_current : retired blank_of.settings blank_of.state ≡ false
unfolding retired blank_of
blank_current = refl

otherwise_in : (bs : List (List ℕ)) → Otherwise (before_in bs) (load_in bs)
unfolding before_in load_in
otherwise_in bs = by (known bs) (whole_of (settled (record_in bs))) (whole_before (record_in bs)) (whole_settled (record_in bs))
  where
    by : (k w v : Bool) → w ≡ v → let a = record_in bs in
        Otherwise (cond k (cond v (before 0 a) (before 63 blank_of)) (before 63 blank_of))
        (cond k (cond w (loaded (told (retired a.settings a.state)) (settled a)) (refused NoAssociation)) (refused NoAssociation))
    by true true true e = record { number = refl; association = refl; says = refl }
    by true false false e = record { number = refl; association = sym blank_same; says = sym blank_current }
    by true true false e = absurd (false≢true (sym e))
    by true false true e = absurd (false≢true e)
    by false w v e = record { number = refl; association = sym blank_same; says = sym blank_current }

otherwise_on : (c : Cut) → Otherwise (before_on c) (on_cut c)
otherwise_on (bodies bs) = otherwise_in bs
otherwise_on misplaced = record { number = refl; association = sym blank_same; says = sym blank_current }
otherwise_on missized = record { number = refl; association = sym blank_same; says = sym blank_current }

-- of any file
-- promise: no14.4 (of any file: the number is the one given before, `specs/Before`: `before_of`; the record is that record settled, and `retired` says whether
--     there was anything to settle)
pub otherwise : (f : List ℕ) → Otherwise (before_of f) (load_of f)
unfolding load_of before_of
otherwise f = otherwise_on (cut_as shapes f)
