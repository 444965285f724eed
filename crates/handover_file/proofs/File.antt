-- A written file is read as its record with nothing sent; apart from the pending request two whole records are equal exactly when their files are; and how
-- long a file may be.
-- Assumes nothing.
use Prim.Native.Nat.{ℕ, ◌+◌, ◌*◌, ◌^◌, ◌≤◌, ◌<◌}
use mathlib.Core.Path.{◌≡◌, refl, sym, ap, ◌∙◌}
use mathlib.Core.Bool.{Bool, true, false, ◌&&◌}
use mathlib.Core.List.{List}
use mathlib.Core.Logic.{◌↔◌}
use native.Mathlib.Omega.{arith}
use borrow.Author.Tests.{eq-eqb}
use lib.Dec.{lit<, eqb}
use lib.ListN.{length, length-append}
use Rattle.words.specs.Bytes.{zeros}
use Rattle.words.proofs.Put.{record_long}
use Rattle.words.proofs.Tests.{passes, both}
use Rattle.words.proofs.Zeros.{of_zeros}
use Rattle.cookiestash.specs.Queue.{cookies}
use Rattle.association.specs.declared.Association.{Association}
use Rattle.association.specs.declared.Settings.{Settings}
use Rattle.association.specs.Record.{no_pending, pending_valid, idle_valid}
use Rattle.association.specs.Whole.{Whole}
use Rattle.association.proofs.Whole.{of_whole, none_retired}
use Rattle.handover_groups.specs.Settings.{settings_bytes, settings_of}
use Rattle.handover_groups.proofs.OfSettings.{SettingsFit, settings_back, settings_known_lem, settings_long}
use Rattle.handover_groups.proofs.OfState.{
  PollsFit,
  effort_back,
  effort_long,
  version_back,
  version_known_lem,
  version_long,
  polls_back,
  polls_long,
  source_back,
  source_known_lem,
  source_long,
}
use Rattle.handover_file.specs.declared.LoadOut.{LoadOut}
use Rattle.handover_file.specs.Sections.{Fitting}
use Rattle.handover_file.specs.Cookies.{stash_bytes, stash_known, stash_of}
use Rattle.handover_file.specs.File.{settings_fits, shapes, parts_of, file_of, unsent, known, record_in}
use Rattle.handover_file.specs.Answers as answers
use Rattle.handover_file.proofs.Settled.{settled_same, retired_none}
use Rattle.handover_file.proofs.Sections.{cut_joined}
use Rattle.handover_file.proofs.Cookies.{AllFill, stash_back, stash_known_lem, stash_fits_lem, stash_most, stash_long, stash_longest}

-- what the types say of a record
pub record Fit (a : Association) : Type 0 where
  pub settings : SettingsFit a.settings
  pub eight : length a.stash.slots ≡ 8
  pub polls : PollsFit a.state.polls
  pub refid : a.state.source.refid.0 < 2 ^ 32

idle_unsent : (nts : Bool) (read held : ℕ) (uid : List ℕ) → idle_valid nts read held uid ≡ true → idle_valid nts read held (no_pending false).uid ≡ true
unfolding idle_valid no_pending
idle_unsent true read held uid e = refl
idle_unsent false read held uid e =
    let r = both (eqb read 0) (eqb held 0 && zeros uid) e in
    let h = both (eqb held 0) (zeros uid) r.1 in
    passes _ r.0 ∙ passes _ h.0 ∙ of_zeros 32

pub none_valid : pending_valid (no_pending false) ≡ true
unfolding no_pending pending_valid
none_valid = of_zeros 32

pub unsent_whole : (a : Association) → Whole a → Whole (unsent a)
unfolding unsent
unsent_whole a w =
    record {
      settings = w.settings;
      stash = w.stash;
      counted = w.counted;
      versions = w.versions;
      request = none_valid;
      idle = idle_unsent a.settings.nts a.stash.read a.stash.held a.state.request.uid w.idle;
    }

pub file_length : (a : Association) → length (file_of a) ≡ 63 + length (stash_bytes a.settings.capacity a.stash)
unfolding file_of
file_length a =
    simp (
      length-append,
      record_long,
      settings_long a.settings,
      effort_long a.state.effort,
      version_long a.state.version,
      polls_long a.state.polls,
      source_long a.state.source,
    )
    (omega arith)

-- 27 bytes are settings by their length
pub fits_new : (b : List ℕ) → length b ≡ 27 → settings_fits b ≡ true
fits_new b n = rw (eq-eqb (length b) 27 n)

module _ (a : Association) (w : Whole a) (f : Fit a) where
  fitting : Fitting shapes (parts_of a)
  fitting =
      let se = settings_long a.settings in
      let st = stash_long a.settings.capacity a.stash w.stash f.eight in
      let re = effort_long a.state.effort in
      let ve = version_long a.state.version in
      let po = polls_long a.state.polls in
      let so = source_long a.state.source in (
        lit< tt,
        omega arith,
        fits_new (settings_bytes a.settings) se,
        (
          lit< tt,
          omega arith,
          stash_fits_lem a.settings.capacity a.stash w.stash f.eight,
          (
            lit< tt,
            omega arith,
            eq-eqb _ 2 re,
            (
              lit< tt,
              omega arith,
              eq-eqb _ 2 ve,
              (
                lit< tt,
                omega arith,
                eq-eqb _ 2 po,
                (
                  lit< tt,
                  omega arith,
                  eq-eqb _ 6 so,
                  tt,
                ),
              ),
            ),
          ),
        ),
      )

  -- the capacity is read back, and the stash over it
  capacity_back : (settings_of (settings_bytes a.settings)).capacity ≡ a.settings.capacity
  capacity_back = ap (λ (s : Settings). s.capacity) (settings_back a.settings f.settings)

  record_back : record_in (parts_of a) ≡ unsent a
  unfolding record_in unsent
  record_back =
      let se = settings_back a.settings f.settings in
      let body = stash_bytes a.settings.capacity a.stash in
      let st = ap (λ (c : ℕ). stash_of c body) capacity_back ∙ stash_back a.settings.capacity a.stash w.stash f.eight in
      let re = effort_back a.state.effort w.counted in
      let ve = version_back a.state.version in
      let po = polls_back a.state.polls f.polls in
      let so = source_back a.state.source f.refid in
      λ i. record { settings = se i; stash = st i; state = record { effort = re i; version = ve i; polls = po i; source = so i; request = no_pending false } }

  known_back : known (parts_of a) ≡ true
  unfolding known
  known_back =
      let body = stash_bytes a.settings.capacity a.stash in
      let st = ap (λ (c : ℕ). stash_known c body) capacity_back ∙ stash_known_lem a.settings.capacity a.stash w.stash f.eight in
      passes _ (settings_known_lem a.settings) ∙ passes _ st ∙ passes _ (version_known_lem a.state.version) ∙ source_known_lem a.state.source

  loaded : answers.load_in (parts_of a) ≡ answers.loaded (answers.told false) (unsent a)
  unfolding answers.load_in
  loaded =
      let u = unsent_whole a w in
      rw (
        known_back,
        record_back,
        settled_same (unsent a) (none_retired (unsent a) u),
        of_whole (unsent a) u,
        retired_none (unsent a)
            (none_retired (unsent a) u),
      )

  -- reading a written file gives the record as it was, with nothing sent, and with nothing of the retired kind
  -- promise no12.6: The equality of No. 6 is over files with the byte of the capacity.
  -- promise: no6.3, no8.8
  pub read_file : answers.load_of (file_of a) ≡ answers.loaded (answers.told false) (unsent a)
  unfolding answers.load_of file_of
  read_file = ap answers.on_cut (cut_joined shapes (parts_of a) fitting) ∙ loaded

  -- no file is longer: over the capacity, and for any
  -- promise: no6.9
  pub file_most : length (file_of a) ≤ 64 + 726 * a.settings.capacity
  file_most = omega (arith, file_length a, stash_most a.settings.capacity a.stash w.stash f.eight)

  -- promise no6.9: The longest file has 5,872 bytes, and with that buffer 60 is never given. For a capacity it has 64 bytes and 726 for each slot.
  pub file_longest : length (file_of a) ≤ 5872
  file_longest = omega (arith, file_most, w.stash.most)

-- and one is as long: that of as many cookies as the capacity that fill their slots
-- promise: no6.9
pub file_as_long : (a : Association) → Whole a → a.stash.held ≡ a.settings.capacity → AllFill (cookies a.settings.capacity a.stash) →
    length (file_of a) ≡ 64 + 726 * a.settings.capacity
file_as_long a w h f = omega (arith, file_length a, stash_longest a.settings.capacity a.stash w.stash h f)

same_record : (a b : Association) → Whole a → Fit a → Whole b → Fit b → file_of a ≡ file_of b → unsent a ≡ unsent b
same_record a b v f w g e = ap (λ (o : LoadOut). o.association) (sym (read_file a v f) ∙ ap answers.load_of e ∙ read_file b w g)

request_unwritten : (a : Association) → file_of (unsent a) ≡ file_of a
unfolding file_of unsent
request_unwritten a = refl

same_file : (a b : Association) → unsent a ≡ unsent b → file_of a ≡ file_of b
same_file a b e = sym (request_unwritten a) ∙ ap file_of e ∙ request_unwritten b

-- apart from the request, records are equal exactly where their files are
-- promise no6.4: Apart from the pending request and `answered`, records are equal exactly when their files are.
-- promise: no8.8, no12.6 (of all that is written)
pub equal_files : (a b : Association) → Whole a → Fit a → Whole b → Fit b → (unsent a ≡ unsent b) ↔ (file_of a ≡ file_of b)
equal_files a b v f w g = (same_file a b, same_record a b v f w g)
