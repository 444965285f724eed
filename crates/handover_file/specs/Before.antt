-- The reader of the hand-over file as it was before No. 14, to state which files load differently now: it loaded the retired kind unchanged.
-- Assumes nothing.
use Rattle.std.specs.Prelude.{ℕ, Bool, ◌&&◌, cond, List}
use Rattle.cookiestash.specs.Whole.{seen_of}
use Rattle.association.specs.declared.Association.{Association}
use Rattle.association.specs.Settings.{settings_valid}
use Rattle.association.specs.Record.{blank_of, effort_valid, pending_valid, idle_valid}
use Rattle.handover_file.specs.Sections.{Cut, bodies, misplaced, missized, cut_as}
use Rattle.handover_file.specs.File.{shapes, known, record_in}

-- whole, except for the versions
unfoldable pub whole_before : Association → Bool
whole_before a =
    let v = seen_of a.settings.capacity a.stash in
    settings_valid a.settings
    && (v.whole
    && (effort_valid a.state.effort
    && (pending_valid a.state.request
    && idle_valid a.settings.nts v.read v.held a.state.request.uid)))

pub record Before : Type 0 where
  pub number : ℕ
  pub association : Association

abbrev pub before : ℕ → Association → Before
before n a = record { number = n; association = a }

unfoldable pub before_in : List (List ℕ) → Before
before_in bs = cond (known bs) (cond (whole_before (record_in bs)) (before 0 (record_in bs)) (before 63 blank_of)) (before 63 blank_of)

abbrev pub before_on : Cut → Before
before_on (bodies bs) = before_in bs
before_on misplaced = before 61 blank_of
before_on missized = before 62 blank_of

unfoldable pub before_of : List ℕ → Before
before_of f = before_on (cut_as shapes f)
