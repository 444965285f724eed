-- The hand-over file (RULES, No. 6, No. 12 and No. 14): six records in one fixed order, written from a record and read as one. No pending request is written.
-- Assumes nothing.
use Rattle.std.specs.Prelude.{ℕ, Bool, ◌&&◌, ◌||◌, false, List, [], ◌∷◌, eqb, length, get_or}
use Rattle.version.specs.Upgrade.{upgrading, settled_of}
use Rattle.association.specs.declared.Settings.{Settings}
use Rattle.association.specs.declared.State.{State}
use Rattle.association.specs.declared.Association.{Association}
use Rattle.association.specs.Record.{no_pending, with_stash}
use Rattle.handover_groups.specs.Settings.{settings_bytes, settings_of, settings_known}
use Rattle.handover_groups.specs.State.{effort_bytes, effort_of, version_bytes, version_of, version_known, polls_bytes, polls_of}
use Rattle.handover_groups.specs.State.{source_bytes, source_of, source_known}
use Rattle.handover_file.specs.Sections.{Shape, joined}
use Rattle.handover_file.specs.Cookies.{stash_bytes, stash_fits, stash_known, stash_of, empty_at}

-- a record of n bytes
abbrev pub sized : ℕ → ℕ → Shape
sized m n = record { mark = m; fits = λ b. eqb (length b) n }

-- the settings have 27 bytes; in a file from before No. 12, which has no capacity, they have 26
-- promise: no12.5 (27 bytes, or 26)
abbrev pub settings_fits : List ℕ → Bool
settings_fits b = eqb (length b) 27 || eqb (length b) 26

-- the marks S E, S T, R E, V E, P O, S O, and what each record's body is tested for
-- promise: no6.1
abbrev pub shapes : List Shape
shapes =
    record { mark = 0x5345; fits = settings_fits }
    ∷ record { mark = 0x5354; fits = stash_fits }
    ∷ sized 0x5245 2
    ∷ sized 0x5645 2
    ∷ sized 0x504F 2
    ∷ sized 0x534F 6
    ∷ []

-- ---- the writer

abbrev pub parts_of : Association → List (List ℕ)
parts_of a =
    settings_bytes a.settings
    ∷ stash_bytes a.settings.capacity a.stash
    ∷ effort_bytes a.state.effort
    ∷ version_bytes a.state.version
    ∷ polls_bytes a.state.polls
    ∷ source_bytes a.state.source
    ∷ []

-- promise: no6.1
unfoldable pub file_of : Association → List ℕ
file_of a = joined shapes (parts_of a)

-- what writing returns: an empty stash with its reading place kept
-- promise no6.2: Writing a file returns the association with its stash empty and the reading place kept, so that a cookie has one owner.
--     edit: handover_save/the_stash_stays_filled, handover_save/the_reading_place_is_zeroed
unfoldable pub emptied : Association → Association
emptied a = with_stash a (empty_at a.stash.read)

-- ---- the reader

-- a loaded association has sent nothing yet
-- promise no6.3: Reading a written file gives the record before writing, without the pending request and `answered` (No. 3).
--     edit: handover_file/the_walk_begins_at_the_second_cookie, handover_file/a_stashed_cookie_is_passed_over
unfoldable pub unsent : Association → Association
unsent a =
    record {
      settings = a.settings;
      stash = a.stash;
      state =
          record {
            effort = a.state.effort;
            version = a.state.version;
            polls = a.state.polls;
            source = a.state.source;
            request = no_pending false;
          };
    }

-- of six bodies: known codes, and a stash of the settings' capacity
-- promise: no6.7
unfoldable pub known : List (List ℕ) → Bool
known bs =
    settings_known (get_or bs 0 []) && (stash_known (settings_of (get_or bs 0 [])).capacity (get_or bs 1 [])
    && (version_known (get_or bs 3 []) && source_known (get_or bs 5 [])))

-- the state in four bodies, with nothing pending
abbrev pub state_in : List ℕ → List ℕ → List ℕ → List ℕ → State
state_in effort version polls source =
    record {
      effort = effort_of effort;
      version = version_of version;
      polls = polls_of polls;
      source = source_of source;
      request = no_pending false;
    }

-- promise: no6.7, no12.5
unfoldable pub record_in : List (List ℕ) → Association
record_in bs =
    record {
      settings = settings_of (get_or bs 0 []);
      stash = stash_of (settings_of (get_or bs 0 [])).capacity (get_or bs 1 []);
      state = state_in (get_or bs 2 []) (get_or bs 3 []) (get_or bs 4 []) (get_or bs 5 []);
    }

-- ---- the retired kind (RULES, No. 14)

-- the start version, or the version, is of that kind
-- promise: no14.4
unfoldable pub retired : Settings → State → Bool
retired s q = upgrading s.start.kind || upgrading q.version.kind

-- V4 in its place, in the settings and in the state
unfoldable pub settled_settings : Settings → Settings
settled_settings s =
    record {
      min = s.min;
      max = s.max;
      startup = s.startup;
      window = s.window;
      upgrademark = s.upgrademark;
      start = settled_of s.start;
      nts = s.nts;
      source = s.source;
      capacity = s.capacity;
    }

unfoldable pub settled_state : State → State
settled_state q = record { effort = q.effort; version = settled_of q.version; polls = q.polls; source = q.source; request = q.request }

-- a record that was read, as it is loaded
-- promise: no14.4
unfoldable pub settled : Association → Association
settled a = record { settings = settled_settings a.settings; stash = a.stash; state = settled_state a.state }
