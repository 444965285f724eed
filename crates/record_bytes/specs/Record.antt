-- The record that a connector lends: its bytes, all of them, 92 + 726 × capacity. Numbers are big-endian, a yes is 1 and a no 0.
--
--     0   settings 27, as the hand-over file's settings record         27  reading place 1     28  cookies held 1
--     29  reach 1, tries 1, unanswered 1       32  version 2 (kind, tries)       34  last poll 1, remote minimum 1
--     36  stratum 1, reference identifier 4, denial 1
--     42  pending: present 1, answered 1, id 8, deadline 8, uid 32
--     92  for each place of the stash, as many as the capacity: 724 bytes, length 2
--
-- Assumes nothing.
use Rattle.std.specs.Prelude.{ℕ, Bool, ◌&&◌, cond, List, ◌∷◌, ◌++◌, leb, length, take, drop, Option, Some, None}
use Rattle.words.specs.Bytes.{part}
use Rattle.association.specs.declared.Settings.{Settings}
use Rattle.association.specs.declared.State.{State}
use Rattle.association.specs.declared.Association.{Association}
use Rattle.handover_groups.specs.Settings.{settings_bytes, settings_of, settings_known}
use Rattle.record_stash.specs.Rows.{sized_in, stash_in, rows_of}
use Rattle.record_bytes.specs.declared.Opened.{Opened}
use Rattle.record_bytes.specs.State.{state_bytes, state_of, state_known}

-- ---- what bytes hold

abbrev pub settings_in : List ℕ → Settings
settings_in b = settings_of (part b 0 27)

abbrev pub state_in : List ℕ → State
state_in b = state_of (part b 29 63)

-- promise: exports.1
unfoldable pub unpacked : List ℕ → Association
unpacked b = record { settings = settings_in b; stash = stash_in b (settings_in b).capacity; state = state_in b }

-- only the slots within the capacity
-- promise: exports.1
unfoldable pub packed : Association → List ℕ
packed a =
    settings_bytes a.settings
    ++ (a.stash.read ∷ a.stash.held ∷ (state_bytes a.state ++ rows_of (take a.settings.capacity a.stash.slots)))

-- ---- when they are a record

-- the number of bytes fits the capacity, and every code is known
unfoldable pub ok_in : List ℕ → ℕ → Bool
ok_in b cap = sized_in b cap && (settings_known (part b 0 27) && state_known (part b 29 63))

-- promise exports.1: Packing loses nothing: the bytes of a record are what it unpacks to, packed. What is packed is a record and unpacks to what it was.
--     edit: record_bytes/the_state_goes_a_byte_before_its_place
unfoldable pub ok : List ℕ → Bool
ok b = ok_in b (settings_in b).capacity

-- ---- opened, and written

-- the settings and the state that stand in bytes
abbrev pub opened : List ℕ → Opened
opened b = record { settings = settings_in b; state = state_in b }

-- those of a record; none of bytes that are no record
unfoldable pub opened_of : List ℕ → Option Opened
opened_of b = cond (ok b) (Some (opened b)) None

-- another state; bytes that are too short for a head do not change
unfoldable pub stored_state : List ℕ → State → List ℕ
stored_state b s = cond (leb 92 (length b)) (take 29 b ++ (state_bytes s ++ drop 92 b)) b

-- another head, with an empty stash
unfoldable pub headed : List ℕ → Settings → ℕ → State → List ℕ
headed b s read q = cond (leb 92 (length b)) (settings_bytes s ++ (read ∷ 0 ∷ (state_bytes q ++ drop 92 b))) b
