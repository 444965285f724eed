-- The record: blank, new, and when it is whole (RULES, "Settings and a whole record" and No. 12).
-- Assumes nothing.
use Rattle.std.specs.Prelude.{Bool, false, not, cond, ◌&&◌, ◌||◌, List, ℕ, eqb, pos, replicate}
use Rattle.words.specs.Bytes.{zeros}
use Rattle.identifiers.specs.Names.{named, xnon}
use Rattle.reach.specs.Register.{never_of, unanswered_of}
use Rattle.cookiestash.specs.declared.CookieStash.{CookieStash}
use Rattle.cookiestash.specs.declared.Seen.{Seen}
use Rattle.cookiestash.specs.Stash.{new_of}
use Rattle.cookiestash.specs.Whole.{seen_of}
use Rattle.version.specs.declared.ProtocolVersion.TheVariants.{V4}
use Rattle.version.specs.declared.Version.{Version}
use Rattle.version.specs.Upgrade.{version, upgrading}
use Rattle.time_types.specs.Poll.{interval}
use Rattle.association.specs.declared.Settings.{Settings}
use Rattle.association.specs.declared.Effort.{Effort}
use Rattle.association.specs.declared.Pending.{Pending}
use Rattle.association.specs.declared.State.{State}
use Rattle.association.specs.declared.Association.{Association}
use Rattle.association.specs.Settings.{settings_valid}

-- nothing is pending: absent things are zero, but it keeps whether a reply has been measured since the last sent poll (RULES, No. 3)
-- promise no3.1: The record keeps in `answered` of the request whether a reply was measured since the last sent poll: then the next one is already measured
--     (13). A 20 makes it no, a 0 yes. A new record and the blank one have no.
--     edit: reply_clauses/a_measured_reply_is_forgotten
unfoldable pub no_pending : Bool → Pending
no_pending answered = record { present = false; id = 0; uid = replicate 32 0; deadline = 0; answered = answered }

-- the blank record: all zero, V4
-- promise: whole.4, no3.1
unfoldable pub blank_of : Association
blank_of =
    record {
      settings =
          record {
            min = interval (pos 0);
            max = interval (pos 0);
            startup = 0;
            window = 0;
            upgrademark = 0;
            start = version V4;
            nts = false;
            source = named 0;
            capacity = 0;
          };
      stash = new_of;
      state =
          record {
            effort = record { reach = never_of; tries = 0; unanswered = 0 };
            version = version V4;
            polls = record { last = interval (pos 0); remote = interval (pos 0) };
            source = record { stratum = 0; refid = named 0; denial = false };
            request = no_pending false;
          };
    }

-- a new association has reach 0, tries 0, 8 unanswered polls (RULES, No. 8), stratum 16, reference identifier XNON, both poll values at min, nothing pending,
-- no reply measured, no denial noted
-- promise whole.4: `new` answers 30, 33 and 38 in this order. A rejection leaves the blank record.
--     edit: association/a_new_source_has_stratum_0, association/a_retired_start_is_a_bad_setting
-- promise no8.2: The unanswered polls are 8 when new.
-- promise: no3.1
unfoldable pub fresh_of : Settings → Association
fresh_of s =
    record {
      settings = s;
      stash = new_of;
      state =
          record {
            effort = record { reach = never_of; tries = 0; unanswered = 8 };
            version = s.start;
            polls = record { last = s.min; remote = s.min };
            source = record { stratum = 16; refid = named xnon; denial = false };
            request = no_pending false;
          };
    }

-- the record with another stash, and with another state
abbrev pub with_stash : Association → CookieStash → Association
with_stash a s = record { settings = a.settings; stash = s; state = a.state }

abbrev pub with_state : Association → State → Association
with_state a s = record { settings = a.settings; stash = a.stash; state = s }

-- the unanswered polls are those of reach, the trailing zeros (RULES, No. 8)
-- promise no8.6: A record whose unanswered polls disagree with reach is not whole: 32.
unfoldable pub effort_valid : Effort → Bool
effort_valid e = eqb e.unanswered (unanswered_of e.reach)

-- while a request is pending no reply has been measured (RULES, No. 3); absent things are zero
-- promise no3.3: A record with `answered` beside a pending request is not whole.
unfoldable pub pending_valid : Pending → Bool
pending_valid r = cond r.present (not r.answered) (eqb r.id 0 && (eqb r.deadline 0 && zeros r.uid))

-- without NTS read, held and uid are zero
unfoldable pub idle_valid : Bool → ℕ → ℕ → List ℕ → Bool
idle_valid nts read held uid = nts || (eqb read 0 && (eqb held 0 && zeros uid))

-- neither the start version nor the version is of the retired kind (RULES, No. 14)
-- promise no14.3: A record with the upgrading version, as start version or as version, is not whole.
--     edit: association/only_the_start_version_is_looked_at
-- promise: no14.3 (a clause of `whole_seen`)
unfoldable pub versions_valid : Version → Version → Bool
versions_valid start spoken = not (upgrading start.kind) && not (upgrading spoken.kind)

-- a record is whole if its settings are valid, its stash is whole (read < capacity, held ≤ capacity, free slots have length 0, those past the capacity too,
-- bytes past a slot's stored bytes are zero), its unanswered polls are those of reach, its versions are not of the retired kind, a pending request is
-- unanswered, absent things are zero, and without NTS read, held and uid are zero
-- promise whole.2: When a record is whole. Run: `drills/broken-record.drill`, `drills/poke.drill`, `drills/whole-record.drill`,
--     `drills/no-live-request.drill`, `drills/unanswered.drill`.
-- promise: no8.6, no14.3
unfoldable pub whole_seen : Settings → Seen → State → Bool
whole_seen s v q =
    settings_valid s
    && (v.whole
    && (effort_valid q.effort
    && (versions_valid s.start q.version
    && (pending_valid q.request
    && idle_valid s.nts v.read v.held q.request.uid))))

-- promise no12.3: A whole record has read below the capacity and held at most the capacity; slots past it are free.
--     edit: cookiestash/a_slot_past_the_capacity_is_held
-- promise: whole.2 (test)
unfoldable pub whole_of : Association → Bool
whole_of a = whole_seen a.settings (seen_of a.settings.capacity a.stash) a.state
