-- The records of the hand-over file for effort, version, polls and source (RULES, No. 6), as specs/Settings.antt has it for the settings.
-- Assumes nothing.
use Rattle.std.specs.Prelude.{ℕ, ◌^◌, Bool, List, [], ◌∷◌, ◌++◌, get_or}
use Rattle.words.specs.Bytes.{be, part, to_be}
use Rattle.words.specs.Signed.{signed, unsigned}
use Rattle.identifiers.specs.Names.{named}
use Rattle.time_types.specs.Poll.{interval}
use Rattle.version.specs.declared.Version.{Version}
use Rattle.version.specs.Upgrade.{version}
use Rattle.reach.specs.Register.{unanswered_of}
use Rattle.association.specs.declared.Effort.{Effort}
use Rattle.association.specs.declared.Polls.{Polls}
use Rattle.association.specs.declared.Source.{Source}
use Rattle.handover_groups.specs.Codes.{yes_code, yes_of, yes_known, kind_code, tries_code, kind_of, kind_known}

-- ---- effort: reach 1, tries 1

-- promise no8.8: A hand-over file does not carry the unanswered polls. A load sets them from reach.
-- promise: no6.1
unfoldable pub effort_bytes : Effort → List ℕ
effort_bytes e = e.reach.0 ∷ e.tries ∷ []

-- the unanswered polls are not written: a load sets them from reach (No. 8)
-- promise: no8.8
unfoldable pub effort_of : List ℕ → Effort
effort_of b = record { reach = record { 0 = get_or b 0 0 }; tries = get_or b 1 0; unanswered = unanswered_of (record { 0 = get_or b 0 0 }) }

-- ---- version: kind 1, tries 1

-- promise: no6.1
unfoldable pub version_bytes : Version → List ℕ
version_bytes v = kind_code v.kind ∷ tries_code v.kind ∷ []

unfoldable pub version_of : List ℕ → Version
version_of b = version (kind_of (get_or b 0 0) (get_or b 1 0))

unfoldable pub version_known : List ℕ → Bool
version_known b = kind_known (get_or b 0 0) (get_or b 1 0)

-- ---- polls: last 1, remote minimum 1

-- promise: no6.1
unfoldable pub polls_bytes : Polls → List ℕ
polls_bytes p = unsigned (2 ^ 7) p.last.0 ∷ unsigned (2 ^ 7) p.remote.0 ∷ []

unfoldable pub polls_of : List ℕ → Polls
polls_of b = record { last = interval (signed (2 ^ 7) (get_or b 0 0)); remote = interval (signed (2 ^ 7) (get_or b 1 0)) }

-- ---- source: stratum 1, reference identifier 4, denial 1

-- promise: no6.1
unfoldable pub source_bytes : Source → List ℕ
source_bytes s = s.stratum ∷ (to_be 4 s.refid.0 ++ (yes_code s.denial ∷ []))

unfoldable pub source_of : List ℕ → Source
source_of b = record { stratum = get_or b 0 0; refid = named (be (part b 1 4)); denial = yes_of (get_or b 5 0) }

unfoldable pub source_known : List ℕ → Bool
source_known b = yes_known (get_or b 5 0)
