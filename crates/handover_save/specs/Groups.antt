-- The file by the groups of the association (RULES, No. 6).
-- Assumes nothing.
use Rattle.std.specs.Prelude.{ℕ, List, ◌++◌}
use Rattle.words.specs.Put.{record_of}
use Rattle.cookiestash.specs.declared.CookieStash.{CookieStash}
use Rattle.association.specs.declared.Settings.{Settings}
use Rattle.association.specs.declared.State.{State}
use Rattle.handover_groups.specs.Settings.{settings_bytes}
use Rattle.handover_groups.specs.State.{effort_bytes, version_bytes, polls_bytes, source_bytes}
use Rattle.handover_file.specs.Cookies.{stash_bytes}

-- the records of the state, and all of them
unfoldable pub state_records : State → List ℕ
state_records s =
    record_of 0x5245 (effort_bytes s.effort)
    ++ (record_of 0x5645 (version_bytes s.version)
    ++ (record_of 0x504F (polls_bytes s.polls)
    ++ record_of 0x534F (source_bytes s.source)))

unfoldable pub groups_file : Settings → CookieStash → State → List ℕ
groups_file settings s state = record_of 0x5345 (settings_bytes settings) ++ (record_of 0x5354 (stash_bytes settings.capacity s) ++ state_records state)
