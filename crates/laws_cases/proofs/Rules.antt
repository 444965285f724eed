-- Every claim of the table of specs/Rules.antt holds, row by row: each is computed from the definitions.
-- Assumes nothing.
use mathlib.Core.Path.{refl}
use Prim.Native.Nat.{ℕ, ◌-◌, ◌^◌}
use Rattle.words.specs.Bytes.{be, part}
use Rattle.cookielist.specs.List.{record_mark_at, length_at, entry_at, cookies_from, cookies_in}
use Rattle.association.specs.Settings.{settings_valid}
use Rattle.association.specs.New.{new_of}
use Rattle.version.specs.declared.ProtocolVersion.{ProtocolVersion}
use Rattle.version.specs.declared.ProtocolVersion.TheVariants.{V4, Upgrading, Upgraded, V5}
use Rattle.version.specs.Upgrade.{fallen_back}
use Rattle.timer_rules.specs.Poll.{deadline_of, tried_of, pending_of}
use Rattle.association_metered.specs.Profile.{profile_of}
use Rattle.laws_cases.specs.All.{All, end, ◌&◌}
use Rattle.laws_cases.specs.Rules.{tries, due, Right, table}

-- whatever else the state holds, and whatever else the poll is given
tried : (k : ProtocolVersion) (n : ℕ) → Right (tries k n (fallen_back k n))
unfolding tried_of
tried k n s e f = rw (e, f)

held_at_lem : (sent window : ℕ) → Right (due sent window (deadline_of sent window))
unfolding pending_of
held_at_lem sent window nts i e = rw e

pub rules_hold : All Right table
unfolding be part record_mark_at length_at entry_at cookies_from cookies_in settings_valid new_of tried_of pending_of profile_of
rules_hold =
    refl
    & refl
    & refl
    & refl
    & refl
    & refl
    & refl
    & refl
    & refl
    & refl
    & refl
    & refl
    & refl
    & refl
    & refl
    & refl
    & refl
    & refl
    & refl
    & refl
    & tried Upgraded 1
    & tried Upgraded 2
    & tried V5 8
    & tried V4 8
    & tried (Upgrading 1) 8
    & held_at_lem 1000 5000
    & held_at_lem (2 ^ 64 - 5001) 5000
    & held_at_lem (2 ^ 64 - 5002) 5000
    & held_at_lem (2 ^ 64 - 5000) 5000
    & held_at_lem (2 ^ 64 - 1) 60000000000
    & refl
    & refl
    & refl
    & refl
    & refl
    & refl
    & refl
    & refl
    & refl
    & refl
    & refl
    & refl
    & refl
    & refl
    & refl
    & refl
    & refl
    & refl
    & refl
    & refl
    & refl
    & refl
    & refl
    & refl
    & refl
    & refl
    & refl
    & refl
    & refl
    & refl
    & end
