-- RULES, No. 11: the metered profile, in order 30, 33, 34, 35, 36, 37, 0, and the call that makes a metered association.
-- Assumes nothing.
use Rattle.std.specs.Prelude.{Bool, false, ◌&&◌, ◌||◌, cond, List, [], ◌∷◌, ℕ, ltb, eqb, pos, length, Result, Ok, Err}
use Rattle.std.specs.Int.Signed.{lt_z}
use Rattle.cookielist.specs.List.{Listed, whole, broken, cookies_in, list_broken}
use Rattle.cookiestash.specs.Falling.{none_dropped}
use Rattle.version.specs.Upgrade.{upgrading}
use Rattle.association.specs.declared.Settings.{Settings}
use Rattle.association.specs.Settings.{settings_valid}
use Rattle.association.specs.Record.{blank_of}
use Rattle.association.specs.New.{new_of}
use Rattle.association_metered.specs.declared.ProfileRefusal.{ProfileRefusal}
use Rattle.association_metered.specs.declared.ProfileRefusal.TheVariants.{
  BadSettings,
  BrokenList,
  LowPollMin,
  HighStartup,
  UpgradingStart,
  LongCookie,
}
use Rattle.association_metered.specs.declared.MeteredOut.{MeteredOut}

-- 0 the profile is met; 30 settings outside the ranges; 33 broken cookie list; 34 to 37 the four rules, in their order
abbrev pub number_of : Result (Unit {0}) ProfileRefusal → ℕ
number_of (Ok met) = 0
number_of (Err BadSettings) = 30
number_of (Err BrokenList) = 33
number_of (Err LowPollMin) = 34
number_of (Err HighStartup) = 35
number_of (Err UpgradingStart) = 36
number_of (Err LongCookie) = 37

-- 34: poll min is below 8
-- promise no11.1: The check answers 30, 33, 34, 35, 36, 37 or 0, each exactly under its rule, in that order.
--     edit: association_metered/a_poll_min_of_7_passes
abbrev pub low_poll_min : Settings → Bool
low_poll_min s = lt_z s.min.0 (pos 8)

-- 35: the startup limit is over 3
-- promise: no11.1
abbrev pub high_startup : Settings → Bool
high_startup s = ltb 3 s.startup

-- a list has a cookie of more than `most` bytes
abbrev pub any_longer : ℕ → List (List ℕ) → Bool
any_longer most [] = false
any_longer most (c ∷ cs) = ltb most (length c) || any_longer most cs

abbrev pub longer_in : ℕ → Listed → Bool
longer_in most (whole cs) = any_longer most cs
longer_in most broken = false

-- 37: with NTS, a cookie of the first list is over 100 bytes
-- promise: no11.1 (over the list's own reader)
abbrev pub long_cookie : Bool → List ℕ → Bool
long_cookie nts list = nts && longer_in 100 (cookies_in list)

-- the first of the four rules that is broken
-- promise: no11.1
abbrev pub first_broken : (low high retired long : Bool) → Result (Unit {0}) ProfileRefusal
first_broken low high retired long =
    cond low (Err LowPollMin)
    (cond high (Err HighStartup)
    (cond retired (Err UpgradingStart)
    (cond long (Err LongCookie) (Ok tt))))

-- the check: 30 and 33 as in `new`, then the four rules. 36 is an upgrading start version, for which `new` returns 38: so 38 never comes (RULES, No. 14)
-- promise no14.2: `metered` and its check give 36 for the upgrading version, before 38, and never 38: the profile has no such answer.
-- promise: no11.1
unfoldable pub profile_of : Settings → List ℕ → Result (Unit {0}) ProfileRefusal
profile_of s list =
    cond (settings_valid s)
    (cond (list_broken s.nts list) (Err BrokenList)
    (first_broken (low_poll_min s) (high_startup s) (upgrading s.start.kind) (long_cookie s.nts list)))
    (Err BadSettings)

-- the call: the check's answer; with 0 the record that `new` makes, and what `new` says fell out (RULES, No. 5); with any other number the blank record
-- promise no11.2: `metered` gives the check's number. A rejection leaves the blank record.
-- promise: no5.5
unfoldable pub metered_of : Settings → List ℕ → MeteredOut
metered_of s list =
    record {
      answer = profile_of s list;
      dropped = cond (eqb (number_of (profile_of s list)) 0) (new_of s list).dropped none_dropped;
      association = cond (eqb (number_of (profile_of s list)) 0) (new_of s list).association blank_of;
    }
