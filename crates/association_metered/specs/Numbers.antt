-- RULES, "The numbers" and No. 11: when the check returns each number, in the order of the tests.
-- Assumes nothing.
use Rattle.std.specs.Prelude.{◌≡◌, true, false, List, ℕ, Result, Ok, Err}
use Rattle.cookielist.specs.List.{list_broken}
use Rattle.version.specs.Upgrade.{upgrading}
use Rattle.association.specs.declared.Settings.{Settings}
use Rattle.association.specs.Settings.{settings_valid}
use Rattle.association_metered.specs.declared.ProfileRefusal.{ProfileRefusal}
use Rattle.association_metered.specs.declared.ProfileRefusal.TheVariants.{
  BadSettings,
  BrokenList,
  LowPollMin,
  HighStartup,
  UpgradingStart,
  LongCookie,
}
use Rattle.association_metered.specs.Profile.{low_poll_min, high_startup, long_cookie}

module _ (s : Settings) (list : List ℕ) where
  -- ---- the tests that settings and list have passed, each with those before it

  -- neither 30 nor 33
  pub record Plain : Type 0 where
    pub valid : settings_valid s ≡ true
    pub unbroken : list_broken s.nts list ≡ false

  -- nor 34
  pub record Slow : Type 0 where
    pub plain : Plain
    pub min : low_poll_min s ≡ false

  -- nor 35
  pub record Brief : Type 0 where
    pub slow : Slow
    pub startup : high_startup s ≡ false

  -- nor 36: the plain call makes an association of them
  pub record Settled : Type 0 where
    pub brief : Brief
    pub start : upgrading s.start.kind ≡ false

  -- ---- the numbers, each with its answer
  -- promise: no11.1
  pub data Given : ℕ → Result (Unit {0}) ProfileRefusal → Type 0 where
    bad_settings : settings_valid s ≡ false → Given 30 (Err BadSettings)
    broken_list : settings_valid s ≡ true → list_broken s.nts list ≡ true → Given 33 (Err BrokenList)
    low_poll_min_lem : Plain → low_poll_min s ≡ true → Given 34 (Err LowPollMin)
    high_startup_lem : Slow → high_startup s ≡ true → Given 35 (Err HighStartup)
    upgrading_start : Brief → upgrading s.start.kind ≡ true → Given 36 (Err UpgradingStart)
    long_cookie_lem : Settled → long_cookie s.nts list ≡ true → Given 37 (Err LongCookie)
    met : Settled → long_cookie s.nts list ≡ false → Given 0 (Ok tt)
