-- RULES, "The numbers": when `new` returns each number, and with which answer and record, in the order of the tests.
-- Assumes nothing.
use Rattle.std.specs.Prelude.{◌≡◌, true, false, List, ℕ, Err}
use Rattle.cookielist.specs.List.{list_broken}
use Rattle.version.specs.Upgrade.{upgrading}
use Rattle.association.specs.declared.Settings.{Settings}
use Rattle.association.specs.declared.NewRefusal.TheVariants.{BadSettings, BrokenList, Retired}
use Rattle.association.specs.declared.NewOut.{NewOut}
use Rattle.association.specs.Settings.{settings_valid}
use Rattle.association.specs.Record.{blank_of}
use Rattle.association.specs.New.{out, new_made}

module _ (s : Settings) (list : List ℕ) where
  -- promise: no5.5, no14.1
  pub data Given : ℕ → NewOut → Type 0 where
    bad_settings : settings_valid s ≡ false → Given 30 (out (Err BadSettings) blank_of)
    broken_list : settings_valid s ≡ true → list_broken s.nts list ≡ true → Given 33 (out (Err BrokenList) blank_of)
    retired : settings_valid s ≡ true → list_broken s.nts list ≡ false → upgrading s.start.kind ≡ true → Given 38 (out (Err Retired) blank_of)
    made : settings_valid s ≡ true → list_broken s.nts list ≡ false → upgrading s.start.kind ≡ false → Given 0 (new_made s list)
