-- The call that makes an association: its answer, the number in RULES for it, and the record.
-- Assumes nothing.
use Rattle.std.specs.Prelude.{cond, List, ℕ, Result, Ok, Err}
use Rattle.cookielist.specs.List.{list_broken}
use Rattle.cookiestash.specs.declared.Dropped.{Dropped}
use Rattle.cookiestash.specs.StoreList.{store_list_of}
use Rattle.cookiestash.specs.Falling.{none_dropped, dropped_of}
use Rattle.version.specs.Upgrade.{upgrading}
use Rattle.association.specs.declared.Settings.{Settings}
use Rattle.association.specs.declared.Association.{Association}
use Rattle.association.specs.declared.NewRefusal.{NewRefusal}
use Rattle.association.specs.declared.NewRefusal.TheVariants.{BadSettings, BrokenList, Retired}
use Rattle.association.specs.declared.NewOut.{NewOut}
use Rattle.association.specs.Settings.{settings_valid}
use Rattle.association.specs.Record.{blank_of, fresh_of, with_stash}

-- 0: association made; 30: settings outside the ranges; 33: broken cookie list (NTS only); 38: the start version is retired (RULES, No. 14)
-- promise: whole.4
abbrev pub number_of : Result (Unit {0}) NewRefusal → ℕ
number_of (Ok made) = 0
number_of (Err BadSettings) = 30
number_of (Err BrokenList) = 33
number_of (Err Retired) = 38

-- an answer with which nothing is stored
abbrev pub out : Result (Unit {0}) NewRefusal → Association → NewOut
out r a = record { answer = r; dropped = none_dropped; association = a }

-- with NTS it stores a first cookie list
-- promise: whole.4, no5.6, no12.2
unfoldable pub made_of : Settings → List ℕ → Association
made_of s list = cond s.nts (with_stash (fresh_of s) (store_list_of s.capacity (fresh_of s).stash list)) (fresh_of s)

-- and reports what fell out of it (RULES, No. 5)
-- promise no5.5: `new` and `metered` report what fell out of their first list, a measured reply what fell out of its own. Any other number reports none.
unfoldable pub first_dropped : Settings → List ℕ → Dropped
first_dropped s list = cond s.nts (dropped_of s.capacity (fresh_of s).stash list) none_dropped

-- promise: no5.5
abbrev pub new_made : Settings → List ℕ → NewOut
new_made s list = record { answer = Ok tt; dropped = first_dropped s list; association = made_of s list }

-- in order 30, 33, 38; a rejected call leaves the blank record
-- promise: whole.4, no14.1
unfoldable pub new_of : Settings → List ℕ → NewOut
new_of s list =
    cond (settings_valid s)
    (cond (list_broken s.nts list)
    (out (Err BrokenList) blank_of)
    (cond (upgrading s.start.kind)
    (out (Err Retired) blank_of)
    (new_made s list)))
    (out (Err BadSettings) blank_of)
