-- A whole record, as a statement: what `whole_of` of specs/Record.antt tests.
-- Assumes nothing.
use Rattle.std.specs.Prelude.{◌≡◌, true, false}
use Rattle.version.specs.Upgrade.{upgrading}
use Rattle.reach.specs.Register.{unanswered_of}
use Rattle.cookiestash.specs.Whole as stash
use Rattle.association.specs.declared.Association.{Association}
use Rattle.association.specs.Settings.{settings_valid}
use Rattle.association.specs.Record.{versions_valid, pending_valid, idle_valid}

-- promise: whole.2 (statement), no12.3 (statement), no14.3
pub record Whole (a : Association) : Type 0 where
  pub settings : settings_valid a.settings ≡ true
  pub stash : stash.Whole a.settings.capacity a.stash
  -- promise no8.1: The record holds the unanswered polls, 0 to 8, and after every call they are those of its reach.
  pub counted : a.state.effort.unanswered ≡ unanswered_of a.state.effort.reach
  pub versions : versions_valid a.settings.start a.state.version ≡ true
  pub request : pending_valid a.state.request ≡ true
  pub idle : idle_valid a.settings.nts a.stash.read a.stash.held a.state.request.uid ≡ true

-- neither the start version nor the version is of the retired kind (RULES, No. 14)
-- promise no14.6: From a whole record no call leads to the upgrading version, and no upgrade request is sent, over any log.
abbrev pub Current : Association → Type 0
Current a = (upgrading a.settings.start.kind ≡ false) × (upgrading a.state.version.kind ≡ false)
