-- A whole record as a statement of its own (RULES, "Settings and a whole record", No. 3, No. 12 and No. 14): it cites no test of specs/Record.antt.
-- Assumes nothing.
use Rattle.std.specs.Prelude.{◌≡◌, true, false, List, ℕ, ◌≤◌, pos, get_or}
use Rattle.reach.specs.Register.{unanswered_of}
use Rattle.cookiestash.specs.Whole as stash
use Rattle.version.specs.declared.Version.{Version}
use Rattle.version.specs.declared.ProtocolVersion.TheVariants.{Upgrading}
use Rattle.association.specs.declared.Settings.{Settings}
use Rattle.association.specs.declared.Pending.{Pending}
use Rattle.association.specs.declared.Association.{Association}

-- every byte is zero
abbrev pub AllZero : List ℕ → Type 0
AllZero b = (k : ℕ) → get_or b k 0 ≡ 0

-- 0 ≤ min ≤ max ≤ 17; startup limit 1 to 8; window 1 to 60,000,000,000 ns; capacity 1 to 8
pub record InRanges (s : Settings) : Type 0 where
  pub least : ℕ
  pub most : ℕ
  pub min_is : s.min.0 ≡ pos least
  pub max_is : s.max.0 ≡ pos most
  pub ordered : least ≤ most
  pub top : most ≤ 17
  pub startup_some : 1 ≤ s.startup
  pub startup_few : s.startup ≤ 8
  pub window_some : 1 ≤ s.window
  pub window_short : s.window ≤ 60000000000
  pub capacity_some : 1 ≤ s.capacity
  pub capacity_few : s.capacity ≤ 8

-- not of the retired kind
abbrev pub NotRetired : Version → Type 0
NotRetired v = (tries : ℕ) → v.kind ≡ Upgrading tries → ⊥

-- while a request is pending no reply has been measured; if none is pending its numbers are zero
pub record Requested (q : Pending) : Type 0 where
  pub unanswered : q.present ≡ true → q.answered ≡ false
  pub no_id : q.present ≡ false → q.id ≡ 0
  pub no_deadline : q.present ≡ false → q.deadline ≡ 0
  pub no_uid : q.present ≡ false → AllZero q.uid

-- what only NTS uses is zero without NTS
pub record Idle (a : Association) : Type 0 where
  pub read : a.settings.nts ≡ false → a.stash.read ≡ 0
  pub held : a.settings.nts ≡ false → a.stash.held ≡ 0
  pub uid : a.settings.nts ≡ false → AllZero a.state.request.uid

pub record WholeWords (a : Association) : Type 0 where
  pub settings : InRanges a.settings
  pub stash : stash.Whole a.settings.capacity a.stash
  pub counted : a.state.effort.unanswered ≡ unanswered_of a.state.effort.reach
  pub start : NotRetired a.settings.start
  pub version : NotRetired a.state.version
  pub request : Requested a.state.request
  pub idle : Idle a
