-- Every group that the machine holds fits its record: the types alone give it.
-- Assumes nothing.
use Prim.Native.Nat.{◌^◌, ◌<◌}
use mathlib.Core.List.{List}
use borrow.Author.Rules.{rules}
use denote.Laws.{Is}
use mir.Val.{Val}
use Rattle.association.specs.declared.Settings.{Settings}
use Rattle.association.specs.declared.Polls.{Polls}
use Rattle.association.specs.declared.Source.{Source}
use Rattle.association.specs.contracts.Settings as Settings·
use Rattle.association.specs.contracts.Polls as Polls·
use Rattle.association.specs.contracts.Source as Source·
use Rattle.handover_groups.proofs.OfSettings.{SettingsFit}
use Rattle.handover_groups.proofs.OfState.{PollsFit}

pub settings_fit : (s : Settings) (vs : List Val) → Is Settings·.the_row s vs → SettingsFit s
settings_fit s vs is = record { min = search rules; max = search rules; window = search rules; upgrademark = search rules; source = search rules }

pub polls_fit : (p : Polls) (vs : List Val) → Is Polls·.the_row p vs → PollsFit p
polls_fit p vs is = record { last = search rules; remote = search rules }

pub source_fit : (s : Source) (vs : List Val) → Is Source·.the_row s vs → s.refid.0 < 2 ^ 32
source_fit s vs is = search rules
