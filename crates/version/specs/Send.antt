-- RULES, part 10: the send names one of five kinds. With NTS an upgrading association sends NTS V5.
-- Assumes nothing.
use Rattle.std.specs.Prelude.{Bool, cond}
use Rattle.version.specs.declared.ProtocolVersion.{ProtocolVersion}
use Rattle.version.specs.declared.ProtocolVersion.TheVariants.{V4, Upgrading, Upgraded, V5}
use Rattle.version.specs.declared.SendKind.{SendKind}
use Rattle.version.specs.declared.SendKind.TheVariants as send

-- promise 10.7: There are five kinds of send. Run: `drills/upgrade-falls-back.drill`.
abbrev pub kind_of : ProtocolVersion → Bool → SendKind
kind_of V4 nts = cond nts send.NtsV4 send.V4
kind_of (Upgrading tries) nts = cond nts send.NtsV5 send.V4Upgrade
kind_of Upgraded nts = cond nts send.NtsV5 send.V5
kind_of V5 nts = cond nts send.NtsV5 send.V5
