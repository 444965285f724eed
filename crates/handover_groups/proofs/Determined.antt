-- Each public function's contract determines its result: any two that it allows are equal.
-- Assumes nothing.
use mathlib.Core.Path.{◌∙◌, sym}
use Rattle.words.specs.Determined.{Determined}
use Rattle.handover_groups.proofs.kind_code.Reads as kind_code
use Rattle.handover_groups.proofs.tries_code.Reads as tries_code
use Rattle.handover_groups.proofs.kind_of.Reads as kind_of
use Rattle.handover_groups.proofs.kind_known.Reads as kind_known
use Rattle.handover_groups.proofs.settings_bytes.Reads as settings-bytes
use Rattle.handover_groups.proofs.settings_of.Reads as settings-of
use Rattle.handover_groups.proofs.settings_known.Reads as settings_known_lem
use Rattle.handover_groups.proofs.effort_bytes.Reads as effort-bytes
use Rattle.handover_groups.proofs.effort_of.Reads as effort-of
use Rattle.handover_groups.proofs.version_bytes.Reads as version-bytes
use Rattle.handover_groups.proofs.version_of.Reads as version_of
use Rattle.handover_groups.proofs.version_known.Reads as version_known_lem
use Rattle.handover_groups.proofs.polls_bytes.Reads as polls-bytes
use Rattle.handover_groups.proofs.polls_of.Reads as polls-of
use Rattle.handover_groups.proofs.source_bytes.Reads as source-bytes
use Rattle.handover_groups.proofs.source_of.Reads as source_of
use Rattle.handover_groups.proofs.source_known.Reads as source_known

pub kind_code_determined : Determined kind_code.Post
kind_code_determined κs a y z e f p q = p ∙ sym q

pub tries_code_determined : Determined tries_code.Post
tries_code_determined κs a y z e f p q = p ∙ sym q

pub kind_of_determined : Determined kind_of.Post
kind_of_determined κs a y z e f p q = p ∙ sym q

pub kind_known_determined : Determined kind_known.Post
kind_known_determined κs a y z e f p q = p ∙ sym q

pub settings_bytes_determined : Determined settings-bytes.Post
settings_bytes_determined κs a y z e f p q = p ∙ sym q

pub settings_of_determined : Determined settings-of.Post
settings_of_determined κs a y z e f p q = p ∙ sym q

pub settings_known_determined : Determined settings_known_lem.Post
settings_known_determined κs a y z e f p q = p ∙ sym q

pub effort_bytes_determined : Determined effort-bytes.Post
effort_bytes_determined κs a y z e f p q = p ∙ sym q

pub effort_of_determined : Determined effort-of.Post
effort_of_determined κs a y z e f p q = p ∙ sym q

pub version_bytes_determined : Determined version-bytes.Post
version_bytes_determined κs a y z e f p q = p ∙ sym q

pub version_of_determined : Determined version_of.Post
version_of_determined κs a y z e f p q = p ∙ sym q

pub version_known_determined : Determined version_known_lem.Post
version_known_determined κs a y z e f p q = p ∙ sym q

pub polls_bytes_determined : Determined polls-bytes.Post
polls_bytes_determined κs a y z e f p q = p ∙ sym q

pub polls_of_determined : Determined polls-of.Post
polls_of_determined κs a y z e f p q = p ∙ sym q

pub source_bytes_determined : Determined source-bytes.Post
source_bytes_determined κs a y z e f p q = p ∙ sym q

pub source_of_determined : Determined source_of.Post
source_of_determined κs a y z e f p q = p ∙ sym q

pub source_known_determined : Determined source_known.Post
source_known_determined κs a y z e f p q = p ∙ sym q
