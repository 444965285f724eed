-- The contract of each public function determines its result: any two that it allows are equal.
-- Assumes nothing.
use mathlib.Core.Path.{◌∙◌, sym}
use Rattle.words.specs.Determined.{Determined, DeterminedContents}
use Rattle.handover_load.specs.Reading.{contents_in}
use Rattle.handover_load.proofs.load.Reads as load
use Rattle.handover_load.proofs.place_of.Reads as place_of
use Rattle.handover_load.proofs.state_in.Reads as state-in
use Rattle.handover_load.proofs.is_retired.Reads as is-retired
use Rattle.handover_load.proofs.settled_settings.Reads as settled-settings
use Rattle.handover_load.proofs.settled_state.Reads as settled-state
use Rattle.handover_load.proofs.read.read.Reads as read

pub load_determined : Determined load.Post
load_determined κs a y z e f p q = p ∙ sym q

pub place_of_determined : Determined place_of.Post
place_of_determined κs a y z e f p q = p ∙ sym q

pub state_in_determined : Determined state-in.Post
state_in_determined κs a y z e f p q = p ∙ sym q

pub is_retired_determined : Determined is-retired.Post
is_retired_determined κs a y z e f p q = p ∙ sym q

pub settled_settings_determined : Determined settled-settings.Post
settled_settings_determined κs a y z e f p q = p ∙ sym q

pub settled_state_determined : Determined settled-state.Post
settled_state_determined κs a y z e f p q = p ∙ sym q

-- what a file that is read is to its reader: its values, and the bytes of its stash's body
pub read_determined : DeterminedContents read.Post (λ κs r. contents_in r)
read_determined κs a y z e f p q = p ∙ sym q
