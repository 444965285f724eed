-- The association that is made of settings, a state and the body of a stash's record.
-- Assumes nothing.
use Rattle.std.specs.Prelude.{ℕ, List}
use Rattle.association.specs.declared.Settings.{Settings}
use Rattle.association.specs.declared.State.{State}
use Rattle.association.specs.declared.Association.{Association}
use Rattle.handover_file.specs.Cookies.{stash_of}

abbrev pub made_of : Settings → State → List ℕ → Association
made_of s q b = record { settings = s; stash = stash_of s.capacity b; state = q }
