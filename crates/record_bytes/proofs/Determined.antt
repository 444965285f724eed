-- Each public function's contract determines its result, and each byte that it leaves: any two that it allows are equal.
-- Assumes nothing.
use mathlib.Core.Path.{refl, sym, ◌∙◌}
use Rattle.words.specs.Determined.{Determined, DeterminedLent}
use Rattle.record_bytes.proofs.open_record.Reads as open-record
use Rattle.record_bytes.proofs.no_record.Reads as no-record
use Rattle.record_bytes.proofs.store_state.Reads as store-state
use Rattle.record_bytes.proofs.store_head.Reads as store-head

pub open_record_determined : Determined open-record.Post
open_record_determined κs a y z e f p q = p ∙ sym q

pub no_record_determined : Determined no-record.Post
no_record_determined κs a y z e f p q = p ∙ sym q

pub store_state_determined : DeterminedLent store-state.Post (λ κs e. e.0.now)
store_state_determined κs a y z e f p q = (refl, p.0 ∙ sym q.0)

pub store_head_determined : DeterminedLent store-head.Post (λ κs e. e.0.now)
store_head_determined κs a y z e f p q = (refl, p.0 ∙ sym q.0)
