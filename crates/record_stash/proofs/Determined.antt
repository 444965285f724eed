-- Each public function's contract determines its result, each byte of the record, and each byte of a lent buffer: any two that it allows are equal.
-- Assumes nothing.
use mathlib.Core.Path.{refl, sym, ap, ◌∙◌}
use mathlib.Core.List.{List}
use Prim.Native.Nat.{ℕ}
use Rattle.words.specs.Determined.{Determined, DeterminedLent}
use Rattle.record_stash.specs.Slots.{Took, Refilled}
use Rattle.record_stash.proofs.sized.Reads as sized
use Rattle.record_stash.proofs.see.Reads as see
use Rattle.record_stash.proofs.clear.Reads as clear
use Rattle.record_stash.proofs.take.Reads as take
use Rattle.record_stash.proofs.lay.Reads as lay
use Rattle.record_stash.proofs.refill.Reads as refill

pub sized_determined : Determined sized.Post
sized_determined κs a y z e f p q = p ∙ sym q

pub see_determined : Determined see.Post
see_determined κs a y z e f p q = p ∙ sym q

pub clear_determined : DeterminedLent clear.Post (λ κs e. e.0.now)
clear_determined κs a y z e f p q = (refl, p ∙ sym q)

pub take_determined : DeterminedLent {S = List ℕ × List ℕ} take.Post (λ κs e. (e.0.now, e.1.1.1.0.now))
take_determined κs a y z e f p q = (refl, ap (λ (t : Took). (t.bytes, t.left)) (p ∙ sym q))

pub lay_determined : DeterminedLent lay.Post (λ κs e. e.0.now)
lay_determined κs a y z e f p q = (refl, p.is ∙ sym q.is)

pub refill_determined : DeterminedLent refill.Post (λ κs e. e.0.now)
refill_determined κs a y z e f p q = let e = p ∙ sym q in (ap (λ (t : Refilled). t.dropped) e, ap (λ (t : Refilled). t.bytes) e)
