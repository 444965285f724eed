-- Each public function's contract determines its result and each lent byte: any two that it allows are equal.
-- Assumes nothing.
use mathlib.Core.Path.{sym, ap, ◌∙◌}
use Rattle.words.specs.Determined.{DeterminedLent}
use Rattle.record_files.specs.Load.{LoadCall}
use Rattle.record_files.proofs.loads.load.Reads as load
use mathlib.Core.List.{List}
use Prim.Native.Nat.{ℕ}
use Rattle.record_files.specs.Save.{SaveCall}
use Rattle.record_files.proofs.saves.save.Reads as save

pub load_determined : DeterminedLent load.Post (λ κs e. e.0.now)
load_determined κs a y z e f p q = let e = p ∙ sym q in (ap (λ (t : LoadCall). t.told) e, ap (λ (t : LoadCall). t.bytes) e)

pub save_determined : DeterminedLent {S = List ℕ × List ℕ} save.Post (λ κs e. (e.0.now, e.1.0.now))
save_determined κs a y z e f p q = let e = p ∙ sym q in (ap (λ (t : SaveCall). t.answer) e, ap (λ (t : SaveCall). (t.bytes, t.left)) e)
