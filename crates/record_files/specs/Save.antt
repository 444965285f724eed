-- Saving a record in lent bytes: the writer on what they unpack to, its record packed again. Bytes that are no record: 32, and nothing changes.
-- Assumes nothing.
use Rattle.std.specs.Prelude.{cond, List, ℕ, Result, Err}
use Rattle.handover_file.specs.declared.SaveRefusal.{SaveRefusal}
use Rattle.handover_file.specs.declared.SaveRefusal.TheVariants.{NotWhole}
use Rattle.handover_file.specs.Answers.{Handed, handed_of}
use Rattle.record_bytes.specs.Record.{ok, unpacked, packed}

pub record SaveCall : Type 0 where
  pub answer : Result ℕ SaveRefusal
  pub bytes : List ℕ
  pub left : List ℕ

abbrev pub gave : Result ℕ SaveRefusal → List ℕ → List ℕ → SaveCall
gave r b out = record { answer = r; bytes = b; left = out }

abbrev pub save_packed : Handed → SaveCall
save_packed h = gave h.gives.answer (packed h.gives.association) h.left

-- promise: exports.3
unfoldable pub save_call : List ℕ → List ℕ → SaveCall
save_call b out = cond (ok b) (save_packed (handed_of (unpacked b) out)) (gave (Err NotWhole) b out)
