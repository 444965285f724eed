-- Loading into lent bytes: 61, 62 and 63 as by `load_of`, with every byte zero; then 31 if their number does not fit the file's capacity, and nothing changes;
-- otherwise the loaded record, packed.
-- Assumes nothing.
use Rattle.std.specs.Prelude.{cond, List, ℕ, ◌+◌, ◌*◌, eqb, length, replicate, Result, Ok, Err}
use Rattle.association.specs.declared.Association.{Association}
use Rattle.handover_file.specs.declared.Loaded.{Loaded}
use Rattle.handover_file.specs.declared.LoadRefusal.{LoadRefusal}
use Rattle.handover_file.specs.declared.LoadOut.{LoadOut}
use Rattle.record_bytes.specs.Record.{packed}
use Rattle.record_new.specs.declared.InBytes.{InBytes}
use Rattle.record_new.specs.declared.InBytes.TheVariants.{Said, WrongSize}

pub record LoadCall : Type 0 where
  pub told : Result Loaded (InBytes LoadRefusal)
  pub bytes : List ℕ

abbrev pub gave : Result Loaded (InBytes LoadRefusal) → List ℕ → LoadCall
gave r b = record { told = r; bytes = b }

-- promise: exports.4
abbrev pub by_answer : List ℕ → Result Loaded LoadRefusal → Association → LoadCall
by_answer b (Ok l) a = cond (eqb (length b) (92 + a.settings.capacity * 726)) (gave (Ok l) (packed a)) (gave (Err WrongSize) b)
by_answer b (Err e) a = gave (Err (Said e)) (replicate (length b) 0)

-- promise: exports.3
abbrev pub loaded_by : List ℕ → LoadOut → LoadCall
loaded_by b o = by_answer b o.answer o.association
