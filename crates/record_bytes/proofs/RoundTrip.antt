-- Reading and writing undo each other, both ways round; and what is written is a record.
-- Assumes nothing.
use Prim.Native.Nat.{ℕ}
use mathlib.Core.Path.{◌≡◌, sym, ap, subst}
use mathlib.Core.Bool.{true}
use mathlib.Core.List.{List}
use Rattle.words.proofs.Bytes.{Bytes}
use Rattle.association.specs.declared.Association.{Association}
use Rattle.record_bytes.specs.Record.{settings_in, unpacked, packed, ok}
use Rattle.record_bytes.proofs.Packed.{Ok, of_ok, ok_of, packed_unpacked}
use Rattle.record_bytes.proofs.Unpacked.{Fits, unpacked_packed, packed_ok}

-- a record's bytes are those of what they hold
-- promise: exports.1
pub bytes_again : (b : List ℕ) → Bytes b → ok b ≡ true → packed (unpacked b) ≡ b
bytes_again b y e = packed_unpacked b y (of_ok b e)

module _ (a : Association) (f : Fits a) where
  -- what is packed unpacks to what it was
  -- promise: exports.1
  pub record_again : unpacked (packed a) ≡ a
  record_again = unpacked_packed a f

  same_capacity : (settings_in (packed a)).capacity ≡ a.settings.capacity
  unfolding unpacked
  same_capacity = ap (λ (x : Association). x.settings.capacity) record_again

  -- and is a record
  -- promise: exports.1
  pub packed_is_record : ok (packed a) ≡ true
  packed_is_record = ok_of (packed a) (subst (Ok (packed a)) (sym same_capacity) (packed_ok a f))
