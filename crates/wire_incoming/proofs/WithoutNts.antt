-- Without NTS neither the unique identifier nor the decrypted fields decide anything: every group is absent.
-- Assumes nothing.
use mathlib.Core.Path.{◌≡◌, refl}
use mathlib.Core.Bool.{false}
use mathlib.Core.List.{List}
use Prim.Native.Nat.{ℕ}
use lib.ListN.{length}
use Rattle.wire_header.specs.declared.HeaderVersion.{HeaderVersion}
use Rattle.wire_header.specs.declared.HeaderVersion.TheVariants.{V3, V4}
use Rattle.std.specs.Prelude.{Option, Some, None}
use Rattle.wire_header.specs.declared.Header.{Header}
use Rattle.wire_header.specs.Header.{header_of}
use Rattle.wire_groups.specs.declared.Uid.TheVariants.{Absent}
use Rattle.wire_incoming.specs.Incoming.{group_of, bytes_read, on_header, read_of}

pub no_group : (v : HeaderVersion) (p : List ℕ) (from to : ℕ) (uid : List ℕ) → group_of false v p from to uid ≡ Absent
no_group V3 p from to uid = refl
no_group V4 p from to uid = refl

-- promise: 8.3
pub without_nts : (uid uid' : List ℕ) (p : List ℕ) (end : ℕ) (decrypted decrypted' : List ℕ) →
    read_of false uid p end decrypted ≡ read_of false uid' p end decrypted'
unfolding read_of bytes_read
without_nts uid uid' p end decrypted decrypted' = by (header_of p)
  where
    by : (r : Option Header) → on_header (bytes_read false uid p end decrypted) r ≡ on_header (bytes_read false uid' p end decrypted') r
    by (Some h) =
        rw (
          no_group h.version p 48 end uid,
          no_group h.version p 48 end uid',
          no_group h.version p end (length p) uid,
          no_group h.version p end (length p) uid',
        )
    by None = refl
