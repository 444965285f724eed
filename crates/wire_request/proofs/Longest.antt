-- How long a request can be that is written. One that a timer asks for is shorter: crate `laws`.
-- Assumes nothing.
use mathlib.Core.Path.{◌≡◌, refl}
use mathlib.Core.Bool.{Bool, true, false}
use mathlib.Core.List.{List}
use Prim.Native.Nat.{ℕ, ◌+◌, ◌*◌, ◌≤◌}
use native.Mathlib.Omega.{arith}
use lib.ListN.{length}
use Rattle.version.specs.declared.SendKind.{SendKind}
use Rattle.time_types.specs.declared.PollInterval.{PollInterval}
use Rattle.wire_header.specs.Header.{bytes_of}
use Rattle.wire_request.specs.Extension.{field_length}
use Rattle.wire_request.specs.Request.{has_nts, ask_valid, header_for, packet_of}
use Rattle.wire_request.proofs.Sizes.{length_header, asks, all_most, length_packet}

-- ---- the packet's length

module _ (kind : SendKind) (poll : PollInterval) (id upgrademark : ℕ) (uid cookie : List ℕ) (asked : ℕ) (size : length uid ≡ 32) where
  -- without NTS, and with it
  pub length_plain : has_nts kind ≡ false → length (packet_of kind poll id upgrademark uid cookie asked) ≡ 48
  unfolding packet_of
  length_plain n = rw n (length_header (header_for kind poll id upgrademark))

  pub length_nts : has_nts kind ≡ true → 1 ≤ asked → length (packet_of kind poll id upgrademark uid cookie asked) ≡ 84 + asked * field_length (length cookie)
  unfolding packet_of
  length_nts n some = rw n (length_packet uid cookie asked size some (bytes_of (header_for kind poll id upgrademark))
      (length_header (header_for kind poll id upgrademark)))

  pub at_most : (m : ℕ) → 48 ≤ m → (has_nts kind ≡ true → (1 ≤ asked) × (84 + asked * field_length (length cookie) ≤ m)) →
      length (packet_of kind poll id upgrademark uid cookie asked) ≤ m
  at_most m h f = go (has_nts kind) refl
    where
      go : (t : Bool) → has_nts kind ≡ t → length (packet_of kind poll id upgrademark uid cookie asked) ≤ m
      go true n = omega (arith, length_nts n (f n).0, (f n).1)
      go false n = omega (arith, length_plain n)

  -- no request that is written is longer than 5,908 bytes
  -- promise: no1.6 (5,908 bytes of any that is written)
  pub longest : ask_valid (length cookie) asked ≡ true → length (packet_of kind poll id upgrademark uid cookie asked) ≤ 5908
  longest e =
      let h = asks (length cookie) asked e in
      at_most 5908 (omega arith) (λ n. (h.1, omega (arith, all_most (length cookie) asked h.0 h.2)))
