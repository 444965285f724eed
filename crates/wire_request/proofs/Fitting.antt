-- A packet that does not fit its buffer, and one that does: what is answered and what is left in the buffer. A packet that is written stands at its start
-- with the bytes past it untouched, and a refusal writes nothing.
-- Assumes nothing.
use mathlib.Core.Path.{◌≡◌, refl, ap, ◌∙◌}
use mathlib.Core.Bool.{Bool, true, false, ◌&&◌, not, cond}
use mathlib.Core.List.{List, ◌++◌}
use Prim.Native.Nat.{ℕ, ◌≤◌, ◌<◌}
use native.Mathlib.Omega.{arith}
use lib.Dec.{ltb}
use lib.ListN.{length, take, drop}
use lib.Seq.{take_at, drop_at}
use borrow.Author.Tests.{lt-ltb, le-ltb}
use Rattle.time_types.specs.declared.PollInterval.{PollInterval}
use Rattle.version.specs.declared.SendKind.{SendKind}
use Rattle.wire_request.specs.Request.{is_v5, has_nts, ask_valid, packet_of}
use Rattle.wire_request.specs.Answer.{number_of, fitted, request_of, left_in, buffer_of}
use Rattle.std.specs.Prelude.{Result, Ok, Err}
use Rattle.wire_request.specs.declared.RequestRefusal.{RequestRefusal}
use Rattle.wire_request.specs.declared.RequestRefusal.TheVariants.{VersionFive, ShortBuffer, CookieOrCount}

module _ (packet out : List ℕ) (long : ℕ) (size : length packet ≡ long) where
  pub too_long : length out < long → (Err ShortBuffer ≡ fitted (length packet) (length out)) × (out ≡ left_in packet out (fitted (length packet) (length out)))
  too_long h = let e = lt-ltb (length out) (length packet) (omega arith) in (rw e, rw e)

  pub fits : long ≤ length out → (left : List ℕ) → left ≡ packet ++ drop long out
      → (Ok long ≡ fitted (length packet) (length out)) × (left ≡ left_in packet out (fitted (length packet) (length out)))
  fits h left q = let e = le-ltb (length out) (length packet) (omega arith) in (rw (e, size), q ∙ rw (e, size))

-- ---- what is left in the buffer

-- an answer that is a length is the packet's
written_long : (t u v : Bool) (n m : ℕ) → cond t (Err VersionFive) (cond u (Err CookieOrCount) (cond v (Err ShortBuffer) (Ok n))) ≡ Ok m → n ≡ m
written_long true u v n m e = let z : ◌≡◌ {A = ℕ} 0 1 = cc in absurd (omega arith)
written_long false true v n m e = let z : ◌≡◌ {A = ℕ} 0 1 = cc in absurd (omega arith)
written_long false false true n m e = let z : ◌≡◌ {A = ℕ} 0 1 = cc in absurd (omega arith)
written_long false false false n m e = cc

module _ (kind : SendKind) (poll : PollInterval) (id upgrademark : ℕ) (uid cookie : List ℕ) (asked : ℕ) (out : List ℕ) where
  -- where the answer is a length, so many bytes of the buffer are the packet, and those past them are untouched
  -- promise: no1.4
  pub written_buffer : (n : ℕ) → request_of kind poll id upgrademark uid cookie asked (length out) ≡ Ok n
      → (take n (buffer_of kind poll id upgrademark uid cookie asked out) ≡ packet_of kind poll id upgrademark uid cookie asked) ×
      (drop n (buffer_of kind poll id upgrademark uid cookie asked out) ≡ drop n out)
  unfolding buffer_of request_of
  written_buffer n e =
      let p = packet_of kind poll id upgrademark uid cookie asked in
      let m : length p ≡ n = written_long (is_v5 kind) (has_nts kind && not (ask_valid (length cookie) asked)) (ltb (length out) (length p)) (length p) n e in
      let b : buffer_of kind poll id upgrademark uid cookie asked out ≡ p ++ drop n out = ap (left_in p out) e in
      (rw b (take_at p (drop n out) n m), rw b (drop_at p (drop n out) n m))

  -- where it is refused, nothing is written
  -- promise: no1.5, demand.1
  pub refused_buffer : (number_of (request_of kind poll id upgrademark uid cookie asked (length out)) ≡ 0 → ⊥) →
      buffer_of kind poll id upgrademark uid cookie asked out ≡ out
  unfolding buffer_of
  refused_buffer h = go (request_of kind poll id upgrademark uid cookie asked (length out)) h
    where
      go : (r : Result ℕ RequestRefusal) → (number_of r ≡ 0 → ⊥) → left_in (packet_of kind poll id upgrademark uid cookie asked) out r ≡ out
      go (Ok n) h = absurd (h refl)
      go (Err refusal) h = refl
