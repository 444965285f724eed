-- The request writer's numbers: each is given exactly under its rule, in the order 50, 52, 51 (RULES, No. 1).
-- Assumes nothing.
use mathlib.Core.Path.{◌≡◌, refl, ap, subst, ◌∙◌}
use mathlib.Core.Bool.{not, ◌&&◌}
use mathlib.Core.List.{List}
use mathlib.Core.Logic.{◌↔◌}
use Prim.Native.Nat.{ℕ}
use borrow.Author.Tests.{lt-ltb, le-ltb, ltb-true, ltb-false, not-true}
use lib.Dec.{ltb}
use lib.ListN.{length}
use Rattle.words.proofs.Tests.{either, both}
use Rattle.time_types.specs.declared.PollInterval.{PollInterval}
use Rattle.version.specs.declared.SendKind.{SendKind}
use Rattle.wire_request.specs.Request.{is_v5, has_nts, ask_valid, packet_of}
use Rattle.std.specs.Prelude.{Result}
use Rattle.wire_request.specs.declared.RequestRefusal.{RequestRefusal}
use Rattle.wire_request.specs.Answer.{number_of, request_of}
use Rattle.wire_request.specs.Numbers as N
use Rattle.wire_request.specs.Numbers.{version_five, cookie_or_count, short_buffer_lem, written}

module _ (kind : SendKind) (poll : PollInterval) (id mark : ℕ) (uid cookie : List ℕ) (asked room : ℕ) where
  abbrev packet : List ℕ
  packet = packet_of kind poll id mark uid cookie asked

  abbrev Given : ℕ → Result ℕ RequestRefusal → Type 0
  Given = N.Given kind poll id mark uid cookie asked room

  abbrev Told : Result ℕ RequestRefusal → Type 0
  Told r = Given (number_of r) r

  pub given : Told (request_of kind poll id mark uid cookie asked room)
  unfolding request_of
  given =
      either Told (is_v5 kind) version_five
      (λ f.
      either Told (has_nts kind && not (ask_valid (length cookie) asked))
      (λ e. let p = both (has_nts kind) (not (ask_valid (length cookie) asked)) e in cookie_or_count f p.0 (not-true _ p.1))
      (λ e.
      either Told (ltb room (length packet))
      (λ s. short_buffer_lem (record { four = f; right = e }) (ltb-true room (length packet) s))
      (λ s. written (record { four = f; right = e }) (ltb-false room (length packet) s))))

  pub only : {n : ℕ} {r : Result ℕ RequestRefusal} → Given n r → request_of kind poll id mark uid cookie asked room ≡ r
  unfolding request_of
  only (version_five v) = rw v
  only (cookie_or_count v h k) = rw (v, h, k)
  only (short_buffer_lem w s) = rw (w.four, w.right, lt-ltb room (length packet) s)
  only (written w s) = rw (w.four, w.right, le-ltb room (length packet) s)

  numbered : {n : ℕ} {r : Result ℕ RequestRefusal} → Given n r → number_of r ≡ n
  numbered (version_five v) = refl
  numbered (cookie_or_count v h k) = refl
  numbered (short_buffer_lem w s) = refl
  numbered (written w s) = refl

  pub number : (n : ℕ) → (number_of (request_of kind poll id mark uid cookie asked room) ≡ n) ↔ ((r : Result ℕ RequestRefusal) × Given n r)
  number n = (
    (λ e. (request_of kind poll id mark uid cookie asked room, subst (λ (k : ℕ). Given k (request_of kind poll id mark uid cookie asked room)) e given)),
    (λ (r, g). ap number_of (only g) ∙ numbered g),
  )
