-- A field that is found has the body that its step names: exactly that part of the packet, also where it ends at the packet's last byte; and bytes past the
-- end have none.
-- Assumes nothing.
use mathlib.Core.Path.{◌≡◌, refl, ◌∙◌, ap}
use mathlib.Core.Bool.{Bool, true, false}
use mathlib.Core.List.{List, []}
use Prim.Native.Nat.{ℕ, ◌+◌, ◌≤◌, ◌<◌}
use native.Mathlib.Omega.{arith}
use borrow.Author.Tests.{leb-true, leb-false}
use lib.Dec.{lit≤}
use lib.ListN.{length}
use Rattle.words.specs.Bytes.{part}
use Rattle.words.proofs.Bytes.{length_part}
use Rattle.words.proofs.Tests.{when, unless}
use Rattle.wire_fields.specs.Field.{packet_step}
use Rattle.wire_fields.specs.declared.Step.TheVariants.{Field}
use Rattle.wire_fields.proofs.Walks.{placed}
use Rattle.wire_fields.specs.Walker.{fits, body_of, body_from, Body}

module _ (p : List ℕ) (start len : ℕ) where
  within_fits : start + len ≤ length p → fits p start len ≡ true
  within_fits h = go (fits p start len) refl
    where
      go : (t : Bool) → fits p start len ≡ t → t ≡ true
      go true e = refl
      go false e = absurd (omega (arith, leb-false))

  past_unfit : length p < start + len → fits p start len ≡ false
  past_unfit h = go (fits p start len) refl
    where
      go : (t : Bool) → fits p start len ≡ t → t ≡ false
      go true e = absurd (omega (arith, leb-true))
      go false e = refl

  pub body_within : start + len ≤ length p → (body_of p start len ≡ part p start len) × (body_from p start len ≡ start)
  unfolding body_of body_from
  body_within h = (when _ _ (within_fits h), when _ _ (within_fits h))

  -- promise: 7.10 (past the end there is none)
  pub body_past : length p < start + len → body_of p start len ≡ []
  unfolding body_of
  body_past h = unless _ _ (past_unfit h)

-- promise: 7.10 (the body of a found field is exactly that part)
pub body_found : (p : List ℕ) (at kind start len next : ℕ) → packet_step p at ≡ Field kind start len next → Body p at start len next
body_found p at kind start len next e =
    let w = placed p at 16 24 (lit≤ tt) kind start len next e in
    let h : start + len ≤ length p = omega arith in
    let b = body_within p start len h in
    record {
      starts = w.starts;
      ends = w.ends;
      within = w.within;
      bytes = b.0;
      long = ap length b.0 ∙ length_part p start len h;
      place = b.1;
    }
