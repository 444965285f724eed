-- What RATE makes of the remote minimum: it is at least the old one and at least the last poll, and the crate's rule gives less exactly where the old one is
-- above the limit and the last poll.
-- Assumes nothing.
use Rattle.std.proofs.Common.{◌≡◌, ℤ, ◌≤ℤ◌, ◌<ℤ◌, arith}
use Rattle.std.proofs.lemmas.Int.{ints}
use Rattle.time_types.specs.Poll.{larger, after_rate, crate_rate}

pub ≤ℤ_trans : {a b c : ℤ} → a ≤ℤ b → b ≤ℤ c → a ≤ℤ c
≤ℤ_trans {a} {b} {c} h k = omega (arith, ints)

-- ---- the larger and the smaller of two

pub larger_left : (a b : ℤ) → a ≤ℤ larger a b
larger_left a b = grind (arith, ints)

pub larger_right : (a b : ℤ) → b ≤ℤ larger a b
larger_right a b = grind (arith, ints)

-- ---- RATE

module _ (remote limit last : ℤ) where
  -- promise: no7.1 (at least the old one)
  pub rate_keeps : remote ≤ℤ after_rate remote limit last
  rate_keeps = grind (arith, ints)

  -- promise: no7.1 (at least the last poll)
  pub rate_last : last ≤ℤ after_rate remote limit last
  rate_last = grind (arith, ints)

  -- it stays below whatever is above the old one, the limit and the last poll
  pub rate_most : {c : ℤ} → remote ≤ℤ c → limit ≤ℤ c → last ≤ℤ c → after_rate remote limit last ≤ℤ c
  rate_most {c} h k l = grind (arith, ints)

  -- ---- beside the crate's rule

  -- the two agree where the old one is at most the limit or the last poll
  -- promise: no7.4 (they agree where the old one is at most the limit or the last poll)
  pub rate_crate : remote ≤ℤ larger limit last → crate_rate remote limit last ≡ after_rate remote limit last
  rate_crate h = grind (arith, ints)

  -- and where it is above both the crate's falls
  -- promise: no7.4 (above both the crate's falls)
  pub crate_falls : larger limit last <ℤ remote → crate_rate remote limit last <ℤ remote
  crate_falls h = grind (arith, ints)
