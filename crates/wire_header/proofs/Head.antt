-- A header's bytes read as a part of known length, and its words by halves: nothing is read otherwise.
-- Assumes nothing.
use mathlib.Core.Path.{◌≡◌, refl, ◌∙◌, ap}
use mathlib.Core.List.{List, [], ◌∷◌}
use Prim.Native.Nat.{ℕ, zero, suc, ◌+◌, ◌*◌, ◌/◌, ◌%◌, ◌^◌, ◌≤◌, ◌<◌}
use native.Mathlib.Omega.{arith}
use lib.Dec.{lit<}
use lib.ListN.{length, take, drop, get_or}
use lib.Seq.{get_or-take, take-take}
use Rattle.words.specs.Bytes.{be, part}
use Rattle.words.specs.Signed.{signed}
use Rattle.words.proofs.Bytes.{be_next}
use Rattle.identifiers.specs.Names.{named}
use Rattle.time_types.specs.Time.{timestamp}
use Rattle.time_types.specs.Poll.{interval}
use Rattle.wire_header.specs.declared.HeaderVersion.{HeaderVersion}
use Rattle.wire_header.specs.Header.{leap_of, mode_of, fields}

-- ---- a word by its halves

none : (p : List ℕ) (at : ℕ) → be (part p at 0) ≡ 0
unfolding be part
none p at = refl

-- one byte more of the low half
low : (p : List ℕ) (at i k : ℕ) → at + 4 + i ≡ k → at + 4 + i < length p → be (part p (at + 4) (i + 1)) ≡ be (part p (at + 4) i) * 256 + get_or p k 0
low p at i k e h = be_next p (at + 4) i h ∙ ap (λ (j : ℕ). be (part p (at + 4) i) * 256 + get_or p j 0) e

pub halves : (p : List ℕ) (at : ℕ) → at + 8 ≤ length p → be (part p at 8) ≡ be (part p at 4) * 4294967296 + be (part p (at + 4) 4)
halves p at h =
    omega (
      arith,
      be_next p at 4 (omega arith),
      be_next p at 5 (omega arith),
      be_next p at 6 (omega arith),
      be_next p at 7 (omega arith),
      none p (at + 4),
      low p at 0 (at + 4) (omega arith) (omega arith),
      low p at 1 (at + 5) (omega arith) (omega arith),
      low p at 2 (at + 6) (omega arith) (omega arith),
      low p at 3 (at + 7) (omega arith) (omega arith),
    )

-- ---- a part of the first bytes is a part of all

within : (p : List ℕ) (at n m : ℕ) → at + n ≤ m → take n (drop at (take m p)) ≡ take n (drop at p)
within p zero n m h = take-take n m p (omega arith)
within p (suc at) n zero h = absurd (omega arith)
within [] (suc at) n (suc m) h = refl
within (x ∷ p) (suc at) n (suc m) h = within p at n m (omega arith)

number : (p : List ℕ) (at n m : ℕ) → at + n ≤ m → be (part (take m p) at n) ≡ be (part p at n)
unfolding part
number p at n m h = ap be (within p at n m h)

pub fields_head : (v : HeaderVersion) (p : List ℕ) → fields v (take 48 p) ≡ fields v p
unfolding fields
fields_head v p =
    let first = get_or-take 48 p 0 0 (lit< tt) in
    let stratum = get_or-take 48 p 1 0 (lit< tt) in
    let poll = get_or-take 48 p 2 0 (lit< tt) in
    let precision = get_or-take 48 p 3 0 (lit< tt) in
    let rootdelay = number p 4 4 48 (omega arith) in
    let rootdisp = number p 8 4 48 (omega arith) in
    let refid = number p 12 4 48 (omega arith) in
    let reftime = number p 16 8 48 (omega arith) in
    let origin = number p 24 8 48 (omega arith) in
    let receive = number p 32 8 48 (omega arith) in
    let transmit = number p 40 8 48 (omega arith) in
    λ i. record {
      version = v;
      leap = leap_of (first i / 64);
      mode = mode_of (first i % 8);
      stratum = stratum i;
      poll = interval (signed (2 ^ 7) (poll i));
      precision = signed (2 ^ 7) (precision i);
      rootdelay = rootdelay i;
      rootdisp = rootdisp i;
      refid = named (refid i);
      reftime = timestamp (reftime i);
      origin = timestamp (origin i);
      receive = timestamp (receive i);
      transmit = timestamp (transmit i);
    }
