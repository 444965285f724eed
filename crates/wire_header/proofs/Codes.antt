-- The three numbers of byte 0: each code undoes the reading of it, and the byte holds all three.
-- Assumes nothing.
use mathlib.Core.Path.{◌≡◌, refl}
use Prim.Native.Nat.{ℕ, ◌/◌, ◌%◌, ◌<◌}
use native.Mathlib.Omega.{arith}
use borrow.Author.Count.{below_none, below_more}
use lib.Dec.{lit<}
use Rattle.wire_header.specs.Header.{leap_code, leap_of, mode_code, mode_of, version_code, first_byte}
use Rattle.wire_header.specs.declared.HeaderVersion.{HeaderVersion}
use Rattle.wire_header.specs.declared.HeaderVersion.TheVariants.{V3, V4}
use Rattle.wire_header.specs.declared.Leap.{Leap}
use Rattle.wire_header.specs.declared.Leap.TheVariants.{NoWarning, Leap61, Leap59, Unsynchronized}
use Rattle.wire_header.specs.declared.Mode.{Mode}
use Rattle.wire_header.specs.declared.Mode.TheVariants.{Reserved, SymmetricActive, SymmetricPassive, Client, Server, Broadcast, Control, Private}

-- a code fits its bits and is read back
pub leap_kept : (l : Leap) → (leap_of (leap_code l) ≡ l) × (leap_code l < 4)
leap_kept NoWarning = (refl, lit< tt)
leap_kept Leap61 = (refl, lit< tt)
leap_kept Leap59 = (refl, lit< tt)
leap_kept Unsynchronized = (refl, lit< tt)

pub mode_kept : (m : Mode) → (mode_of (mode_code m) ≡ m) × (mode_code m < 8)
mode_kept Reserved = (refl, lit< tt)
mode_kept SymmetricActive = (refl, lit< tt)
mode_kept SymmetricPassive = (refl, lit< tt)
mode_kept Client = (refl, lit< tt)
mode_kept Server = (refl, lit< tt)
mode_kept Broadcast = (refl, lit< tt)
mode_kept Control = (refl, lit< tt)
mode_kept Private = (refl, lit< tt)

pub version_small : (v : HeaderVersion) → version_code v < 8
version_small V3 = lit< tt
version_small V4 = lit< tt

-- what fits the bits is the code of its reading
abbrev LeapBack : ℕ → Type 0
LeapBack n = leap_code (leap_of n) ≡ n

leap_back : (n : ℕ) → n < 4 → LeapBack n
leap_back = let more = below_more LeapBack in more 3 (more 2 (more 1 (more 0 (below_none LeapBack) refl) refl) refl) refl

abbrev ModeBack : ℕ → Type 0
ModeBack n = mode_code (mode_of n) ≡ n

mode_back : (n : ℕ) → n < 8 → ModeBack n
mode_back =
    let more = below_more ModeBack in
    more 7 (more 6 (more 5 (more 4 (more 3 (more 2 (more 1 (more 0 (below_none ModeBack) refl) refl) refl) refl) refl) refl) refl) refl

-- the parts of the byte
module _ (l : Leap) (v : HeaderVersion) (m : Mode) where
  pub first_leap : first_byte l v m / 64 ≡ leap_code l
  first_leap = omega (arith, (leap_kept l).1, version_small v, (mode_kept m).1)

  pub first_version : first_byte l v m / 8 % 8 ≡ version_code v
  first_version = omega (arith, (leap_kept l).1, version_small v, (mode_kept m).1)

  pub first_mode : first_byte l v m % 8 ≡ mode_code m
  first_mode = omega (arith, (leap_kept l).1, version_small v, (mode_kept m).1)

-- the byte of its parts
pub first_again : (b : ℕ) (v : HeaderVersion) → b < 256 → b / 8 % 8 ≡ version_code v → first_byte (leap_of (b / 64)) v (mode_of (b % 8)) ≡ b
first_again b v h e = rw (leap_back (b / 64) (omega arith), mode_back (b % 8) (omega arith)) (omega arith)
