-- A record's bytes are those of what they unpack to.
-- Assumes nothing.
use Prim.Native.Nat.{ℕ, ◌+◌, ◌*◌, ◌<◌}
use mathlib.Core.Path.{◌≡◌, refl, ap, ◌∙◌}
use mathlib.Core.Bool.{Bool, true, false, ◌&&◌}
use mathlib.Core.List.{List, ◌∷◌, ◌++◌}
use native.Mathlib.Omega.{arith}
use borrow.Author.Tests.{ne_eqb}
use lib.Dec.{leb, eqb}
use lib.ListN.{length, get_or}
use Rattle.words.specs.Bytes.{part}
use Rattle.words.proofs.Bytes.{Bytes, bytes_part, length_part}
use Rattle.words.proofs.Tests.{both, passes, fails}
use Rattle.handover_groups.specs.Settings.{settings_bytes, settings_known}
use Rattle.handover_groups.proofs.OfSettings as G
use Rattle.record_stash.specs.Rows.{stash_in, sized_in, Sized}
use Rattle.record_stash.proofs.With.{sized_of, of_sized, the_rows, head_again}
use Rattle.record_bytes.specs.State.{state_known}
use Rattle.record_bytes.specs.Record.{ok_in, ok, settings_in, unpacked, packed}
use Rattle.record_bytes.proofs.State.{state_again}

-- what the test says
pub record Ok (b : List ℕ) (cap : ℕ) : Type 0 where
  pub sized : Sized b cap
  pub settings : settings_known (part b 0 27) ≡ true
  pub state : state_known (part b 29 63) ≡ true

pub of_ok_in : (b : List ℕ) (cap : ℕ) → ok_in b cap ≡ true → Ok b cap
unfolding ok_in
of_ok_in b cap e =
    let k = both (sized_in b cap) (settings_known (part b 0 27) && state_known (part b 29 63)) e in
    let l = both (settings_known (part b 0 27)) (state_known (part b 29 63)) k.1 in
    record { sized = sized_of b cap k.0; settings = l.0; state = l.1 }

pub of_ok : (b : List ℕ) → ok b ≡ true → Ok b (settings_in b).capacity
unfolding ok
of_ok b e = of_ok_in b (settings_in b).capacity e

pub ok_of : (b : List ℕ) → Ok b (settings_in b).capacity → ok b ≡ true
unfolding ok ok_in
ok_of b o =
    passes (settings_known (part b 0 27) && state_known (part b 29 63)) (of_sized b (settings_in b).capacity o.sized)
    ∙ passes (state_known (part b 29 63)) o.settings
    ∙ o.state

-- no bytes shorter than a head are a record
pub short_not_ok : (b : List ℕ) → length b < 92 → ok b ≡ false
unfolding ok ok_in sized_in
short_not_ok b h =
    let cap = (settings_in b).capacity in
    let n : eqb (length b) (92 + cap * 726) ≡ false = ne_eqb (length b) (92 + cap * 726) (λ e. omega arith) in
    fails (settings_known (part b 0 27) && state_known (part b 29 63)) (ap (λ (t : Bool). leb cap 8 && t) n ∙ and_false (leb cap 8))
  where
    and_false : (t : Bool) → t && false ≡ false
    and_false true = refl
    and_false false = refl

module _ (b : List ℕ) (y : Bytes b) (o : Ok b (settings_in b).capacity) where
  pub settings_again : settings_bytes (settings_in b) ≡ part b 0 27
  settings_again = G.settings_again (part b 0 27) (length_part b 0 27 (omega (arith, o.sized.long))) (bytes_part b 0 27 y) o.settings

  pub packed_unpacked : packed (unpacked b) ≡ b
  unfolding packed unpacked stash_in
  packed_unpacked =
      let state = state_again (part b 29 63) (length_part b 29 63 (omega (arith, o.sized.long))) (bytes_part b 29 63 y) o.state in
      let rows = the_rows (settings_in b).capacity b o.sized y in
      (λ i. settings_again i ++ (get_or b 27 0 ∷ get_or b 28 0 ∷ (state i ++ rows i))) ∙ head_again b (omega (arith, o.sized.long))
