-- The groups that the code makes, one behind the other, are the fields of the two associations.
-- Assumes nothing.
use Prim.Native.Nat.{ℕ, ◌+◌}
use mathlib.Core.Path.{◌≡◌, refl, sym, ◌∙◌}
use mathlib.Core.Bool.{true}
use mathlib.Core.List.{List, ◌∷◌, ◌++◌, map}
use lib.ListN.{get_or}
use Rattle.words.proofs.Bytes.{Bytes}
use Rattle.association.specs.declared.Settings.{Settings}
use Rattle.association.specs.declared.State.{State}
use Rattle.association.specs.declared.Association.{Association}
use Rattle.handover_file.specs.Cookies.{stash_fits, stash_known, stash_of}
use Rattle.handover_compare.specs.declared.fields.Field.{Field}
use Rattle.handover_compare.specs.Readings.{plain, settings_numbers, state_numbers, held_of, aged_of, ages}
use Rattle.handover_compare.specs.Fields.{field_of, fields_of}
use Rattle.handover_compare.specs.Steps.{number_of, eight_of, cookie_in, groups_in, all_of}
use Rattle.handover_compare.proofs.Ages.{place_is, aged_is}

-- ---- as the code makes them

-- eight numbers, by their places
pub from_1 : (x y : List ℕ) → map (number_of 1 x y) ages ≡ eight_of 1 x y
unfolding eight_of
from_1 x y = refl

pub from_48 : (x y : List ℕ) → map (number_of 48 x y) ages ≡ eight_of 48 x y
unfolding eight_of
from_48 x y = refl

module _ (l : Settings) (p : State) (left : List ℕ) (r : Settings) (q : State) (right : List ℕ) where
  pub grouped : {s c t : List Field} {f h : Field} {x y u v : List ℕ} {m n j k : ℕ} → x ≡ settings_numbers l → y ≡ settings_numbers r → s ≡ eight_of 1 x y
      → m ≡ l.capacity → n ≡ r.capacity → h ≡ field_of 9 (plain m) (plain n)
      → j ≡ get_or left 0 0 → k ≡ get_or right 0 0 → f ≡ field_of 16 (plain j) (plain k)
      → c ≡ map (cookie_in left right) ages
      → u ≡ state_numbers p → v ≡ state_numbers q → t ≡ eight_of 48 u v →
      record { settings = s; capacity = h; read = f; cookies = c; state = t } ≡ groups_in l p left r q right
  unfolding groups_in
  grouped ex ey es em en eh ej ek ef ec eu ev et =
      let first = es ∙ (λ i. eight_of 1 (ex i) (ey i)) in
      let most = eh ∙ (λ i. field_of 9 (plain (em i)) (plain (en i))) in
      let place = ef ∙ (λ i. field_of 16 (plain (ej i)) (plain (ek i))) in
      let last = et ∙ (λ i. eight_of 48 (eu i) (ev i)) in
      λ i. record { settings = first i; capacity = most i; read = place i; cookies = ec i; state = last i }

-- ---- of two associations whose stashes are read of the bodies

-- the association is these settings, this state, and the stash of the body
pub record Of (a : Association) (s : Settings) (q : State) (b : List ℕ) : Type 0 where
  pub bytes : Bytes b
  pub fits : stash_fits b ≡ true
  pub known : stash_known s.capacity b ≡ true
  pub is : a ≡ record { settings = s; stash = stash_of s.capacity b; state = q }

module _ {a b : Association} {l r : Settings} {p q : State} {left right : List ℕ} (m : Of a l p left) (n : Of b r q right) where
  cookie_is : (age : ℕ) → cookie_in left right age
      ≡ field_of (32 + age) (aged_of (held_of l.capacity (stash_of l.capacity left)) age) (aged_of (held_of r.capacity (stash_of r.capacity right)) age)
  unfolding cookie_in
  cookie_is age = λ i. field_of (32 + age) (aged_is l.capacity left m.bytes m.fits m.known age i)
      (aged_is r.capacity right n.bytes n.fits n.known age i)

  place_field : field_of 16 (plain (get_or left 0 0)) (plain (get_or right 0 0))
      ≡ field_of 16 (plain (stash_of l.capacity left).read) (plain (stash_of r.capacity right).read)
  place_field = λ i. field_of 16 (plain (place_is l.capacity left m.bytes m.fits m.known i))
      (plain (place_is r.capacity right n.bytes n.fits n.known i))

  -- promise: no10.1 (these are the fields of the two loaded associations)
  pub all_fields : all_of (groups_in l p left r q right) ≡ fields_of a b
  unfolding groups_in fields_of eight_of settings_numbers state_numbers
  all_fields =
      (λ i. eight_of 1 (settings_numbers l) (settings_numbers r)
      ++ (field_of 9 (plain l.capacity) (plain r.capacity)
      ∷ place_field i
      ∷ (cookie_is 0 i ∷ cookie_is 1 i ∷ cookie_is 2 i ∷ cookie_is 3 i ∷ cookie_is 4 i ∷ cookie_is 5 i ∷ cookie_is 6 i ∷ cookie_is 7 i
      ∷ eight_of 48 (state_numbers p) (state_numbers q))))
      ∙ sym (λ i. fields_of (m.is i) (n.is i))
