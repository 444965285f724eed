-- What is packed unpacks to what it was, and is a record.
-- Assumes nothing.
use Prim.Native.Nat.{ℕ, zero, suc, ◌+◌, ◌-◌, ◌*◌, ◌≤◌, ◌<◌}
use mathlib.Core.Path.{◌≡◌, refl, sym, ap, ◌∙◌}
use mathlib.Core.List.{List, [], ◌∷◌, ◌++◌, append_assoc}
use native.Mathlib.Nat.{mod-eq_of_lt}
use native.Mathlib.Omega.{arith}
use lib.ListN.{length, get_or, take, drop, replicate, length-append, length-drop, length-replicate, get_or-replicate, take-append-drop}
use lib.Seq.{take_at, drop_at, drop-drop, get_or_at, get_or-drop, ext_get_or, length-take-le}
use Rattle.words.specs.Bytes.{be, part, to_be}
use Rattle.words.proofs.Bytes.{be_to_be}
use Rattle.cookiestash.specs.declared.Slot.{Slot}
use Rattle.cookiestash.specs.Stash.{empty_slot, slot_at}
use Rattle.cookiestash.specs.Whole.{Typed}
use Rattle.association.specs.declared.Settings.{Settings}
use Rattle.association.specs.declared.Association.{Association}
use Rattle.handover_groups.specs.Settings.{settings_bytes, settings_of, settings_known}
use Rattle.handover_groups.proofs.OfSettings.{SettingsFit, settings_back, settings_known_lem, settings_long}
use Rattle.record_stash.specs.Rows.{slot_in, slots_in, stash_in, row_of, rows_of}
use Rattle.record_bytes.specs.State.{state_bytes, state_of, state_known, StateFit}
use Rattle.record_bytes.specs.Record.{settings_in, unpacked, packed}
use Rattle.record_bytes.proofs.State.{state_back, state_known_lem, state_long}
use Rattle.record_bytes.proofs.Packed.{Ok}

-- slots that have rows
data Rowed : List Slot → Type 0 where
  none : Rowed []
  one : {x : Slot} {xs : List Slot} → length x.bytes ≡ 724 → x.len < 65536 → Rowed xs → Rowed (x ∷ xs)

-- rows that stand at an offset are the slots there
rows_at : (b : List ℕ) (xs : List Slot) → Rowed xs → (at : ℕ) → drop at b ≡ rows_of xs → slots_in b at (length xs) ≡ xs
unfolding slot_in part
rows_at b [] none at e = refl
rows_at b (x ∷ xs) (one n s r) at e =
    let tail = to_be 2 x.len ++ rows_of xs in
    let d₀ : drop at b ≡ x.bytes ++ tail = e ∙ append_assoc x.bytes (to_be 2 x.len) (rows_of xs) in
    let d₁ : drop (at + 724) b ≡ tail = sym (drop-drop 724 at b) ∙ ap (drop 724) d₀ ∙ drop_at x.bytes tail 724 n in
    let p : at + 724 + 2 ≡ at + 726 = omega arith in
    let d₂ : drop (at + 726) b ≡ rows_of xs = ap (λ (k : ℕ). drop k b) (sym p) ∙ sym (drop-drop 2 (at + 724) b) ∙ ap (drop 2) d₁ in
    let bytes : take 724 (drop at b) ≡ x.bytes = ap (take 724) d₀ ∙ take_at x.bytes tail 724 n in
    let len : be (take 2 (drop (at + 724) b)) ≡ x.len = ap (λ (l : List ℕ). be (take 2 l)) d₁ ∙ be_to_be 2 x.len ∙ mod-eq_of_lt s in
    λ i. record { bytes = bytes i; len = len i } ∷ rows_at b xs r (at + 726) d₂ i

rows_long : (xs : List Slot) → Rowed xs → length (rows_of xs) ≡ length xs * 726
rows_long [] none = refl
rows_long (x ∷ xs) (one n s r) =
    length-append (row_of x) (rows_of xs) ∙ ap (λ (k : ℕ). k + length (rows_of xs)) (length-append x.bytes (to_be 2 x.len)) ∙ omega (arith, rows_long xs r)

rowed : (n : ℕ) (xs : List Slot) → ((k : ℕ) → k < length xs → (length (slot_at xs k).bytes ≡ 724) × ((slot_at xs k).len ≤ 65535)) → Rowed (take n xs)
rowed zero xs f = none
rowed (suc n) [] f = none
rowed (suc n) (x ∷ xs) f =
    let g = f 0 (omega arith) in
    let s : x.len < 65536 = omega (arith, g.1) in
    one g.0 s (rowed n xs (λ k h. f (suc k) (omega arith)))

-- what a record that the machine holds says of itself, and that nothing lies past its capacity
pub record Fits (a : Association) : Type 0 where
  pub settings : SettingsFit a.settings
  pub state : StateFit a.state
  pub typed : Typed a.stash
  pub most : a.settings.capacity ≤ 8
  pub past : (k : ℕ) → a.settings.capacity ≤ k → k < 8 → slot_at a.stash.slots k ≡ empty_slot

module _ (a : Association) (f : Fits a) where
  abbrev cap : ℕ
  cap = a.settings.capacity

  abbrev S : List ℕ
  S = settings_bytes a.settings

  abbrev T : List ℕ
  T = state_bytes a.state

  abbrev R : List ℕ
  R = rows_of (take cap a.stash.slots)

  abbrev b : List ℕ
  b = S ++ (a.stash.read ∷ a.stash.held ∷ (T ++ R))

  l_t : length T ≡ 63
  l_t = state_long a.state f.state.request.uid

  first : part b 0 27 ≡ S
  unfolding part
  first = take_at S (a.stash.read ∷ a.stash.held ∷ (T ++ R)) 27 (settings_long a.settings)

  behind : (k : ℕ) → drop (27 + k) b ≡ drop k (a.stash.read ∷ a.stash.held ∷ (T ++ R))
  behind k = sym (drop-drop k 27 b) ∙ ap (drop k) (drop_at S (a.stash.read ∷ a.stash.held ∷ (T ++ R)) 27 (settings_long a.settings))

  the_state : part b 29 63 ≡ T
  unfolding part
  the_state = ap (take 63) (behind 2) ∙ take_at T R 63 l_t

  the_rows : drop 92 b ≡ R
  the_rows = sym (drop-drop 63 29 b) ∙ ap (drop 63) (behind 2) ∙ drop_at T R 63 l_t

  read : get_or b 27 0 ≡ a.stash.read
  read = get_or_at S a.stash.read (a.stash.held ∷ (T ++ R)) 0 27 (settings_long a.settings)

  held : get_or b 28 0 ≡ a.stash.held
  held = sym (get_or-drop 28 b 0 0) ∙ ap (λ (l : List ℕ). get_or l 0 0) (behind 1)

  count : length (take cap a.stash.slots) ≡ cap
  count = length-take-le cap a.stash.slots (omega (arith, f.typed.eight, f.most))

  rest : drop cap a.stash.slots ≡ replicate (8 - cap) empty_slot
  rest =
      let d : Slot = record { bytes = []; len = 0 } in
      let l : length (drop cap a.stash.slots) ≡ 8 - cap = length-drop cap a.stash.slots ∙ ap (λ (n : ℕ). n - cap) f.typed.eight in
      ext_get_or d (drop cap a.stash.slots) (replicate (8 - cap) empty_slot) (l ∙ sym (length-replicate (8 - cap) empty_slot))
      (λ i h. get_or-drop cap a.stash.slots i d ∙ f.past (cap + i) (omega arith) (omega (arith, f.most))
      ∙ sym (get_or-replicate (8 - cap) i empty_slot d (omega arith)))

  has_rows : Rowed (take cap a.stash.slots)
  has_rows = rowed cap a.stash.slots (λ k h. f.typed.each k (omega (arith, f.typed.eight)))

  stash : stash_in b cap ≡ a.stash
  unfolding stash_in
  stash =
      let slots = ap (λ (n : ℕ). slots_in b 92 n) (sym count) ∙ rows_at b (take cap a.stash.slots) has_rows 92 the_rows in
      let all = (λ i. slots i ++ sym rest i) ∙ take-append-drop cap a.stash.slots in
      λ i. record { slots = all i; read = read i; held = held i }

  settings_are : settings_in b ≡ a.settings
  settings_are = ap settings_of first ∙ settings_back a.settings f.settings

  pub unpacked_packed : unpacked (packed a) ≡ a
  unfolding unpacked packed
  unpacked_packed =
      let s = ap (λ (x : Settings). stash_in b x.capacity) settings_are ∙ stash in
      let q = ap state_of the_state ∙ state_back a.state f.state in
      λ i. record { settings = settings_are i; stash = s i; state = q i }

  pub packed_ok : Ok (packed a) cap
  unfolding packed
  packed_ok =
      let n : length b ≡ 92 + cap * 726
      = length-append S (a.stash.read ∷ a.stash.held ∷ (T ++ R))
      ∙ omega (arith, settings_long a.settings, length-append T R, l_t, rows_long (take cap a.stash.slots) has_rows, count) in
      record {
        sized = record { most = f.most; long = n };
        settings = ap settings_known first ∙ settings_known_lem a.settings;
        state = ap state_known the_state ∙ state_known_lem a.state f.state.request.uid;
      }
