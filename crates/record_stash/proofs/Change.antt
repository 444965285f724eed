-- A row that is put anew, with the reading place and the count: what the stash becomes.
-- Assumes nothing.
use Prim.Native.Nat.{ℕ, ◌+◌, ◌-◌, ◌*◌, ◌≤◌, ◌<◌}
use mathlib.Core.Path.{◌≡◌, refl, sym, ap, subst, ◌∙◌}
use mathlib.Core.List.{List, [], ◌++◌, append_assoc, append-nil}
use native.Mathlib.Decide.{dec_lt}
use native.Mathlib.Nat.{mod-eq_of_lt}
use native.Mathlib.Omega.{arith}
use borrow.Rule.Slice.PartMut.{put_mid}
use lib.ListN.{length, get_or, take, drop, set, replicate, length-set, length-append, length-drop, length-replicate, drop_of_length-le, get_or-append}
use lib.Seq.{get_or-set_same, get_or-set_other, set-append_left, ext_get_or, take_at, drop_at, length-take-le}
use Rattle.words.specs.Bytes.{be, part, to_be}
use Rattle.words.proofs.Bytes.{be_to_be}
use Rattle.cookiestash.specs.declared.Slot.{Slot}
use Rattle.cookiestash.specs.declared.CookieStash.{CookieStash}
use mathlib.Core.Bool.{true, false}
use borrow.Author.Tests.{ltb-true}
use lib.Dec.{ltb}
use Rattle.words.proofs.Tests.{both}
use Rattle.std.proofs.Common.{None, Some}
use Rattle.cookiestash.specs.declared.Taken.{Taken}
use Rattle.cookiestash.specs.Stash.{stored, slot_of, empty_slot, slot_at, wrap, range_of, in_range, rest_of, get_of, slot_or_empty}
use Rattle.cookiestash.specs.Whole.{has_of}
use Rattle.cookiestash.proofs.Range.{within}
use Rattle.cookiestash.specs.Handed.{handed_of}
use Rattle.cookiestash.proofs.Handed.{handed_none}
use Rattle.cookiestash.proofs.Stored.{stored_bounds}
use Rattle.record_stash.specs.Rows.{slot_in, slots_in, stash_in, row_of, Sized}
use Rattle.record_stash.proofs.Rows.{slots_long, slots_at}
use Rattle.record_stash.specs.Slots.{kept_slot, Becomes, changed, TakenIn}
use Rattle.record_stash.proofs.Mid.{part_same, mid_below, mid_above, mid_inside, mid_long, mid_at}

-- what a slot needs to have a row
pub record Fitting (x : Slot) : Type 0 where
  pub sized : length x.bytes ≡ 724
  pub short : x.len < 65536

pub row_long : (x : Slot) → length x.bytes ≡ 724 → length (row_of x) ≡ 726
row_long x n = length-append x.bytes (to_be 2 x.len) ∙ omega (arith, n)

-- a row of rows: the slot at its offset
module _ (x : Slot) (f : Fitting x) where
  bytes_of : part (row_of x) 0 724 ≡ x.bytes
  unfolding part
  bytes_of = take_at x.bytes (to_be 2 x.len) 724 f.sized

  len_of : be (part (row_of x) 724 2) ≡ x.len
  unfolding part
  len_of = ap (λ (l : List ℕ). be (take 2 l)) (drop_at x.bytes (to_be 2 x.len) 724 f.sized) ∙ be_to_be 2 x.len ∙ mod-eq_of_lt f.short

module _ (b c : List ℕ) (at : ℕ) (e : length c ≡ length b) (f : (i : ℕ) → at ≤ i → i < at + 726 → get_or c i 0 ≡ get_or b i 0) where
  pub slot_same : slot_in c at ≡ slot_in b at
  unfolding slot_in
  slot_same =
      let p = part_same b c at 724 e (λ i h k. f i h (omega arith)) in
      let q = part_same b c (at + 724) 2 e (λ i h k. f i (omega arith) (omega arith)) in
      λ i. record { bytes = p i; len = be (q i) }

-- bytes that differ in the row of a place, and in the head
module _ (cap : ℕ) (b c : List ℕ) (k : ℕ) (x : Slot) (long : length c ≡ length b) (inside : k < cap) (row : slot_in c (92 + k * 726) ≡ x)
    (below : (i : ℕ) → 92 ≤ i → i < 92 + k * 726 → get_or c i 0 ≡ get_or b i 0) (above : (i : ℕ) → 92 + k * 726 + 726 ≤ i → get_or c i 0 ≡ get_or b i 0) where
  slot_by : (j : ℕ) → j < cap → slot_at (slots_in c 92 cap) j ≡ slot_at (set (slots_in b 92 cap) k x) j
  slot_by j h =
      let d : Slot = record { bytes = []; len = 0 } in
      let n = slots_long b 92 cap in
      let other : (j ≡ k → ⊥) → slot_in c (92 + j * 726) ≡ slot_in b (92 + j * 726) → slot_at (slots_in c 92 cap) j ≡ slot_at (set (slots_in b 92 cap) k x) j
      = λ ne s. slots_at c 92 cap j h ∙ s ∙ sym (get_or-set_other (slots_in b 92 cap) k j x d ne ∙ slots_at b 92 cap j h) in
      elim (dec_lt j k) [
        | yes l ↦ other (λ q. omega arith) (slot_same b c (92 + j * 726) long (λ i p q. below i (omega arith) (omega arith)))
        | no m ↦
            elim (dec_lt k j) [
              | yes l ↦ other (λ q. omega arith) (slot_same b c (92 + j * 726) long (λ i p q. above i (omega arith)))
              | no o ↦
                  let q : j ≡ k = omega arith in
                  slots_at c 92 cap j h ∙ ap (λ (y : ℕ). slot_in c (92 + y * 726)) q ∙ row
                  ∙ sym (ap (λ (y : ℕ). slot_at (set (slots_in b 92 cap) k x) y) q ∙ get_or-set_same (slots_in b 92 cap) k x d (omega arith))
            ]
      ]

  pub slots_set : slots_in c 92 cap ≡ set (slots_in b 92 cap) k x
  slots_set =
      let n = slots_long c 92 cap in
      ext_get_or (record { bytes = []; len = 0 }) (slots_in c 92 cap) (set (slots_in b 92 cap) k x)
      (n ∙ sym (length-set (slots_in b 92 cap) k x ∙ slots_long b 92 cap)) (λ j h. slot_by j (omega arith))

  pub all_set : slots_in c 92 cap ++ replicate (8 - cap) empty_slot ≡ set (slots_in b 92 cap ++ replicate (8 - cap) empty_slot) k x
  all_set =
      ap (λ (l : List Slot). l ++ replicate (8 - cap) empty_slot) slots_set
      ∙ sym (set-append_left (slots_in b 92 cap) (replicate (8 - cap) empty_slot) k x (let n = slots_long b 92 cap in omega arith))

-- the row of a place, the reading place and the count, put anew
module _ (cap : ℕ) (b : List ℕ) (s : Sized b cap) (k : ℕ) (inside : k < cap) (x : Slot) (f : Fitting x) (r h : ℕ) (at m : ℕ) (is_at : at ≡ 92 + k * 726)
    (is_m : m ≡ 726) where
  abbrev mid : List ℕ
  mid = put_mid at m b (row_of x)

  abbrev end : List ℕ
  end = set (set mid 27 r) 28 h

  n : length (row_of x) ≡ m
  n = row_long x f.sized ∙ sym is_m

  fits : at + m ≤ length b
  fits = omega (arith, s.long)

  long : length end ≡ length b
  long = length-set (set mid 27 r) 28 h ∙ length-set mid 27 r ∙ mid_long at m b (row_of x) n fits

  -- but for two bytes of the head, the bytes are those with the row
  beside : (i : ℕ) → (i ≡ 27 → ⊥) → (i ≡ 28 → ⊥) → get_or end i 0 ≡ get_or mid i 0
  beside i p q = get_or-set_other (set mid 27 r) 28 i h 0 q ∙ get_or-set_other mid 27 i r 0 p

  head : (i : ℕ) → i < 92 → (i ≡ 27 → ⊥) → (i ≡ 28 → ⊥) → get_or end i 0 ≡ get_or b i 0
  head i l p q = beside i p q ∙ mid_below at m b (row_of x) n fits i (omega arith)

  tail : (i n : ℕ) → 92 ≤ i → part end i n ≡ part mid i n
  tail i n l = part_same mid end i n (length-set (set mid 27 r) 28 h ∙ length-set mid 27 r) (λ j p q. beside j (λ u. omega arith) (λ u. omega arith))

  the_row : slot_in end (92 + k * 726) ≡ x
  unfolding slot_in
  the_row =
      let p : part end (92 + k * 726) 724 ≡ x.bytes
      = tail (92 + k * 726) 724 (omega arith) ∙ ap (λ (j : ℕ). part mid j 724) (omega (arith, is_at)) ∙ mid_inside at m b (row_of x) n fits 0 724 (omega arith)
      ∙ bytes_of x f in
      let q : part end (92 + k * 726 + 724) 2 ≡ part (row_of x) 724 2
      = tail (92 + k * 726 + 724) 2 (omega arith) ∙ ap (λ (j : ℕ). part mid j 2) (omega (arith, is_at))
      ∙ mid_inside at m b (row_of x) n fits 724 2 (omega arith) in
      let u : be (part end (92 + k * 726 + 724) 2) ≡ x.len = ap be q ∙ len_of x f in
      λ i. record { bytes = p i; len = u i }

  pub becomes : Becomes cap b end (changed (stash_in b cap) k x r h)
  unfolding stash_in
  becomes =
      let slots = all_set cap b end k x long inside the_row
      (λ i p q. beside i (λ u. omega arith) (λ u. omega arith) ∙ mid_below at m b (row_of x) n fits i (omega arith))
      (λ i p. beside i (λ u. omega arith) (λ u. omega arith) ∙ mid_above at m b (row_of x) n fits i (omega arith)) in
      let l₁ = mid_long at m b (row_of x) n fits in
      let l₂ = length-set mid 27 r in
      let read : get_or end 27 0 ≡ r = get_or-set_other (set mid 27 r) 28 27 h 0 (λ u. omega arith) ∙ get_or-set_same mid 27 r 0 (omega (arith, s.long)) in
      let held : get_or end 28 0 ≡ h = get_or-set_same (set mid 27 r) 28 h 0 (omega (arith, s.long)) in
      record {
        stash = λ i. record { slots = slots i; read = read i; held = held i };
        settings = part_same b end 0 27 long (λ i p q. head i (omega arith) (λ u. omega arith) (λ u. omega arith));
        state = part_same b end 29 63 long (λ i p q. head i (omega arith) (λ u. omega arith) (λ u. omega arith));
        sized = record { most = s.most; long = long ∙ s.long };
      }

  -- with a row that is the slot's
  pub becomes_by : (row : List ℕ) → row ≡ row_of x → Becomes cap b (set (set (put_mid at m b row) 27 r) 28 h) (changed (stash_in b cap) k x r h)
  becomes_by row e = subst (λ (w : List ℕ). Becomes cap b (set (set (put_mid at m b w) 27 r) 28 h) (changed (stash_in b cap) k x r h)) (sym e) becomes

-- ---- the row of a kept cookie

-- its bytes, zeros behind them, and the length, put into a row one after the other
pub row_kept : (row c : List ℕ) (len : ℕ) → length row ≡ 726 → length c ≤ 724 →
    (m : ℕ) → m ≡ length c → (r₁ : List ℕ) → r₁ ≡ c ++ drop m row →
    (z : List ℕ) → z ≡ replicate (length (take (724 - m) (drop m r₁))) 0 →
    (l : List ℕ) → l ≡ to_be 2 len → (y : List ℕ) → y ≡ l →
    put_mid 724 2 (put_mid m (724 - m) r₁ z) y ≡ row_of (kept_slot len c)
unfolding kept_slot
row_kept row c len long most m em r₁ e₁ z ez l el y ey =
    let ln : length c ≡ m = sym em in
    let d₁ : drop m r₁ ≡ drop m row = ap (drop m) e₁ ∙ drop_at c (drop m row) m ln in
    let lz : length (take (724 - m) (drop m r₁)) ≡ 724 - m = length-take-le (724 - m) (drop m r₁) (omega (arith, ap length d₁, length-drop m row)) in
    let fz : z ≡ replicate (724 - m) 0 = ez ∙ ap (λ (k : ℕ). replicate k 0) lz in
    let kz : length z ≡ 724 - m = ap length fz ∙ length-replicate {A = ℕ} (724 - m) 0 in
    let t = drop (724 - m) (drop m row) in
    let f₂ : put_mid m (724 - m) r₁ z ≡ (c ++ z) ++ t = ap (λ (q : List ℕ). put_mid m (724 - m) q z) e₁ ∙ mid_at m (724 - m) c (drop m row) z ln
    ∙ sym (append_assoc c z t) in
    let lx : length (c ++ z) ≡ 724 = length-append c z ∙ omega arith in
    let lt : length t ≡ 2 = length-drop (724 - m) (drop m row) ∙ ap (λ (k : ℕ). k - (724 - m)) (length-drop m row) ∙ omega arith in
    let fy : y ≡ to_be 2 len = ey ∙ el in
    ap (λ (q : List ℕ). put_mid 724 2 q y) f₂ ∙ mid_at 724 2 (c ++ z) t y lx
    ∙ (λ i. (c ++ z) ++ (fy i ++ drop_of_length-le t {i = 2} (omega arith) i))
    ∙ (λ i. (c ++ (fz ∙ ap (λ (k : ℕ). replicate (724 - k) 0) em) i) ++ append-nil (to_be 2 len) i)

pub kept_fits : (len : ℕ) (c : List ℕ) → len < 65536 → length c ≤ 724 → Fitting (kept_slot len c)
unfolding kept_slot
kept_fits len c h most =
    record {
      sized = length-append c (replicate (724 - length c) 0) ∙ ap (λ (k : ℕ). length c + k) (length-replicate {A = ℕ} (724 - length c) 0)
          ∙ omega arith;
      short = h;
    }

-- the slot of no cookie, and of a cookie by its stored bytes
kept_none : kept_slot 0 [] ≡ empty_slot
unfolding kept_slot empty_slot
kept_none = refl

pub kept_stored : (c : List ℕ) (n : ℕ) → n ≡ stored (length c) → kept_slot (length c) (take n c) ≡ slot_of c
unfolding kept_slot slot_of
kept_stored c n e =
    let s = stored_bounds (length c) in
    let l : length (take n c) ≡ n = length-take-le n c (omega arith) in
    λ i. record { bytes = take (e i) c ++ replicate (724 - (l ∙ e) i) 0; len = length c }

-- ---- a cookie is taken

-- what the range test and the count say
pub has : (cap read held : ℕ) → has_of cap read held ≡ true → (cap ≤ 8) × (read < cap) × (held ≤ cap) × (0 < held)
has cap read held e =
    let k = both (range_of cap read held) (ltb 0 held) e in
    let w = within cap read held k.0 in
    (w.0, w.1, w.2, ltb-true 0 held k.1)

module _ (cap : ℕ) (s : CookieStash) where
  get_found : has_of cap s.read s.held ≡ true →
      get_of cap s ≡ record { cookie = Some (slot_at s.slots s.read); stash = changed s s.read empty_slot (wrap cap (s.read + 1)) (s.held - 1) }
  unfolding get_of in_range rest_of
  get_found e = simp e

  get_none : has_of cap s.read s.held ≡ false → get_of cap s ≡ record { cookie = None; stash = s }
  unfolding get_of in_range
  get_none e = simp e

empty_none : stored empty_slot.len ≡ 0
unfolding empty_slot stored
empty_none = refl

module _ (cap : ℕ) (b : List ℕ) where
  pub reads : (stash_in b cap).read ≡ get_or b 27 0
  unfolding stash_in
  reads = refl

  pub holds : (stash_in b cap).held ≡ get_or b 28 0
  unfolding stash_in
  holds = refl

module _ (cap : ℕ) (b : List ℕ) (s : Sized b cap) where
  -- the slot at a place of the stash
  pub slot_at_lem : (k : ℕ) → k < cap → slot_at (stash_in b cap).slots k ≡ slot_in b (92 + k * 726)
  unfolding stash_in
  slot_at_lem k h = get_or-append (slots_in b 92 cap) (replicate (8 - cap) empty_slot) (record { bytes = []; len = 0 }) k
      (let n = slots_long b 92 cap in omega arith) ∙ slots_at b 92 cap k h

  pub same : Becomes cap b b (stash_in b cap)
  same = record { stash = refl; settings = refl; state = refl; sized = s }

  module _ (ys : List ℕ) where
    pub taken_by : has_of cap (get_or b 27 0) (get_or b 28 0) ≡ true → (c zs : List ℕ) (next : ℕ) → next ≡ wrap cap (get_or b 27 0 + 1) →
        Becomes cap b c (changed (stash_in b cap) (get_or b 27 0) (kept_slot 0 []) next (get_or b 28 0 - 1)) →
        zs ≡ handed_of (slot_in b (92 + get_or b 27 0 * 726)) ys →
        TakenIn cap b c ys zs
    unfolding stash_in
    taken_by e c zs next en f g =
        let h = has cap (get_or b 27 0) (get_or b 28 0) e in
        let t = get_found cap (stash_in b cap) e in
        let p : changed (stash_in b cap) (get_or b 27 0) (kept_slot 0 []) next (get_or b 28 0 - 1) ≡ (get_of cap (stash_in b cap)).stash
        = (λ i. changed (stash_in b cap) (get_or b 27 0) (kept_none i) (en i) (get_or b 28 0 - 1)) ∙ sym (ap (λ (x : Taken). x.stash) t) in
        record {
          becomes = subst (Becomes cap b c) p f;
          leaves = g ∙ ap (λ (x : Slot). handed_of x ys) (sym (slot_at_lem (get_or b 27 0) h.1) ∙ sym (ap slot_or_empty t));
        }

    pub left_by : has_of cap (get_or b 27 0) (get_or b 28 0) ≡ false → TakenIn cap b b ys ys
    unfolding stash_in
    left_by e =
        let t = get_none cap (stash_in b cap) e in
        record {
          becomes = subst (Becomes cap b b) (sym (ap (λ (x : Taken). x.stash) t)) same;
          leaves = sym (handed_none empty_slot ys empty_none) ∙ ap (λ (x : Taken). handed_of (slot_or_empty x) ys) (sym t);
        }
