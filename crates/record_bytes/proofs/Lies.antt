-- An association that lies in bytes: another state, a cookie taken and cookies stored where it lies are what they are by value, packed.
-- Assumes nothing.
use Prim.Native.Nat.{ℕ, ◌+◌, ◌-◌, ◌*◌, ◌≤◌}
use mathlib.Core.Path.{◌≡◌, refl, sym, ap, ◌∙◌}
use mathlib.Core.Bool.{Bool, true, false, cond}
use mathlib.Core.List.{List, [], ◌∷◌, ◌++◌, append_assoc}
use native.Mathlib.Omega.{arith}
use borrow.Author.Tests.{le-leb}
use lib.ListN.{length, get_or, take, drop, replicate, length-append, length-replicate, replicate-append-replicate}
use lib.Seq.{take_at, drop_at, drop-drop, get_or-append-add}
use Rattle.words.specs.Bytes.{part}
use Rattle.words.proofs.Bytes.{Bytes, length_part}
use Rattle.cookiestash.specs.declared.Slot.{Slot}
use Rattle.cookiestash.specs.declared.CookieStash.{CookieStash}
use Rattle.cookiestash.specs.Stash.{empty_slot, get_of, slot_or_empty}
use Rattle.cookiestash.specs.StoreList.{store_list_of}
use Rattle.cookiestash.specs.Falling.{none_dropped, dropped_of}
use Rattle.cookiestash.specs.Handed.{handed_of}
use Rattle.association.specs.declared.Settings.{Settings}
use Rattle.association.specs.declared.State.{State}
use Rattle.association.specs.declared.Association.{Association}
use Rattle.association.specs.Record as A
use Rattle.handover_groups.specs.Settings.{settings_bytes}
use Rattle.handover_groups.proofs.OfSettings.{settings_long}
use Rattle.record_stash.specs.Rows.{stash_in, sized_in, Sized, rows_of}
use Rattle.record_stash.specs.Slots.{with_stash, took, taken_in, refilled, refilled_in}
use Rattle.record_stash.proofs.Zeros.{zero_at, slots_zero, rows_zero}
use Rattle.record_stash.proofs.With.{of_sized}
use Rattle.record_bytes.specs.State.{state_bytes, state_of, pending_of}
use Rattle.record_bytes.specs.Record.{state_in, unpacked, packed, ok, stored_state, headed}
use Rattle.record_bytes.proofs.State.{state_long}
use Rattle.record_bytes.proofs.Packed.{of_ok, packed_unpacked}
use Rattle.record_bytes.proofs.Stated.{state_stash}

pub record Lies (a : Association) (b : List ℕ) : Type 0 where
  pub is : b ≡ packed a
  pub sized : Sized b a.settings.capacity
  pub own : stash_in b a.settings.capacity ≡ a.stash
  pub uid : length a.state.request.uid ≡ 32

-- ---- bytes that are a record

uid_long : (b : List ℕ) → 92 ≤ length b → length (state_in b).request.uid ≡ 32
unfolding state_of pending_of
uid_long b h =
    let p = length_part b 29 63 (omega arith) in
    let q = length_part (part b 29 63) 13 50 (omega arith) in
    length_part (part (part b 29 63) 13 50) 18 32 (omega arith)

pub opened_lies : (b : List ℕ) → Bytes b → ok b ≡ true → Lies (unpacked b) b
unfolding unpacked
opened_lies b y e =
    let o = of_ok b e in
    record { is = sym (packed_unpacked b y o); sized = o.sized; own = refl; uid = uid_long b (omega (arith, o.sized.long)) }

-- ---- the pieces of packed bytes

module _ (a : Association) (n : length a.state.request.uid ≡ 32) where
  abbrev head : List ℕ
  head = settings_bytes a.settings ++ (a.stash.read ∷ a.stash.held ∷ [])

  abbrev state : List ℕ
  state = state_bytes a.state

  abbrev rows : List ℕ
  rows = rows_of (take a.settings.capacity a.stash.slots)

  head_long : length head ≡ 29
  head_long = length-append (settings_bytes a.settings) (a.stash.read ∷ a.stash.held ∷ []) ∙ omega (arith, settings_long a.settings)

  pieces : packed a ≡ head ++ (state ++ rows)
  unfolding packed
  pieces = sym (append_assoc (settings_bytes a.settings) (a.stash.read ∷ a.stash.held ∷ []) (state ++ rows))

  first : part (packed a) 0 27 ≡ settings_bytes a.settings
  unfolding packed part
  first = take_at (settings_bytes a.settings) (a.stash.read ∷ a.stash.held ∷ (state ++ rows)) 27 (settings_long a.settings)

  behind : drop 29 (packed a) ≡ state ++ rows
  behind = ap (drop 29) pieces ∙ drop_at head (state ++ rows) 29 head_long

  the_state : part (packed a) 29 63 ≡ state
  unfolding part
  the_state = ap (take 63) behind ∙ take_at state rows 63 (state_long a.state n)

  the_rows : drop 92 (packed a) ≡ rows
  the_rows = sym (drop-drop 63 29 (packed a)) ∙ ap (drop 63) behind ∙ drop_at state rows 63 (state_long a.state n)

  long : length (packed a) ≡ 92 + length rows
  long = ap length pieces ∙ length-append head (state ++ rows) ∙ ap (λ (k : ℕ). length head + k) (length-append state rows)
      ∙ omega (arith, head_long, state_long a.state n)

  with_stash_lem : (t : CookieStash) → with_stash a.settings.capacity (packed a) t ≡ packed (A.with_stash a t)
  unfolding with_stash packed
  with_stash_lem t = λ i. first i ++ (t.read ∷ t.held ∷ (the_state i ++ rows_of (take a.settings.capacity t.slots)))

  with_state_lem : (s : State) → stored_state (packed a) s ≡ packed (A.with_state a s)
  unfolding stored_state packed
  with_state_lem s =
      ap (λ (t : Bool). cond t (take 29 (packed a) ++ (state_bytes s ++ drop 92 (packed a))) (packed a)) (le-leb 92 (length (packed a)) (omega (arith, long)))
      ∙ (λ i. (ap (take 29) pieces ∙ take_at head (state ++ rows) 29 head_long) i ++ (state_bytes s ++ the_rows i))
      ∙ append_assoc (settings_bytes a.settings) (a.stash.read ∷ a.stash.held ∷ []) (state_bytes s ++ rows)

-- ---- what the calls do

module _ (a : Association) (b : List ℕ) (l : Lies a b) where
  abbrev cap : ℕ
  cap = a.settings.capacity

  pub state_lies : (s : State) → length s.request.uid ≡ 32 → Lies (A.with_state a s) (stored_state b s)
  state_lies s n =
      let is : stored_state b s ≡ packed (A.with_state a s) = ap (λ (x : List ℕ). stored_state x s) l.is ∙ with_state_lem a l.uid s in
      let long : length (stored_state b s) ≡ length b = ap length is ∙ long (A.with_state a s) n ∙ sym (long a l.uid) ∙ ap length (sym l.is) in
      record {
        is = is;
        sized = record { most = l.sized.most; long = long ∙ l.sized.long };
        own = state_stash b cap s n (omega (arith, l.sized.long)) ∙ l.own;
        uid = n;
      }

  sized : sized_in b cap ≡ true
  sized = of_sized b cap l.sized

  pub put : (t : CookieStash) → with_stash cap b t ≡ packed (A.with_stash a t)
  put t = ap (λ (x : List ℕ). with_stash cap x t) l.is ∙ with_stash_lem a l.uid t

  pub takes : (t : Bool) (ys : List ℕ) → taken_in cap t b ys
      ≡ took (packed (A.with_stash a (cond t (get_of cap a.stash).stash a.stash))) (cond t (handed_of (slot_or_empty (get_of cap a.stash)) ys) ys)
  unfolding taken_in
  takes true ys =
      ap (λ (t : Bool). cond t (took (with_stash cap b (get_of cap (stash_in b cap)).stash) (handed_of (slot_or_empty (get_of cap (stash_in b cap))) ys))
      (took b ys)) sized
      ∙ ap (λ (s : CookieStash). took (with_stash cap b (get_of cap s).stash) (handed_of (slot_or_empty (get_of cap s)) ys)) l.own
      ∙ ap (λ (x : List ℕ). took x (handed_of (slot_or_empty (get_of cap a.stash)) ys)) (put (get_of cap a.stash).stash)
  takes false ys = ap (λ (x : List ℕ). took x ys) l.is

  pub refills : (t : Bool) (list : List ℕ) →
      refilled_in cap t list b ≡ refilled (cond t (dropped_of cap a.stash list) none_dropped)
      (packed (A.with_stash a (cond t (store_list_of cap a.stash list) a.stash)))
  unfolding refilled_in
  refills true list =
      ap (λ (t : Bool). cond t (refilled (dropped_of cap (stash_in b cap) list) (with_stash cap b (store_list_of cap (stash_in b cap) list)))
      (refilled none_dropped b)) sized
      ∙ ap (λ (s : CookieStash). refilled (dropped_of cap s list) (with_stash cap b (store_list_of cap s list))) l.own
      ∙ ap (refilled (dropped_of cap a.stash list)) (put (store_list_of cap a.stash list))
  refills false list = ap (refilled none_dropped) l.is

-- ---- a head before zeros

-- a stash that holds nothing, at a reading place
abbrev pub empty_from : ℕ → CookieStash
empty_from read = record { slots = replicate 8 empty_slot; read = read; held = 0 }

module _ (s : Settings) (r : ℕ) (q : State) (n : length q.request.uid ≡ 32) (k : ℕ) (is : k ≡ 92 + s.capacity * 726) (most : s.capacity ≤ 8) where
  abbrev empty : Association
  empty = record { settings = s; stash = empty_from r; state = q }

  eight : replicate s.capacity empty_slot ++ replicate (8 - s.capacity) empty_slot ≡ replicate 8 empty_slot
  eight = let e : s.capacity + (8 - s.capacity) ≡ 8 = omega arith in
      replicate-append-replicate s.capacity (8 - s.capacity) empty_slot ∙ ap (λ (j : ℕ). replicate j empty_slot) e

  zero_rows : rows_of (take s.capacity (replicate 8 empty_slot)) ≡ replicate (s.capacity * 726) 0
  zero_rows =
      ap (λ (x : List Slot). rows_of (take s.capacity x)) (sym eight)
      ∙ ap rows_of (take_at (replicate s.capacity empty_slot) (replicate (8 - s.capacity) empty_slot) s.capacity (length-replicate s.capacity empty_slot))
      ∙ rows_zero s.capacity

  zeros_behind : drop {A = ℕ} 92 (replicate k 0) ≡ replicate (s.capacity * 726) 0
  zeros_behind =
      ap (λ (j : ℕ). drop {A = ℕ} 92 (replicate j 0)) is
      ∙ ap (drop 92) (sym (replicate-append-replicate 92 (s.capacity * 726) 0))
      ∙ drop_at (replicate 92 0) (replicate (s.capacity * 726) 0) 92 (length-replicate {A = ℕ} 92 0)

  headed_is : headed (replicate k 0) s r q ≡ packed empty
  unfolding headed packed
  headed_is =
      let e = le-leb 92 (length {A = ℕ} (replicate k 0)) (omega (arith, length-replicate {A = ℕ} k 0)) in
      ap (λ (t : Bool). cond t (settings_bytes s ++ (r ∷ 0 ∷ (state_bytes q ++ drop 92 (replicate k 0)))) (replicate k 0)) e
      ∙ ap (λ (x : List ℕ). settings_bytes s ++ (r ∷ 0 ∷ (state_bytes q ++ x))) (zeros_behind ∙ sym zero_rows)

  -- past the head there are zeros
  zeros_past : (i : ℕ) → 92 ≤ i → get_or (packed empty) i 0 ≡ 0
  zeros_past i h =
      let f = head empty n ++ state empty n in
      let j : i ≡ length f + (i - 92) = omega (arith, length-append (head empty n) (state empty n), head_long empty n, state_long q n) in
      ap (λ (x : List ℕ). get_or x i 0) (pieces empty n ∙ sym (append_assoc (head empty n) (state empty n) (rows empty n)))
      ∙ ap (λ (m : ℕ). get_or (f ++ rows empty n) m 0) j
      ∙ get_or-append-add f (rows empty n) (i - 92) 0
      ∙ ap (λ (x : List ℕ). get_or x (i - 92) 0) zero_rows
      ∙ zero_at (s.capacity * 726) (i - 92)

  total : length (packed empty) ≡ 92 + s.capacity * 726
  total = long empty n ∙ ap (λ (x : List ℕ). 92 + length x) zero_rows ∙ ap (λ (j : ℕ). 92 + j) (length-replicate {A = ℕ} (s.capacity * 726) 0)

  at_27 : (get_or (packed empty) 27 0 ≡ r) × (get_or (packed empty) 28 0 ≡ 0)
  unfolding packed
  at_27 =
      let S = settings_bytes s in
      let R = state_bytes q ++ rows_of (take s.capacity (replicate 8 empty_slot)) in
      let l = settings_long s in
      let e : 27 ≡ length S + 0 = omega arith in
      let g : 28 ≡ length S + 1 = omega arith in (
        ap (λ (j : ℕ). get_or (S ++ (r ∷ 0 ∷ R)) j 0) e ∙ get_or-append-add S (r ∷ 0 ∷ R) 0 0,
        ap (λ (j : ℕ). get_or (S ++ (r ∷ 0 ∷ R)) j 0) g
            ∙ get_or-append-add S (r ∷ 0 ∷ R) 1 0,
      )

  own_stash : stash_in (packed empty) s.capacity ≡ empty_from r
  unfolding stash_in
  own_stash =
      let slots = ap (λ (x : List Slot). x ++ replicate (8 - s.capacity) empty_slot)
      (slots_zero (packed empty) 92 s.capacity (omega (arith, total)) zeros_past) ∙ eight in
      λ i. record { slots = slots i; read = at_27.0 i; held = at_27.1 i }

  pub headed_lies : Lies empty (headed (replicate k 0) s r q)
  headed_lies =
      record {
        is = headed_is;
        sized = record { most = most; long = ap length headed_is ∙ total };
        own = ap (λ (x : List ℕ). stash_in x s.capacity) headed_is ∙ own_stash;
        uid = n;
      }
