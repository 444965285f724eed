-- A stash that holds some cookies, named by their bytes: taking gives the first of them, byte for byte, and after storing it holds some of them and of those
-- stored, in order.
-- Assumes nothing.
use mathlib.Core.Path.{◌≡◌, refl, sym, ap, ◌∙◌}
use mathlib.Core.Bool.{true}
use mathlib.Core.List.{List, [], ◌∷◌, ◌++◌, map, map-append, append_assoc}
use Prim.Native.Nat.{ℕ, ◌≤◌, ◌<◌}
use native.Mathlib.Decide.{dec_le, dec_lt}
use native.Mathlib.Omega.{arith}
use borrow.Author.Tests.{lt-ltb, lt-leb}
use lib.ListN.{length, take, drop, length-set}
use lib.Seq.{take_at, take-length}
use Rattle.cookielist.specs.List.{Listed, whole, broken, cookies_in}
use Rattle.cookiestash.specs.declared.Slot.{Slot}
use Rattle.cookiestash.specs.declared.CookieStash.{CookieStash}
use Rattle.std.specs.Prelude.{Some}
use Rattle.cookiestash.specs.Stash.{stored, empty_slot, slot_at, new_of, in_range, store_of, rest_of, get_of, slot_or_empty}
use Rattle.cookiestash.specs.Queue.{Cookie, queue, cookie_of, seen, cookies, store_all}
use Rattle.cookiestash.specs.StoreList.{store_listed, store_list_of}
use Rattle.cookiestash.proofs.Range.{within, store_range, store_slots}
use Rattle.cookiestash.proofs.Queue.{rest_queue}
use Rattle.cookiestash.proofs.Stored.{stored_all}
use Rattle.cookiestash.proofs.Cookies.{store_room, store_full}
use Rattle.cookiestash.specs.Handed.{wrote}
use Rattle.laws.specs.Some.{SomeOf}
use Rattle.laws.specs.Cookies.{cookies_of}
use Rattle.laws.proofs.Along.{no_cons}
use Rattle.laws.proofs.Some.{some_all, some_before, some_front, some_rest, some_some}

-- the stash holds these cookies, oldest first
pub record Holds (cap : ℕ) (s : CookieStash) (inside : List (List ℕ)) : Type 0 where
  pub held : cookies cap s ≡ map cookie_of inside
  pub room : cap ≤ length s.slots

pub new_holds : (cap : ℕ) → cap ≤ 8 → Holds cap new_of []
unfolding cookies queue new_of
new_holds cap few = record { held = refl; room = few }

-- ---- take

-- the first of those that a stash holds, and the rest
pub record First (cap : ℕ) (s : CookieStash) (inside : List (List ℕ)) : Type 0 where
  pub cookie : List ℕ
  pub rest : List (List ℕ)
  pub parts : inside ≡ cookie ∷ rest
  pub slot : seen (slot_or_empty (get_of cap s)) ≡ cookie_of cookie
  pub holds : Holds cap (get_of cap s).stash rest

module _ (cap : ℕ) (s : CookieStash) (i : in_range cap s ≡ true) (room : cap ≤ length s.slots) (some : 0 < s.held) where
  took : get_of cap s ≡ record { cookie = Some (slot_at s.slots s.read); stash = rest_of cap s }
  unfolding get_of
  took = rw (i, lt-ltb 0 s.held some)

  oldest_first : cookies cap s ≡ seen (slot_or_empty (get_of cap s)) ∷ cookies cap (get_of cap s).stash
  unfolding cookies in_range
  oldest_first = let w = within cap s.read s.held i in rw took (ap (map seen) (rest_queue cap s w.1 room some w.2))

  slots_left : length (get_of cap s).stash.slots ≡ length s.slots
  unfolding rest_of
  slots_left = rw took (length-set s.slots s.read empty_slot)

  pub first : (inside : List (List ℕ)) → cookies cap s ≡ map cookie_of inside → First cap s inside
  first [] e = absurd (no_cons (seen (slot_or_empty (get_of cap s))) (cookies cap (get_of cap s).stash) (sym e ∙ oldest_first))
  first (c ∷ rest) e =
      let k : seen (slot_or_empty (get_of cap s)) ∷ cookies cap (get_of cap s).stash ≡ cookie_of c ∷ map cookie_of rest = sym oldest_first ∙ e in
      record { cookie = c; rest = rest; parts = refl; slot = cc; holds = record { held = cc; room = omega (arith, slots_left) } }

-- of a cookie of at most 724 bytes all are handed out
pub handed_bytes : (x : Slot) (c buffer : List ℕ) → seen x ≡ cookie_of c → x.len ≤ 724 → take x.len (wrote x.bytes x.len buffer) ≡ c
unfolding seen cookie_of
handed_bytes x c buffer e h =
    let l : x.len ≡ length c = ap (λ (k : Cookie). k.len) e in
    let b : take (stored x.len) x.bytes ≡ take (stored (length c)) c = ap (λ (k : Cookie). k.bytes) e in
    let t : take x.len x.bytes ≡ c
    = ap (λ (n : ℕ). take n x.bytes) (sym (stored_all x.len h)) ∙ b ∙ ap (λ (n : ℕ). take n c) (stored_all (length c) (omega arith)) ∙ take-length c in
    take_at (take x.len x.bytes) (drop x.len buffer) x.len (ap length t ∙ sym l) ∙ t

-- ---- store

-- the stash holds some of these, in order
pub record Holding (cap : ℕ) (s : CookieStash) (all : List (List ℕ)) : Type 0 where
  pub inside : List (List ℕ)
  pub holds : Holds cap s inside
  pub order : SomeOf inside all

map_rest : (xs : List (List ℕ)) → map cookie_of (drop 1 xs) ≡ drop 1 (map cookie_of xs)
map_rest [] = refl
map_rest (x ∷ xs) = refl

module _ (cap : ℕ) where
  module _ (s : CookieStash) (inside : List (List ℕ)) (i : in_range cap s ≡ true) (h : Holds cap s inside) where
    -- with room it is held behind the others; when full the oldest falls out; and one that is too long for two bytes to name is not stored
    store_one : (c : List ℕ) → Holding cap (store_of cap s c) (inside ++ (c ∷ []))
    unfolding in_range store_of
    store_one c =
        let room : cap ≤ length (store_of cap s c).slots = omega (arith, store_slots cap s c, h.room) in
        let back : (xs : List (List ℕ)) → map cookie_of xs ++ (cookie_of c ∷ []) ≡ map cookie_of (xs ++ (c ∷ [])) =
        λ xs. sym (map-append cookie_of xs (c ∷ [])) in
        elim (dec_le (length c) 65535) [
          | yes l ↦
              elim (dec_lt s.held cap) [
                | yes k ↦
                    record {
                      inside = inside ++ (c ∷ []);
                      holds = record {
                        held = store_room cap s i h.room c l k ∙ ap (λ (q : List Cookie). q ++ (cookie_of c ∷ [])) h.held
                            ∙ back inside;
                        room = room;
                      };
                      order = some_all (inside ++ (c ∷ []));
                    }
                | no k ↦
                    let full : s.held ≡ cap = omega (arith, within cap s.read s.held i) in
                    record {
                      inside = drop 1 inside ++ (c ∷ []);
                      holds =
                          record {
                            held =
                                store_full cap s i h.room c l full
                                ∙ ap (λ (q : List Cookie). drop 1 q ++ (cookie_of c ∷ [])) h.held
                                ∙ ap (λ (q : List Cookie). q ++ (cookie_of c ∷ [])) (sym (map_rest inside))
                                ∙ back (drop 1 inside);
                            room = room;
                          };
                      order = some_before (some_rest inside) (c ∷ []);
                    }
              ]
          | no l ↦
              let same : store_of cap s c ≡ s = rw (i, lt-leb (length c) 65535 (omega arith)) in
              record {
                inside = inside;
                holds = record { held = ap (cookies cap) same ∙ h.held; room = room };
                order = some_front inside (c ∷ []);
              }
        ]

  store_each : (cs : List (List ℕ)) (s : CookieStash) (inside : List (List ℕ)) → in_range cap s ≡ true → Holds cap s inside →
      Holding cap (store_all cap s cs) (inside ++ cs)
  unfolding in_range
  store_each [] s inside i h = record { inside = inside; holds = h; order = some_front inside [] }
  store_each (c ∷ cs) s inside i h =
      let one = store_one s inside i h c in
      let more = store_each cs (store_of cap s c) one.inside (store_range cap s c i) one.holds in
      record {
        inside = more.inside;
        holds = more.holds;
        order = some_some more.order
            (rw (append_assoc inside (c ∷ []) cs) at (some_before one.order cs));
      }

  -- a whole list's cookies in order; a broken one changes nothing
  pub store_some : (s : CookieStash) (inside : List (List ℕ)) → in_range cap s ≡ true → Holds cap s inside → (l : List ℕ) →
      Holding cap (store_list_of cap s l) (inside ++ cookies_of (cookies_in l))
  unfolding store_list_of
  store_some s inside i h l = by (cookies_in l)
    where
      by : (r : Listed) → Holding cap (store_listed cap s r) (inside ++ cookies_of r)
      by (whole cs) = store_each cs s inside i h
      by broken = record { inside = inside; holds = h; order = some_front inside [] }
