-- The fields of a walk that ends lie one behind the other from its start to its end, each legal and within the bytes, and behind the end at most a tail is
-- left;
-- any number parts a packet's fields into two groups; and `is_place` says exactly the places of a packet's walk.
-- Assumes nothing.
use mathlib.Core.Path.{◌≡◌, refl, sym, subst, ap, ◌∙◌}
use mathlib.Core.Bool.{Bool, true, false, ◌||◌, or-true}
use mathlib.Core.List.{List, [], ◌∷◌, ◌++◌}
use mathlib.Core.Logic.{◌↔◌, ◌⊎◌, inl, inr, ⊎_elim}
use Prim.Native.Nat.{ℕ, ◌≤◌, ◌<◌}
use native.Mathlib.Omega.{arith}
use lib.Dec.{leb, eqb, lit≤}
use lib.ListN.{length}
use borrow.Author.Tests.{eq-eqb, eqb-true, lt-ltb, le-ltb, le-leb, leb-true, leb-false}
use Rattle.words.proofs.Tests.{both}
use Rattle.wire_fields.specs.Walk.{Found, Walk, field, ends, broken, fields_of, between}
use Rattle.wire_fields.specs.Walk.{walk_of, packet_walk, decrypted_walk, walked_of, whole, place_in, is_place}
use Rattle.wire_fields.specs.Sound.{One, InLine, Sound, Place}
use Rattle.std.specs.Prelude.{Some, None}
use Rattle.std.proofs.lemmas.Option.{none-some}
use Rattle.wire_fields.proofs.Walks.{tail_left, walk_induction}

-- ---- a walk that ends

pub ends_same : (a b : ℕ) → Some a ≡ Some b → a ≡ b
ends_same a b e = cc

module _ (p : List ℕ) (least tail : ℕ) (h : 4 ≤ least) where
  pub walk_sound : (at end : ℕ) → walked_of (walk_of p at least tail) ≡ Some end → Sound p at least tail end (fields_of (walk_of p at least tail))
  walk_sound =
      walk_induction p least tail h (λ at w. (end : ℕ) → walked_of w ≡ Some end → Sound p at least tail end (fields_of w))
      (λ at e end q.
      let s : at ≡ end = ends_same at end q in
      let t = tail_left p at least tail e in
      record { line = s; legal = tt; total = omega arith; within = omega arith; left = omega arith })
      (λ at end q. absurd (none-some end q))
      (λ at kind start len next w behind end q.
      let s = behind end q in
      record {
        line = (refl, w.starts, subst (λ (n : ℕ). InLine n (fields_of (walk_of p next least tail)) end) w.ends s.line);
        legal = (record { within = omega arith; multiple = w.multiple; enough = w.enough }, s.legal);
        total = omega (arith, s.total);
        within = s.within;
        left = s.left;
      })

  -- every field starts before the end of the bytes
  pub within_all : (at : ℕ) → between 0 (length p) (fields_of (walk_of p at least tail)) ≡ fields_of (walk_of p at least tail)
  within_all =
      walk_induction p least tail h (λ at w. between 0 (length p) (fields_of w) ≡ fields_of w)
      (λ at e. refl)
      (λ at. refl)
      (λ at kind start len next w behind.
      rw (le-leb 0 at (omega arith), lt-ltb at (length p) (omega arith), behind))

  -- a walk that is not broken has its start for a place
  pub first_place : (at : ℕ) → whole (walk_of p at least tail) ≡ true → place_in at (walk_of p at least tail) ≡ true
  first_place =
      walk_induction p least tail h (λ at w. whole w ≡ true → place_in at w ≡ true)
      (λ at e q. eq-eqb at at refl)
      (λ at q. q)
      (λ at kind start len next w behind q. rw (eq-eqb at at refl))

-- promise: 7.5 (the fields follow one another from 48 to the end, each within the packet, and their lengths add up)
pub packet_sound : (p : List ℕ) (end : ℕ) → walked_of (packet_walk p) ≡ Some end → Sound p 48 16 24 end (fields_of (packet_walk p))
packet_sound p end e = walk_sound p 16 24 (lit≤ tt) 48 end e

-- decrypted fields fill their bytes
-- promise: 7.3
pub decrypted_sound : (p : List ℕ) (end : ℕ) → walked_of (decrypted_walk p) ≡ Some end → Sound p 0 4 0 (length p) (fields_of (decrypted_walk p))
decrypted_sound p end e =
    let s = walk_sound p 4 0 (lit≤ tt) 0 end e in
    let q : end ≡ length p = omega (arith, s.within, s.left) in
    rw q at s

-- ---- the groups of a packet's fields

-- the fields that start before m, and those that start at m or later
module _ (p : List ℕ) (first m : ℕ) where
  record Split (at : ℕ) (fs : List Found) : Type 0 where
    all : between first m fs ++ between m (length p) fs ≡ fs
    none : m ≤ at → between first m fs ≡ []

  split_field : (t : Bool) (f : Found) (fs : List Found) (next : ℕ) → first ≤ f.at → f.at < next → f.at < length p → leb m f.at ≡ t → Split next fs →
      Split f.at (f ∷ fs)
  split_field true f fs next a b d e s =
      let h : m ≤ f.at = leb-true m f.at e in
      let n : between first m fs ≡ [] = s.none (omega arith) in
      let g : between first m (f ∷ fs) ≡ [] = rw (le-ltb f.at m h, le-leb first f.at a) n in
      record { all = rw (g, e, lt-ltb f.at (length p) d) (ap (λ r. f ∷ r) (sym (ap (λ r. r ++ between m (length p) fs) n) ∙ s.all)); none = λ _. g }
  split_field false f fs next a b d e s =
      let h : f.at < m = leb-false m f.at e in
      record { all = rw (le-leb first f.at a, lt-ltb f.at m h, e) (ap (λ r. f ∷ r) s.all); none = λ k. absurd (omega arith) }

-- each field of a packet belongs to the group before m or to that from m on, in order: none is lost, and none is in both
-- promise: 7.8 (none is lost, none counted twice)
pub groups_split : (p : List ℕ) (m : ℕ)
    → between 48 m (fields_of (packet_walk p)) ++ between m (length p) (fields_of (packet_walk p)) ≡ fields_of (packet_walk p)
groups_split p m =
    (walk_induction p 16 24 (lit≤ tt) (λ at w. 48 ≤ at → Split p 48 m at (fields_of w))
    (λ at e h. record { all = refl; none = λ _. refl })
    (λ at h. record { all = refl; none = λ _. refl })
    (λ at kind start len next w behind h.
    split_field p 48 m (leb m at) (record { at = at; kind = kind; start = start; len = len }) (fields_of (walk_of p next 16 24)) next h (omega arith)
    (omega arith) refl
    (behind (omega arith)))
    48 (lit≤ tt)).all

-- ---- places

pub whole_of_lem : (w : Walk) (end : ℕ) → walked_of w ≡ Some end → whole w ≡ true
whole_of_lem (field f w) end e = whole_of_lem w end e
whole_of_lem (ends at) end e = refl
whole_of_lem broken end e = absurd (none-some end e)

pub not_whole : (w : Walk) → walked_of w ≡ None → whole w ≡ false
not_whole (field f w) e = not_whole w e
not_whole (ends at) e = let z : ◌≡◌ {A = ℕ} 0 1 = cc in absurd (omega arith)
not_whole broken e = refl

end_of : (w : Walk) → whole w ≡ true → (end : ℕ) × (walked_of w ≡ Some end)
end_of (field f w) e = end_of w e
end_of (ends at) e = (at, refl)
end_of broken e = let z : ◌≡◌ {A = ℕ} 0 1 = cc in absurd (omega arith)

either : (a b : Bool) → (a || b) ≡ true → (a ≡ true) ⊎ (b ≡ true)
either true b e = inl refl
either false b e = inr e

abbrev Listed : ℕ → Walk → Type 0
Listed n w = One (λ f. f.at ≡ n) (fields_of w) ⊎ (walked_of w ≡ Some n)

listed : (n : ℕ) (w : Walk) → place_in n w ≡ true → Listed n w
listed n (field f w) e =
    ⊎_elim (λ a. inl (inl (eqb-true f.at n a))) (λ b. ⊎_elim (λ o. inl (inr o)) (λ q. inr q) (listed n w b)) (either (eqb f.at n) (place_in n w) e)
listed n (ends at) e = inr (ap Some (eqb-true at n e))
listed n broken e = let z : ◌≡◌ {A = ℕ} 0 1 = cc in absurd (omega arith)

one_listed : (n : ℕ) (w : Walk) → One (λ f. f.at ≡ n) (fields_of w) → place_in n w ≡ true
one_listed n (field f w) (inl a) = rw (eq-eqb f.at n a)
one_listed n (field f w) (inr o) = rw (one_listed n w o) (or-true (eqb f.at n))
one_listed n (ends at) o = absurd o
one_listed n broken o = absurd o

end_listed : (n : ℕ) (w : Walk) → walked_of w ≡ Some n → place_in n w ≡ true
end_listed n (field f w) e = rw (end_listed n w e) (or-true (eqb f.at n))
end_listed n (ends at) e = eq-eqb at n (ends_same at n e)
end_listed n broken e = absurd (none-some n e)

-- promise: 7.6
pub place_iff : (p : List ℕ) (n : ℕ) → (is_place p n ≡ true) ↔ Place p n
unfolding is_place
place_iff p n = (there, back)
  where
    there : is_place p n ≡ true → Place p n
    there e =
        let b = both (whole (packet_walk p)) (place_in n (packet_walk p)) e in
        let l = end_of (packet_walk p) b.0 in
        record {
          end = l.0;
          walked = l.1;
          place = inr (⊎_elim (λ o. inl o) (λ q. inr (ends_same n l.0 (sym q ∙ l.1))) (listed n (packet_walk p) b.1));
        }

    back : Place p n → is_place p n ≡ true
    back q =
        let w = whole_of_lem (packet_walk p) q.end q.walked in
        let i : place_in n (packet_walk p) ≡ true =
        ⊎_elim (λ a. rw a (first_place p 16 24 (lit≤ tt) 48 w))
        (λ o. ⊎_elim (λ s. one_listed n (packet_walk p) s) (λ a. rw a (end_listed q.end (packet_walk p) q.walked)) o)
        q.place in
        rw (w, i)
