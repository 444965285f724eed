-- What the tests of the comparison come to, in their order.
-- Assumes nothing.
use Prim.Native.Nat.{ℕ, ◌*◌, ◌≤◌, ◌<◌}
use mathlib.Core.Path.{◌≡◌, refl, sym, ap, ◌∙◌}
use mathlib.Core.Bool.{true}
use mathlib.Core.List.{List}
use native.Mathlib.Omega.{arith}
use borrow.Author.Tests.{lt-ltb, le-ltb}
use lib.ListN.{length}
use Rattle.words.proofs.Bytes.{Bytes}
use Rattle.association.specs.declared.Settings.{Settings}
use Rattle.association.specs.declared.State.{State}
use Rattle.association.specs.declared.Association.{Association}
use Rattle.std.specs.Prelude.{Result, Ok, Err}
use Rattle.handover_file.specs.declared.LoadRefusal.{LoadRefusal}
use Rattle.handover_file.specs.Cookies.{stash_fits, stash_known}
use Rattle.handover_file.specs.Answers.{over, load_of}
use Rattle.handover_load.specs.Reading.{Contents, read_of}
use Rattle.handover_load.proofs.Within.{answer_is}
use Rattle.words.specs.Put.{Put}
use Rattle.words.proofs.Put.{laid_over}
use Rattle.handover_compare.specs.declared.fields.Field.{Field}
use Rattle.handover_compare.specs.declared.fields.Groups.{Groups}
use Rattle.handover_compare.specs.Fields.{differing, list_of, list_bytes}
use Rattle.handover_compare.specs.Steps.{groups_in, all_of}
use Rattle.handover_compare.proofs.Grouped.{Of, all_fields}
use Rattle.handover_compare.proofs.Listed.{list_long}
use Rattle.handover_compare.specs.declared.Side.{Side}
use Rattle.handover_compare.specs.declared.Side.TheVariants.{Left, Right}
use Rattle.handover_compare.specs.declared.CompareRefusal.{CompareRefusal}
use Rattle.handover_compare.specs.declared.CompareRefusal.TheVariants.{ShortBuffer}
use Rattle.handover_compare.specs.Made.{made_of}
use Rattle.handover_compare.specs.Answers.{refused_of, sided, told_in, written_in, on_load, if_loaded, right_of, right_out, compare_of, out_of}

-- ---- two records

-- an association whose stash is read of a body
pub of_body : (s : Settings) (q : State) (b : List ℕ) → Bytes b → stash_fits b ≡ true → stash_known s.capacity b ≡ true → Of (made_of s q b) s q b
of_body s q b y f k = record { bytes = y; fits = f; known = k; is = refl }

module _ {a b : Association} {l r : Settings} {p q : State} {left right : List ℕ} (m : Of a l p left) (n : Of b r q right) (out : List ℕ) (g : Groups)
    (e : g ≡ groups_in l p left r q right) where
  list_is : differing (all_of g) ≡ list_of a b
  unfolding list_of
  list_is = ap (λ (x : Groups). differing (all_of x)) e ∙ ap differing (all_fields m n)

  module _ (k : ℕ) (c : k ≡ length (differing (all_of g))) where
    count_is : k ≡ length (list_of a b)
    count_is = c ∙ ap length list_is

    long : length (list_bytes (list_of a b)) ≡ 19 * k
    long = list_long (list_of a b) ∙ ap (λ (j : ℕ). 19 * j) (sym count_is)

    pub room_for : 19 * k ≤ length out → length (list_bytes (differing (all_of g))) ≤ length out
    room_for h = omega (arith, list_long (differing (all_of g)), c)

    pub short_by : length out < 19 * k → (Err ShortBuffer ≡ told_in a b (length out)) × (out ≡ written_in a b out)
    unfolding told_in written_in
    short_by h =
        let t = lt-ltb (length out) (length (list_bytes (list_of a b))) (omega (arith, long)) in
        (rw t, rw t)

    pub listed_by : 19 * k ≤ length out → (to : ℕ) (after : List ℕ) → Put out 0 (list_bytes (differing (all_of g))) to after →
        (Ok k ≡ told_in a b (length out)) × (after ≡ written_in a b out)
    unfolding told_in written_in
    listed_by h to after put =
        let t = le-ltb (length out) (length (list_bytes (list_of a b))) (omega (arith, long)) in
        let w : after ≡ over (list_bytes (list_of a b)) out = put.leaves ∙ laid_over out (list_bytes (differing (all_of g)))
        ∙ ap (λ (l : List Field). over (list_bytes l) out) list_is in
        (rw t (λ i. Ok (count_is i)), rw t w)

-- ---- two files

module _ (s : Side) (f : List ℕ) where
  -- a file that is read on a side
  pub ok_read : (r : Contents) → Ok r ≡ sided s (read_of f) → Ok r ≡ read_of f
  ok_read r e = go (read_of f) e
    where
      go : (x : Result Contents LoadRefusal) → Ok r ≡ sided s x → Ok r ≡ x
      go (Ok q) e = let p : r ≡ q = cc in ap Ok p
      go (Err d) e = let z : ◌≡◌ {A = ℕ} 0 1 = cc in absurd (omega arith)

  -- it leaves the answer to what comes after it
  pub passes : (r : Contents) → Ok r ≡ read_of f → (x : Result ℕ CompareRefusal) (w out : List ℕ) →
      (x ≡ on_load s (load_of f).answer x) × (w ≡ if_loaded (load_of f).answer w out)
  passes r e x w out = let a = answer_is f (Ok r) e in (λ i. on_load s (a i) x, λ i. if_loaded (a i) w out)

  -- and one that is rejected decides
  pub stops : (e : CompareRefusal) → Err e ≡ sided s (read_of f) → (x : Result ℕ CompareRefusal) (w out : List ℕ) →
      (Err e ≡ on_load s (load_of f).answer x) × (out ≡ if_loaded (load_of f).answer w out)
  stops e h x w out = go (read_of f) refl h
    where
      go : (y : Result Contents LoadRefusal) → y ≡ read_of f → Err e ≡ sided s y →
          (Err e ≡ on_load s (load_of f).answer x) × (out ≡ if_loaded (load_of f).answer w out)
      go (Ok r) p h = let z : ◌≡◌ {A = ℕ} 0 1 = cc in absurd (omega arith)
      go (Err d) p h =
          let a = answer_is f (Err d) p in
          let q : e ≡ refused_of s d = cc in
          (ap Err q ∙ (λ i. on_load s (a i) x), λ i. if_loaded (a i) w out)

module _ (f g out : List ℕ) where
  abbrev left : Association
  left = (load_of f).association

  abbrev right : Association
  right = (load_of g).association

  abbrev Says : Result ℕ CompareRefusal → List ℕ → Type 0
  Says x w = (x ≡ compare_of f g (length out)) × (w ≡ out_of f g out)

  pub left_stops : (e : CompareRefusal) → Err e ≡ sided Left (read_of f) → Says (Err e) out
  unfolding compare_of out_of
  left_stops e h = stops Left f e h (right_of left g (length out)) (right_out left g out) out

  module _ (r : Contents) (h : Ok r ≡ read_of f) where
    pub right_stops : (e : CompareRefusal) → Err e ≡ sided Right (read_of g) → Says (Err e) out
    unfolding compare_of out_of right_of right_out
    right_stops e k =
        let p = passes Left f r h (on_load Right (load_of g).answer (told_in left right (length out)))
        (if_loaded (load_of g).answer (written_in left right out) out) out in
        let q = stops Right g e k (told_in left right (length out)) (written_in left right out) out in
        (q.0 ∙ p.0, q.1 ∙ p.1)

    -- both are loaded: what is told of the two associations
    pub both_load : (q : Contents) → Ok q ≡ read_of g → (a b : Association) → left ≡ a → right ≡ b → (x : Result ℕ CompareRefusal) (w : List ℕ) →
        (x ≡ told_in a b (length out)) × (w ≡ written_in a b out) → Says x w
    unfolding compare_of out_of right_of right_out
    both_load q k a b ea eb x w t =
        let p = passes Left f r h (on_load Right (load_of g).answer (told_in left right (length out)))
        (if_loaded (load_of g).answer (written_in left right out) out) out in
        let u = passes Right g q k (told_in left right (length out)) (written_in left right out) out in
        (t.0 ∙ (λ i. told_in (sym ea i) (sym eb i) (length out)) ∙ u.0 ∙ p.0, t.1 ∙ (λ i. written_in (sym ea i) (sym eb i) out) ∙ u.1 ∙ p.1)
