-- Laws of the collector's code: how the list goes on at a field, that it is no longer than the fields, and a list of which a part is written.
-- Assumes nothing.
use Rattle.std.proofs.Common.{◌≡◌, refl, ap, ◌∙◌, ℕ, ◌+◌, ◌≤◌, Bool, true, false, cond, eqb, List, [], ◌∷◌, ◌++◌, map, length, take, drop, arith}
use Rattle.std.proofs.Common.{length-append}
use lib.Dec.{lit≤}
use borrow.Author.Tests.{eq-eqb}
use Rattle.words.specs.Bytes.{part}
use Rattle.words.specs.Put.{Put, record_of}
use Rattle.words.proofs.Bytes.{length_part}
use Rattle.words.proofs.Put.{record_long, left_is, left_long, buffer_is}
use Rattle.cookielist.specs.List.{list_of}
use Rattle.wire_fields.specs.Walk.{Found, walk_of, fields_of, bodies_of}
use Rattle.wire_fields.specs.Fields.{Told, told}
use Rattle.wire_fields.proofs.Walks.{walk_induction}
use Rattle.wire_collector.specs.Collector.{cookie_kind, list_in}

-- ---- the list of the cookies among fields that are still to come

abbrev pub list_left : List Told → List ℕ
list_left [] = []
list_left (f ∷ fs) = cond (eqb f.kind cookie_kind) (record_of 0xC00E f.body ++ list_left fs) (list_left fs)

pub left_cookie : (f : Told) (fs : List Told) → f.kind ≡ cookie_kind → list_left (f ∷ fs) ≡ record_of 0xC00E f.body ++ list_left fs
left_cookie f fs k = rw (eq-eqb f.kind cookie_kind k)

listed : (t : Bool) (b : List ℕ) (bs : List (List ℕ)) → list_of (cond t (b ∷ bs) bs) ≡ cond t (record_of 0xC00E b ++ list_of bs) (list_of bs)
listed true b bs = refl
listed false b bs = refl

told_list : (p : List ℕ) (fs : List Found) → list_left (map (told p) fs) ≡ list_of (bodies_of cookie_kind p fs)
told_list p [] = refl
told_list p (f ∷ fs) = rw (told_list p fs, listed (eqb f.kind cookie_kind) (part p f.start f.len) (bodies_of cookie_kind p fs))

-- at the start it is the whole list
pub left_start : (p : List ℕ) (fs : List Told) → fs ≡ map (told p) (fields_of (walk_of p 0 4 0)) → list_left fs ≡ list_in p
unfolding list_in
left_start p fs e = ap list_left e ∙ told_list p (fields_of (walk_of p 0 4 0))

-- ---- the list is no longer than the fields

record_fits : (t : Bool) (b : List ℕ) (bs : List (List ℕ)) (n m : ℕ) → length b ≤ n → length (list_of bs) ≤ m
    → length (list_of (cond t (b ∷ bs) bs)) ≤ 4 + n + m
record_fits true b bs n m h k = omega (arith, length-append (record_of 0xC00E b) (list_of bs), record_long 0xC00E b)
record_fits false b bs n m h k = omega arith

pub list_short : (p : List ℕ) → length (list_in p) ≤ length p
unfolding list_in
list_short p = let h = within 0 (omega arith) in omega arith
  where
    within : (at : ℕ) → at ≤ length p → at + length (list_of (bodies_of cookie_kind p (fields_of (walk_of p at 4 0)))) ≤ length p
    within =
        walk_induction p 4 0 (lit≤ tt) (λ at w. at ≤ length p → at + length (list_of (bodies_of cookie_kind p (fields_of w))) ≤ length p)
        (λ at e h. omega arith)
        (λ at h. omega arith)
        (λ at kind start len next w behind h.
        let rest = bodies_of cookie_kind p (fields_of (walk_of p next 4 0)) in
        let long : length (part p start len) ≤ len = omega (arith, length_part p start len (omega arith)) in
        let b = behind w.within in
        omega (arith, record_fits (eqb kind cookie_kind) (part p start len) rest len (length (list_of rest)) long (omega arith)))

-- ---- the first `to` bytes of the list are in the buffer, the rest of the buffer is as it was, and the rest of the list is still to come

pub record Along (p out₀ out rest : List ℕ) (to : ℕ) : Type 0 where
  pub upto : to ≤ length (list_in p)
  pub left : drop to (list_in p) ≡ rest
  pub buffer : out ≡ take to (list_in p) ++ drop to out₀
  pub long : length out ≡ length out₀

-- a turn at a cookie
module _ (p out₀ out R S : List ℕ) (to : ℕ) (i : Along p out₀ out (R ++ S) to) where
  ahead_long : to + length R + length S ≡ length (list_in p)
  ahead_long = left_long (list_in p) R S to i.upto i.left

  -- there is room for the record
  pub fits : length (list_in p) ≤ length out₀ → to + length R ≤ length out
  fits room = omega (arith, i.long, room, ahead_long)

  -- and with it written the next turn begins
  pub advance : (out' : List ℕ) (to' : ℕ) → Put out to R to' out' → length out' ≡ length out → Along p out₀ out' S to'
  advance out' to' w el =
      let L = list_in p in
      record {
        upto = omega (arith, w.ends, ahead_long);
        left = rw w.ends (left_is L R S to i.upto i.left);
        buffer = w.leaves ∙ rw w.ends (buffer_is L R S to i.upto i.left out₀ out i.buffer);
        long = el ∙ i.long;
      }
