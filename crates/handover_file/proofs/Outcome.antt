-- What a file of bytes is cut into, for any row of records: all of them and nothing else, or the first fault, with all before it as it should be.
-- Assumes nothing.
use Prim.Native.Nat.{ℕ, ◌+◌, ◌-◌, ◌≤◌, ◌<◌}
use mathlib.Core.Path.{◌≡◌, refl, sym, ap, ◌∙◌}
use mathlib.Core.Bool.{Bool, true, false, cond}
use mathlib.Core.List.{List, [], ◌∷◌, ◌++◌, append_assoc}
use native.Mathlib.Omega.{arith}
use borrow.Author.Tests.{ltb-true, ltb-false, eqb-true, eqb-false}
use lib.Dec.{ltb, eqb}
use lib.ListN.{length, drop}
use Rattle.std.proofs.lemmas.List.{nil_from_length}
use Rattle.words.specs.Bytes.{be, part}
use Rattle.words.specs.Put.{record_of}
use Rattle.words.proofs.Bytes.{Bytes, bytes_drop}
use Rattle.words.proofs.Records.{body_short, write_back}
use Rattle.handover_file.specs.Sections.{
  Shape,
  joined,
  Fitting,
  Found,
  body,
  other,
  short,
  body_length,
  found,
  Cut,
  bodies,
  misplaced,
  missized,
  before,
  on_found,
  cut_as,
}
use Rattle.handover_file.specs.Numbers.{Faulty, no_mark, no_length, no_body, unfit, Begins}

-- ---- one record

-- what stands first
data View (s : Shape) (l : List ℕ) : Found → Type 0 where
  there : 4 ≤ length l → be (part l 0 2) ≡ s.mark → body_length l ≤ length l - 4 → View s l (body (part l 4 (body_length l)) (drop (4 + body_length l) l))
  else : 2 ≤ length l → (be (part l 0 2) ≡ s.mark → ⊥) → View s l other
  less : Faulty s l → View s l short

view : (s : Shape) (l : List ℕ) → View s l (found s.mark l)
unfolding found
view s l = go (ltb (length l) 2) (eqb (be (part l 0 2)) s.mark) (ltb (length l) 4) (ltb (length l - 4) (body_length l)) refl refl refl refl
  where
    go : (t u v w : Bool) → ltb (length l) 2 ≡ t → eqb (be (part l 0 2)) s.mark ≡ u → ltb (length l) 4 ≡ v → ltb (length l - 4) (body_length l) ≡ w
        → View s l (cond t short (cond u (cond v short (cond w short (body (part l 4 (body_length l)) (drop (4 + body_length l) l)))) other))
    go true u v w a b c d = less (no_mark (ltb-true (length l) 2 a))
    go false false v w a b c d = else (ltb-false (length l) 2 a) (eqb-false (be (part l 0 2)) s.mark b)
    go false true true w a b c d = less (no_length (ltb-false (length l) 2 a) (eqb-true _ _ b) (ltb-true (length l) 4 c))
    go false true false true a b c d = less (no_body (ltb-false (length l) 4 c) (eqb-true _ _ b) (ltb-true (length l - 4) (body_length l) d))
    go false true false false a b c d = there (ltb-false (length l) 4 c) (eqb-true _ _ b) (ltb-false (length l - 4) (body_length l) d)

-- a body that is there, and what follows it, are the bytes that they are written in
module _ (s : Shape) (l : List ℕ) (y : Bytes l) (h : 4 ≤ length l) (m : be (part l 0 2) ≡ s.mark) (k : body_length l ≤ length l - 4) where
  in_two_bytes : length (part l 4 (body_length l)) ≤ 65535
  unfolding body_length
  in_two_bytes = body_short l y 0 s.mark (body_length l) m refl (omega arith)

  written : record_of s.mark (part l 4 (body_length l)) ++ drop (4 + body_length l) l ≡ l
  unfolding body_length
  written = write_back l y 0 s.mark (body_length l) m refl (omega arith)

-- ---- all of them

-- each mark is one of two bytes
abbrev pub Marked : List Shape → Type 0
Marked [] = Unit
Marked (s ∷ ss) = (s.mark < 65536) × Marked ss

pub data Outcome (ss : List Shape) (f : List ℕ) : Cut → Type 0 where
  all : (bs : List (List ℕ)) → Fitting ss bs → f ≡ joined ss bs → Outcome ss f (bodies bs)
  over : (bs : List (List ℕ)) (l : List ℕ) → Begins f ss bs l → 0 < length l → Outcome ss f missized
  mark : (ps ts : List Shape) (s : Shape) (bs : List (List ℕ)) (l : List ℕ) → ss ≡ ps ++ (s ∷ ts) → Begins f ps bs l → 2 ≤ length l →
      (be (part l 0 2) ≡ s.mark → ⊥) → Outcome ss f misplaced
  fault : (ps ts : List Shape) (s : Shape) (bs : List (List ℕ)) (l : List ℕ) → ss ≡ ps ++ (s ∷ ts) → Begins f ps bs l → Faulty s l → Outcome ss f missized

module _ (s : Shape) (ss : List Shape) (m : s.mark < 65536) (b r f : List ℕ) (n : length b ≤ 65535) (t : s.fits b ≡ true)
    (w : record_of s.mark b ++ r ≡ f) where
  longer : (ps : List Shape) (bs : List (List ℕ)) (l : List ℕ) → Begins r ps bs l → Begins f (s ∷ ps) (b ∷ bs) l
  longer ps bs l g =
      record {
        fitting = (m, n, t, g.fitting);
        file = sym w ∙ ap (λ (q : List ℕ). record_of s.mark b ++ q) g.file ∙ sym (append_assoc (record_of s.mark b) (joined ps bs) l);
      }

  behind : (c : Cut) → Outcome ss r c → Outcome (s ∷ ss) f (before b c)
  behind _ (all bs g e) = all (b ∷ bs) (m, n, t, g) (sym w ∙ ap (λ (q : List ℕ). record_of s.mark b ++ q) e)
  behind _ (over bs l g h) = over (b ∷ bs) l (longer ss bs l g) h
  behind _ (mark ps ts u bs l e g h d) = mark (s ∷ ps) ts u (b ∷ bs) l (ap (λ (q : List Shape). s ∷ q) e) (longer ps bs l g) h d
  behind _ (fault ps ts u bs l e g x) = fault (s ∷ ps) ts u (b ∷ bs) l (ap (λ (q : List Shape). s ∷ q) e) (longer ps bs l g) x

starts : (f : List ℕ) → Begins f [] [] f
starts f = record { fitting = tt; file = refl }

positive : (n : ℕ) → (n ≡ 0 → ⊥) → 0 < n
positive n h = omega arith

pub outcome : (ss : List Shape) → Marked ss → (f : List ℕ) → Bytes f → Outcome ss f (cut_as ss f)
outcome [] k f y = go (eqb (length f) 0) refl
  where
    go : (t : Bool) → eqb (length f) 0 ≡ t → Outcome [] f (cond t (bodies []) missized)
    go true e = all [] tt (nil_from_length f (eqb-true (length f) 0 e))
    go false e = over [] f (starts f) (positive (length f) (eqb-false (length f) 0 e))
outcome (s ∷ ss) k f y = go (found s.mark f) (view s f) (outcome ss k.1 (drop (4 + body_length f) f) (bytes_drop (4 + body_length f) f y))
  where
    fitted : (h : 4 ≤ length f) (m : be (part f 0 2) ≡ s.mark) (n : body_length f ≤ length f - 4) →
        Outcome ss (drop (4 + body_length f) f) (cut_as ss (drop (4 + body_length f) f))
        → (t : Bool) → s.fits (part f 4 (body_length f)) ≡ t
        → Outcome (s ∷ ss) f (cond t (before (part f 4 (body_length f)) (cut_as ss (drop (4 + body_length f) f))) missized)
    fitted h m n o true e =
        behind s ss k.0 (part f 4 (body_length f)) (drop (4 + body_length f) f) f (in_two_bytes s f y h m n) e (written s f y h m n)
        (cut_as ss (drop (4 + body_length f) f)) o
    fitted h m n o false e = fault [] ss s [] f refl (starts f) (unfit h m n e)

    go : (x : Found) → View s f x → Outcome ss (drop (4 + body_length f) f) (cut_as ss (drop (4 + body_length f) f)) →
        Outcome (s ∷ ss) f (on_found s.fits (λ (r : List ℕ). cut_as ss r) x)
    go _ (there h m n) o = fitted h m n o (s.fits (part f 4 (body_length f))) refl
    go _ (else h d) o = mark [] ss s [] f refl (starts f) h d
    go _ (less x) o = fault [] ss s [] f refl (starts f) x
