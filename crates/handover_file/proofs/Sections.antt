-- A file is cut where it was joined: for any row of records, whatever their tests.
-- Assumes nothing.
use Prim.Native.Nat.{ℕ, ◌+◌, ◌-◌, ◌≤◌, ◌<◌}
use mathlib.Core.Path.{◌≡◌, refl, sym, ap, ◌∙◌}
use mathlib.Core.Bool.{Bool, true, false, cond}
use mathlib.Core.List.{List, [], ◌∷◌, ◌++◌, append_assoc, append-nil}
use native.Mathlib.Omega.{arith}
use borrow.Author.Tests.{lt-ltb, le-ltb, eq-eqb, ne_eqb}
use lib.ListN.{length, drop}
use Rattle.words.specs.Bytes.{be, part}
use Rattle.words.specs.Put.{record_of}
use Rattle.words.proofs.Records.{ReadBack, read_back}
use Rattle.handover_file.specs.Sections.{
  Shape,
  joined,
  Fitting,
  body,
  body_length,
  found,
  Cut,
  bodies,
  misplaced,
  missized,
  before,
  on_found,
  cut_as,
}

-- ---- one record

module _ (m : ℕ) (b rest : List ℕ) (h : m < 65536) (k : length b ≤ 65535) where
  there : ReadBack (record_of m b ++ rest) m b rest 0
  there = read_back (record_of m b ++ rest) m b rest 0 h k refl

  pub length_read : body_length (record_of m b ++ rest) ≡ length b
  unfolding body_length
  length_read = there.len

  pub found_record : found m (record_of m b ++ rest) ≡ body b rest
  unfolding found
  found_record =
      simp (
        le-ltb (length (record_of m b ++ rest)) 2 (omega (arith, there.long)),
        eq-eqb (be (part (record_of m b ++ rest) 0 2)) m there.mark,
        le-ltb (length (record_of m b ++ rest)) 4 (omega (arith, there.long)),
        length_read,
        le-ltb (length (record_of m b ++ rest) - 4) (length b) (omega (arith, there.long)),
        there.body,
        there.behind,
      )

-- ---- all of them

-- bodies before those of the rest
abbrev pub behind : List (List ℕ) → Cut → Cut
behind [] c = c
behind (b ∷ bs) c = before b (behind bs c)

behind_none : (bs : List (List ℕ)) → behind bs (bodies []) ≡ bodies bs
behind_none [] = refl
behind_none (b ∷ bs) = ap (before b) (behind_none bs)

-- the first of 61 and 62 in the file decides: records that are as they should be leave the answer to what follows them
pub cut_prefix : (ss ts : List Shape) (bs : List (List ℕ)) (l : List ℕ) → Fitting ss bs → cut_as (ss ++ ts) (joined ss bs ++ l) ≡ behind bs (cut_as ts l)
cut_prefix [] ts [] l f = refl
cut_prefix [] ts (b ∷ bs) l f = absurd f
cut_prefix (s ∷ ss) ts [] l f = absurd f
cut_prefix (s ∷ ss) ts (b ∷ bs) l f =
    ap (λ (r : List ℕ). cut_as (s ∷ (ss ++ ts)) r) (append_assoc (record_of s.mark b) (joined ss bs) l)
    ∙ ap (on_found s.fits (λ (r : List ℕ). cut_as (ss ++ ts) r)) (found_record s.mark b (joined ss bs ++ l) f.0 f.1)
    ∙ ap (λ (t : Bool). cond t (before b (cut_as (ss ++ ts) (joined ss bs ++ l))) missized) f.2
    ∙ ap (before b) (cut_prefix ss ts bs l f.3)

pub cut_joined : (ss : List Shape) (bs : List (List ℕ)) → Fitting ss bs → cut_as ss (joined ss bs) ≡ bodies bs
cut_joined ss bs f =
    ap (λ (r : List ℕ). cut_as ss r) (sym (append-nil (joined ss bs)))
    ∙ ap (λ (q : List Shape). cut_as q (joined ss bs ++ [])) (sym (append-nil ss))
    ∙ cut_prefix ss [] bs [] f
    ∙ behind_none bs

-- ---- what stops the reader at a record

module _ (s : Shape) (ss : List Shape) (l : List ℕ) where
  pub cut_none : length l < 2 → cut_as (s ∷ ss) l ≡ missized
  unfolding found
  cut_none h = rw (lt-ltb (length l) 2 h)

  pub cut_mark : 2 ≤ length l → (be (part l 0 2) ≡ s.mark → ⊥) → cut_as (s ∷ ss) l ≡ misplaced
  unfolding found
  cut_mark h d = rw (le-ltb (length l) 2 h, ne_eqb (be (part l 0 2)) s.mark d)

  module _ (e : be (part l 0 2) ≡ s.mark) where
    pub cut_length : 2 ≤ length l → length l < 4 → cut_as (s ∷ ss) l ≡ missized
    unfolding found
    cut_length h k = rw (le-ltb (length l) 2 h, eq-eqb (be (part l 0 2)) s.mark e, lt-ltb (length l) 4 k)

    module _ (h : 4 ≤ length l) where
      pub cut_body : length l - 4 < body_length l → cut_as (s ∷ ss) l ≡ missized
      unfolding found
      cut_body k =
          rw (le-ltb (length l) 2 (omega arith), eq-eqb (be (part l 0 2)) s.mark e, le-ltb (length l) 4 h, lt-ltb (length l - 4) (body_length l) k)

      pub cut_unfit : body_length l ≤ length l - 4 → s.fits (part l 4 (body_length l)) ≡ false → cut_as (s ∷ ss) l ≡ missized
      unfolding found
      cut_unfit k u =
          rw (le-ltb (length l) 2 (omega arith), eq-eqb (be (part l 0 2)) s.mark e, le-ltb (length l) 4 h, le-ltb (length l - 4) (body_length l) k, u)

      pub cut_there : body_length l ≤ length l - 4 → s.fits (part l 4 (body_length l)) ≡ true →
          cut_as (s ∷ ss) l ≡ before (part l 4 (body_length l)) (cut_as ss (drop (4 + body_length l) l))
      unfolding found
      cut_there k u =
          rw (le-ltb (length l) 2 (omega arith), eq-eqb (be (part l 0 2)) s.mark e, le-ltb (length l) 4 h, le-ltb (length l - 4) (body_length l) k, u)

-- bytes left over
pub cut_over : (l : List ℕ) → 0 < length l → cut_as [] l ≡ missized
cut_over l h = rw (ne_eqb (length l) 0 (λ e. omega arith))

pub cut_end : (l : List ℕ) → length l ≡ 0 → cut_as [] l ≡ bodies []
cut_end l h = rw (eq-eqb (length l) 0 h)

-- what comes before does not change it
pub behind_misplaced : (bs : List (List ℕ)) → behind bs misplaced ≡ misplaced
behind_misplaced [] = refl
behind_misplaced (b ∷ bs) = ap (before b) (behind_misplaced bs)

pub behind_missized : (bs : List (List ℕ)) → behind bs missized ≡ missized
behind_missized [] = refl
behind_missized (b ∷ bs) = ap (before b) (behind_missized bs)
