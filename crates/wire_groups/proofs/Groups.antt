-- Laws of a group's uid fields: which lie ahead of an offset of the walk, and what they say together with what was seen.
-- Assumes nothing.
use mathlib.Core.Path.{◌≡◌, refl, ap}
use mathlib.Core.Bool.{Bool, true, false, ◌&&◌, cond}
use mathlib.Core.List.{List, [], ◌∷◌, map}
use Prim.Native.Nat.{ℕ, ◌≤◌, ◌<◌}
use native.Mathlib.Omega.{arith}
use lib.Dec.{ltb, leb, eqb}
use borrow.Author.Tests.{le-leb, lt-ltb, eq-eqb}
use Rattle.words.specs.Bytes.{part}
use Rattle.wire_fields.specs.Field.{step_at}
use Rattle.wire_fields.specs.Walk.{Found, walk_of, fields_of, between, bodies_of}
use Rattle.wire_fields.specs.declared.Step.{Step}
use Rattle.wire_fields.specs.declared.Step.TheVariants.{Field}
use Rattle.wire_fields.proofs.Walks.{NoField, no_fields, walk_turn}
use Rattle.wire_fields.specs.Fields.{Told, told}
use Rattle.wire_groups.specs.Matching.{uid_kind, uids_within, starts_with, all_start_with, uid_of, disagrees}
use Rattle.wire_groups.specs.declared.Uid.{Uid}
use Rattle.wire_groups.specs.declared.Uid.TheVariants.{Absent, Agree, Disagree}

-- ---- the bodies of the uid fields of the walk from an offset on

unfoldable pub ahead : List ℕ → ℕ → ℕ → ℕ → ℕ → ℕ → List (List ℕ)
ahead p from to least tail at = bodies_of uid_kind p (between from to (fields_of (walk_of p at least tail)))

counted : (p : List ℕ) (t : Bool) (f : Found) (fs : List Found)
    → bodies_of uid_kind p (cond t (f ∷ fs) fs) ≡ cond (t && eqb f.kind uid_kind) (part p f.start f.len ∷ bodies_of uid_kind p fs) (bodies_of uid_kind p fs)
counted p true f fs = refl
counted p false f fs = refl

-- those among a walk's fields, as the walk's reader is told of them
pub uids_are : (p : List ℕ) (from to : ℕ) (fs : List Found) → uids_within from to (map (told p) fs) ≡ bodies_of uid_kind p (between from to fs)
uids_are p from to [] = refl
uids_are p from to (f ∷ fs) = rw (uids_are p from to fs, counted p (leb from f.at && ltb f.at to) f (between from to fs))

-- one that counts is the first of them
pub uids_first : (from to : ℕ) (f : Told) (fs : List Told) → from ≤ f.at → f.at < to → f.kind ≡ uid_kind
    → uids_within from to (f ∷ fs) ≡ f.body ∷ uids_within from to fs
uids_first from to f fs a b k = rw (le-leb from f.at a, lt-ltb f.at to b, eq-eqb f.kind uid_kind k)

module _ (p : List ℕ) (from to least tail at : ℕ) (h : 4 ≤ least) where
  pub ahead_field : (kind start len next : ℕ) → step_at p at least tail ≡ Field kind start len next
      → ahead p from to least tail at
      ≡ cond ((leb from at && ltb at to) && eqb kind uid_kind) (part p start len ∷ ahead p from to least tail next) (ahead p from to least tail next)
  unfolding ahead
  ahead_field kind start len next e =
      rw (walk_turn p at least tail h, e)
      (counted p (leb from at && ltb at to) (record { at = at; kind = kind; start = start; len = len })
      (between from to (fields_of (walk_of p next least tail))))

  pub ahead_stop : (s : Step) → step_at p at least tail ≡ s → NoField s → ahead p from to least tail at ≡ []
  unfolding ahead
  ahead_stop s e n =
      rw (walk_turn p at least tail h, e)
      (ap (λ fs. bodies_of uid_kind p (between from to fs)) (no_fields (λ next. walk_of p next least tail) at s n))

-- ---- what was seen, and what lies ahead

abbrev pub uid_after : Uid → List ℕ → List (List ℕ) → Uid
uid_after Absent u bs = uid_of u bs
uid_after Agree u bs = cond (all_start_with bs u) Agree Disagree
uid_after Disagree u bs = Disagree

module _ (u b : List ℕ) (bs : List (List ℕ)) where
  pub after_agrees : (seen : Uid) → disagrees seen ≡ false → starts_with b u ≡ true → uid_after seen u (b ∷ bs) ≡ uid_after Agree u bs
  after_agrees Absent n e = rw e
  after_agrees Agree n e = rw e
  after_agrees Disagree n e = let z : ◌≡◌ {A = ℕ} 0 1 = cc in absurd (omega arith)

  pub after_disagrees : (seen : Uid) → starts_with b u ≡ false → uid_after seen u (b ∷ bs) ≡ Disagree
  after_disagrees Absent e = rw e
  after_disagrees Agree e = rw e
  after_disagrees Disagree e = refl
