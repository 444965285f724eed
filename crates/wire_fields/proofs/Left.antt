-- What a walk that is still to come gives: at a field that one and those behind it, and otherwise nothing; where it ends; and its places.
-- Assumes nothing.
use Rattle.std.proofs.Common.{◌≡◌, refl, ap, ℕ, ◌≤◌, Bool, true, false, ◌||◌, eqb, List, [], ◌∷◌, map, length, Some, None, arith}
use mathlib.Core.Bool.{or-false}
use Rattle.std.specs.List.{list_any}
use Rattle.std.proofs.lemmas.Iterator.{YieldsList}
use Rattle.std.proofs.lemmas.Iterator.Consumers.{YieldsList-from_shown}
use Rattle.words.specs.Bytes.{part}
use Rattle.wire_fields.specs.Field.{step_at}
use Rattle.wire_fields.specs.Walk.{Walk, field, ends, broken, walk_of, walked_of, whole, place_in}
use Rattle.std.specs.Prelude.{is_some}
use Rattle.wire_fields.specs.Fields.{told, shown, fields_in, fields_left, GivesField}
use Rattle.wire_fields.specs.declared.Fields.{Fields}
use Rattle.wire_fields.specs.declared.Step.{Step}
use Rattle.wire_fields.specs.declared.Step.TheVariants.{Field, End, Broken}
use Rattle.wire_fields.proofs.Walks.{NoField, no_fields, walk_turn}
use Rattle.std.proofs.lemmas.Option.{none-some}
use Rattle.wire_fields.proofs.Sound.{ends_same}

module _ (p : List ℕ) (at least tail : ℕ) (h : 4 ≤ least) where
  module _ (kind start len next : ℕ) (e : step_at p at least tail ≡ Field kind start len next) where
    pub left_field : fields_in p (walk_of p at least tail)
        ≡ record { at = at; kind = kind; body = part p start len } ∷ fields_in p (walk_of p next least tail)
    left_field = rw (walk_turn p at least tail h, e)

    pub end_field : walked_of (walk_of p at least tail) ≡ walked_of (walk_of p next least tail)
    end_field = rw (walk_turn p at least tail h, e)

  pub left_stop : (s : Step) → step_at p at least tail ≡ s → NoField s → fields_in p (walk_of p at least tail) ≡ []
  left_stop s e n = rw (walk_turn p at least tail h, e) (ap (map (told p)) (no_fields (λ next. walk_of p next least tail) at s n))

  pub end_end : step_at p at least tail ≡ End → walked_of (walk_of p at least tail) ≡ Some at
  end_end e = rw (walk_turn p at least tail h, e)

  pub end_other : (s : Step) → step_at p at least tail ≡ s → (s ≡ End → ⊥) → fields_in p (walk_of p at least tail) ≡ []
      → walked_of (walk_of p at least tail) ≡ None
  end_other (Field kind start len next) e n z = let q = ap length (left_field kind start len next e) in let r = ap length z in absurd (omega (arith, q, r))
  end_other End e n z = absurd (n refl)
  end_other Broken e n z = rw (walk_turn p at least tail h, e)

-- what a chain of calls on the iterator meets: its fields, and then none
pub gives_all : (it : Fields) → YieldsList GivesField shown it (fields_left it)
gives_all it = YieldsList-from_shown GivesField shown fields_left (λ s t g. ap length g.0.0) (λ s x t g. g.0) it

-- a walk is not broken exactly if it has an end
pub whole_ends : (w : Walk) → whole w ≡ is_some (walked_of w)
whole_ends (field f w) = whole_ends w
whole_ends (ends at) = refl
whole_ends broken = refl

-- ---- places

turned : (a e r : Bool) → (a || (e || r)) ≡ (e || (a || r))
turned true true r = refl
turned true false r = refl
turned false e r = refl

-- the places of a walk that ends: its end, and where its fields start
pub places : (p : List ℕ) (n last : ℕ) (w : Walk) → walked_of w ≡ Some last → place_in n w ≡ (eqb last n || list_any (λ f. eqb f.at n) (fields_in p w))
places p n last (field f w) e = rw (places p n last w e) (turned (eqb f.at n) (eqb last n) (list_any (λ g. eqb g.at n) (fields_in p w)))
places p n last (ends at) e = rw (ends_same at last e, or-false)
places p n last broken e = absurd (none-some last e)
