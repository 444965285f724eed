-- The fields by groups, as the code makes them (RULES, No. 10).
-- Assumes nothing.
use Rattle.std.specs.Prelude.{ℕ, ◌+◌, List, [], ◌∷◌, ◌++◌, map, get_or}
use Rattle.association.specs.declared.Settings.{Settings}
use Rattle.association.specs.declared.State.{State}
use Rattle.handover_file.specs.Given.{given_in}
use Rattle.handover_compare.specs.declared.fields.Field.{Field}
use Rattle.handover_compare.specs.declared.fields.Kept.{Kept}
use Rattle.handover_compare.specs.declared.fields.Groups.{Groups}
use Rattle.handover_compare.specs.Readings.{Reading, plain, settings_numbers, state_numbers, aged_of, ages}
use Rattle.handover_compare.specs.Fields.{field_of}

-- the i-th of two rows of numbers
abbrev pub number_of : ℕ → List ℕ → List ℕ → ℕ → Field
number_of first l r i = field_of (first + i) (plain (get_or l i 0)) (plain (get_or r i 0))

-- eight numbers, with codes from `first` on
unfoldable pub eight_of : ℕ → List ℕ → List ℕ → List Field
eight_of first l r =
    field_of first (plain (get_or l 0 0)) (plain (get_or r 0 0))
    ∷ number_of first l r 1
    ∷ number_of first l r 2
    ∷ number_of first l r 3
    ∷ number_of first l r 4
    ∷ number_of first l r 5
    ∷ number_of first l r 6
    ∷ number_of first l r 7
    ∷ []

-- ---- the cookies of a stash's body

-- what is read from a cookie there
abbrev pub kept_reading : Kept → Reading
kept_reading k = record { number = k.number; bytes = k.bytes.now }

-- the cookie of an age
unfoldable pub aged_in : List ℕ → ℕ → Reading
aged_in b age = aged_of (given_in b) age

-- the cookies of an age, each from its own body
unfoldable pub cookie_in : List ℕ → List ℕ → ℕ → Field
cookie_in l r age = field_of (32 + age) (aged_in l age) (aged_in r age)

-- ---- all fields, of settings, state, and the body of a stash's record on each side

unfoldable pub groups_in : Settings → State → List ℕ → Settings → State → List ℕ → Groups
groups_in l p left r q right =
    record {
      settings = eight_of 1 (settings_numbers l) (settings_numbers r);
      capacity = field_of 9 (plain l.capacity) (plain r.capacity);
      read = field_of 16 (plain (get_or left 0 0)) (plain (get_or right 0 0));
      cookies = map (cookie_in left right) ages;
      state = eight_of 48 (state_numbers p) (state_numbers q);
    }

-- all of them, in their order
abbrev pub all_of : Groups → List Field
all_of g = g.settings ++ (g.capacity ∷ (g.read ∷ (g.cookies ++ g.state)))
