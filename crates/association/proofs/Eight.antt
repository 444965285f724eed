-- With capacity 8 the settings, a whole record and what `new` makes are what they were before there was a capacity (RULES, No. 12). And 30 is given for a
-- capacity of 0 and of 9 and
-- more, whatever the other settings are, and for none else where these are within their ranges.
-- Assumes nothing.
use mathlib.Core.Path.{◌≡◌, refl, sym, ap, ◌∙◌}
use mathlib.Core.Bool.{Bool, true, false, cond, ◌&&◌, false≢true}
use mathlib.Core.List.{List}
use mathlib.Core.Logic.{◌⊎◌, inl, inr, ⊎_elim}
use Prim.Native.Nat.{ℕ, ◌≤◌}
use native.Mathlib.Decide.{dec_le}
use native.Mathlib.Omega.{arith}
use borrow.Author.Tests.{le-leb, lt-leb}
use Rattle.words.proofs.Tests.{passes, fails}
use Rattle.cookiestash.specs.StoreList.{store_list_of}
use Rattle.cookiestash.specs.Falling.{none_dropped, dropped_of}
use Rattle.cookiestash.specs.Whole.{seen_of}
use Rattle.association.specs.declared.Settings.{Settings}
use Rattle.association.specs.declared.Association.{Association}
use Rattle.association.specs.declared.NewOut.{NewOut}
use Rattle.association.specs.Settings.{within, limits_valid, settings_valid}
use Rattle.association.specs.Record.{fresh_of, with_stash, whole_seen, whole_of}
use Rattle.association.specs.New.{made_of, first_dropped, number_of, new_of}
use Rattle.association.specs.Numbers.{Given, bad_settings}
use Rattle.association.proofs.Numbers.{number}

-- the test of the settings before there was a capacity
abbrev pub others_valid : Settings → Bool
others_valid s = limits_valid s.min.0 s.max.0 && (within 1 s.startup 8 && within 1 s.window 60000000000)

last_true : (a b c : Bool) → a && (b && (c && true)) ≡ a && (b && c)
last_true true true true = refl
last_true true true false = refl
last_true true false c = refl
last_true false b c = refl

last_false : (a b c : Bool) → a && (b && (c && false)) ≡ false
last_false true true true = refl
last_false true true false = refl
last_false true false c = refl
last_false false b c = refl

module _ (s : Settings) where
  valid_with : within 1 s.capacity 8 ≡ true → settings_valid s ≡ others_valid s
  unfolding settings_valid
  valid_with e = rw e (last_true (limits_valid s.min.0 s.max.0) (within 1 s.startup 8) (within 1 s.window 60000000000))

  valid_without : within 1 s.capacity 8 ≡ false → settings_valid s ≡ false
  unfolding settings_valid
  valid_without e = rw e (last_false (limits_valid s.min.0 s.max.0) (within 1 s.startup 8) (within 1 s.window 60000000000))

  -- ---- capacity 8

  module _ (e : s.capacity ≡ 8) where
    -- promise no12.4: At 8 the settings, a whole record and each call are what they were with an 8 in the definitions; no definition has a case of its own
    --     for 8 or for less. That 8 is the crate's is tested (`oracle/compare`), and for smaller capacities what a smaller stash leaves of the crate's
    --     answers.
    pub settings_8 : settings_valid s ≡ others_valid s
    settings_8 = valid_with (ap (λ (c : ℕ). within 1 c 8) e)

    -- promise: no12.4
    pub made_8 : (list : List ℕ) → made_of s list ≡ cond s.nts (with_stash (fresh_of s) (store_list_of 8 (fresh_of s).stash list)) (fresh_of s)
    unfolding made_of
    made_8 list = ap (λ (c : ℕ). cond s.nts (with_stash (fresh_of s) (store_list_of c (fresh_of s).stash list)) (fresh_of s)) e

    -- promise: no12.4
    pub dropped_8 : (list : List ℕ) → first_dropped s list ≡ cond s.nts (dropped_of 8 (fresh_of s).stash list) none_dropped
    unfolding first_dropped
    dropped_8 list = ap (λ (c : ℕ). cond s.nts (dropped_of c (fresh_of s).stash list) none_dropped) e

  -- ---- 30

  outside : (s.capacity ≡ 0) ⊎ (9 ≤ s.capacity) → within 1 s.capacity 8 ≡ false
  outside = ⊎_elim (λ z. fails _ (lt-leb 1 s.capacity (omega arith)))
      (λ n. passes _ (le-leb 1 s.capacity (omega arith)) ∙ lt-leb s.capacity 8 (omega arith))

  inside : (1 ≤ s.capacity) → s.capacity ≤ 8 → within 1 s.capacity 8 ≡ true
  inside l m = passes _ (le-leb 1 s.capacity l) ∙ le-leb s.capacity 8 m

  module _ (list : List ℕ) where
    invalid : settings_valid s ≡ false → number_of (new_of s list).answer ≡ 30
    unfolding new_of
    invalid e = rw e

    -- promise: no12.1 (30 for 0 and for 9 and more, whatever else is set)
    pub capacity_30 : (s.capacity ≡ 0) ⊎ (9 ≤ s.capacity) → number_of (new_of s list).answer ≡ 30
    capacity_30 o = invalid (valid_without (outside o))

    -- where the other settings are within their ranges it is given for no other capacity
    -- promise: no12.1 (where the other settings are within their ranges, for no other)
    pub only_30 : others_valid s ≡ true → number_of (new_of s list).answer ≡ 30 → (s.capacity ≡ 0) ⊎ (9 ≤ s.capacity)
    only_30 v e =
        elim (dec_le 9 s.capacity) [
          | yes l ↦ inr l
          | no m ↦
              elim (dec_le 1 s.capacity) [
                | yes l ↦ absurd (taken (valid_with (inside l (omega arith)) ∙ v) e)
                | no n ↦ inl (omega arith)
              ]
        ]
      where
        by : settings_valid s ≡ true → {o : NewOut} → Given s list 30 o → ⊥
        by k (bad_settings v) = false≢true (sym v ∙ k)

        taken : settings_valid s ≡ true → number_of (new_of s list).answer ≡ 30 → ⊥
        taken k z = by k ((number s list 30).0 z).1

-- ---- the test of a record

-- promise: no12.4
pub whole_8 : (a : Association) → a.settings.capacity ≡ 8 → whole_of a ≡ whole_seen a.settings (seen_of 8 a.stash) a.state
unfolding whole_of
whole_8 a e = ap (λ (c : ℕ). whole_seen a.settings (seen_of c a.stash) a.state) e
