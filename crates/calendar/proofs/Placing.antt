-- Laws of the planner's loop: a start fits behind those placed exactly if each minute of the entry takes one poll more, and the plan goes on from there.
-- Assumes nothing.
use mathlib.Core.Path.{◌≡◌, refl, sym, ap, subst, ◌∙◌}
use mathlib.Core.Bool.{Bool, true, false, ◌&&◌, cond}
use mathlib.Core.List.{List, [], ◌∷◌, ◌++◌}
use Prim.Native.Nat.{ℕ, zero, suc, ◌+◌, ◌-◌, ◌≤◌, ◌<◌}
use native.Mathlib.Omega.{arith}
use native.Mathlib.Numerals.{add-one}
use lib.Dec.{ltb, leb, leb-suc-suc}
use lib.ListN.{length, get_or, take, set, get_or-append}
use lib.Seq.{get_or_at, length-take-le, take-suc-set}
use borrow.Author.Tests.{le-ltb, ltb-false}
use Rattle.std.specs.Prelude.{Option, Some, None}
use Rattle.calendar.specs.Lowest.{lowest, is_nothing, NonePasses}
use Rattle.calendar.specs.Calendar.{start_of, repeat_of, polls, load, over}
use Rattle.calendar.specs.Loads.{taken, free, one_more}
use Rattle.calendar.specs.Plan.{whole, stuck, fits, earliest_of, plan_from}
use Rattle.calendar.proofs.Search.{agree, found, nothing}
use Rattle.calendar.proofs.Loaded.{Loaded, of_none, of_more}

-- ---- the loads of a list with one start more

-- only the starts of the entries that count are read
pub same_load : (a b repeats : List ℕ) (k m : ℕ) → ((j : ℕ) → j < k → start_of a j ≡ start_of b j) → load a repeats k m ≡ load b repeats k m
unfolding load
same_load a b repeats zero m h = refl
same_load a b repeats (suc k) m h = rw (h k (omega arith), same_load a b repeats k m (λ j l. h j (omega arith)))

module _ (placed repeats : List ℕ) (start m : ℕ) where
  pub load_more : load (placed ++ start ∷ []) repeats (suc (length placed)) m
      ≡ cond (polls start (repeat_of repeats (length placed)) m) (suc (load placed repeats (length placed) m)) (load placed repeats (length placed) m)
  unfolding load
  load_more =
      let s : start_of (placed ++ start ∷ []) (length placed) ≡ start = get_or_at placed start [] 1440 (length placed) refl in
      let l : load (placed ++ start ∷ []) repeats (length placed) m ≡ load placed repeats (length placed) m =
      same_load (placed ++ start ∷ []) placed repeats (length placed) m (λ j h. get_or-append placed (start ∷ []) 1440 j h) in
      rw (s, l)

-- ---- a start that fits

-- with a minute under the cap before, the poll that is added takes it over exactly if it is taken
taken_or_over : (cap x : ℕ) (t : Bool) → x ≤ cap → (t && leb cap x) ≡ ltb cap (cond t (suc x) x)
taken_or_over cap x true h = sym (leb-suc-suc cap x)
taken_or_over cap x false h = sym (le-ltb cap x h)

module _ (cap : ℕ) (repeats placed loads : List ℕ) (i : Loaded placed repeats loads (length placed))
    (under : NonePasses (over cap placed repeats (length placed)) 1440) where
  free_is_fits : (start : ℕ) → free cap loads (repeat_of repeats (length placed)) start ≡ fits cap repeats placed start
  free_is_fits start =
      ap is_nothing
      (agree (taken cap loads start (repeat_of repeats (length placed))) (over cap (placed ++ start ∷ []) repeats (suc (length placed))) 1440
      (λ m l.
      let x = load placed repeats (length placed) m in
      let u : x ≤ cap = ltb-false cap x (under m l) in
      rw (i.counted m l, load_more placed repeats start m) (taken_or_over cap x (polls start (repeat_of repeats (length placed)) m) u)))

  pub earliest_is : lowest (free cap loads (repeat_of repeats (length placed))) (repeat_of repeats (length placed)) ≡ earliest_of cap repeats placed
  unfolding earliest_of
  earliest_is =
      agree (free cap loads (repeat_of repeats (length placed))) (fits cap repeats placed) (repeat_of repeats (length placed))
      (λ s l. free_is_fits s)

pub is_nothing_true : (f : Option ℕ) → is_nothing f ≡ true → f ≡ None
is_nothing_true (Some k) e = cc
is_nothing_true None e = refl

-- the earliest start fits
module _ (cap : ℕ) (repeats placed : List ℕ) (start : ℕ) (e : earliest_of cap repeats placed ≡ Some start) where
  pub earliest_under : NonePasses (over cap (placed ++ start ∷ []) repeats (suc (length placed))) 1440
  unfolding earliest_of
  earliest_under =
      nothing (over cap (placed ++ start ∷ []) repeats (suc (length placed))) 1440
      (is_nothing_true (lowest (over cap (placed ++ start ∷ []) repeats (suc (length placed))) 1440)
      (found (fits cap repeats placed) (repeat_of repeats (length placed)) start e).passes)

-- ---- how a plan goes on

module _ (cap : ℕ) (repeats placed : List ℕ) (n k : ℕ) where
  one_less_to_place : k < n → n - k ≡ suc (n - (k + 1))
  one_less_to_place l = omega arith

  pub plan_on : k < n → (start : ℕ) → earliest_of cap repeats placed ≡ Some start →
      plan_from cap repeats (n - k) placed ≡ plan_from cap repeats (n - (k + 1)) (placed ++ start ∷ [])
  unfolding plan_from
  plan_on l start e = rw (one_less_to_place l, e)

  pub plan_stuck : k < n → earliest_of cap repeats placed ≡ None → plan_from cap repeats (n - k) placed ≡ stuck (length placed)
  unfolding plan_from
  plan_stuck l e = rw (one_less_to_place l, e)

  pub plan_whole : n ≤ k → plan_from cap repeats (n - k) placed ≡ whole placed
  unfolding plan_from
  plan_whole l = let z : n - k ≡ 0 = omega arith in rw z

-- ---- the planner's loop: k entries are placed, and the rest of the plan is that of the rest

pub record Placing (cap : ℕ) (repeats loads placed : List ℕ) (k : ℕ) : Type 0 where
  pub upto : k ≤ length repeats
  pub loaded : Loaded (take k placed) repeats loads k
  pub under : NonePasses (over cap (take k placed) repeats k) 1440
  pub rest : plan_from cap repeats (length repeats - k) (take k placed) ≡ plan_from cap repeats (length repeats) []

module _ (cap : ℕ) (repeats loads placed : List ℕ) where
  pub begin : length loads ≡ 1440 → ((m : ℕ) → get_or loads m 0 ≡ 0) → Placing cap repeats loads placed 0
  unfolding load
  begin e h = record {
    upto = omega arith;
    loaded = of_none [] repeats loads e h;
    under = λ m l. le-ltb cap 0 (omega arith);
    rest = let z : length repeats - 0 ≡ length repeats = omega arith in rw z;
  }

  module _ (k : ℕ) (i : Placing cap repeats loads placed k) (room : k < length placed) where
    long : length (take k placed) ≡ k
    long = length-take-le k placed (omega arith)

    module _ (repeat : ℕ) (r : repeat ≡ repeat_of repeats k) where
      -- what the code finds is the earliest start of the next entry
      pub finds : lowest (free cap loads repeat) repeat ≡ earliest_of cap repeats (take k placed)
      finds =
          let l : Loaded (take k placed) repeats loads (length (take k placed)) = rw long i.loaded in
          let u : NonePasses (over cap (take k placed) repeats (length (take k placed))) 1440 = rw long i.under in
          rw r (rw long at (earliest_is cap repeats (take k placed) loads l u))

      module _ (inside : k < length repeats) where
        pub stops : lowest (free cap loads repeat) repeat ≡ None → stuck k ≡ plan_from cap repeats (length repeats) []
        stops e =
            let s = plan_stuck cap repeats (take k placed) (length repeats) k inside (sym finds ∙ e) in
            sym (sym i.rest ∙ s ∙ ap stuck long)

        -- an entry is placed, and its polls are added
        pub step : (start : ℕ) → lowest (free cap loads repeat) repeat ≡ Some start → (after : List ℕ) → length after ≡ length loads
            → ((m : ℕ) → m < 1440 → get_or after m 0 ≡ one_more start repeat loads m) → Placing cap repeats after (set placed k start) (k + 1)
        step start e after a h =
            let f : earliest_of cap repeats (take k placed) ≡ Some start = sym finds ∙ e in
            let t : take (k + 1) (set placed k start) ≡ take k placed ++ start ∷ [] = rw add-one (take-suc-set placed k start room) in
            let s : start ≡ start_of (take k placed ++ start ∷ []) k = sym (get_or_at (take k placed) start [] 1440 k long) in
            let l : Loaded (take k placed ++ start ∷ []) repeats loads k = record {
              long = i.loaded.long;
              counted = λ m q. i.loaded.counted m q ∙ same_load (take k placed) (take k placed ++ start ∷ []) repeats k m
                  (λ j p. sym (get_or-append (take k placed) (start ∷ []) 1440 j (rw long p)));
            } in
            record {
              upto = omega arith;
              loaded = rw t (of_more (take k placed ++ start ∷ []) repeats loads k l start repeat s r after a h);
              under = rw (t, add-one) (rw long at (earliest_under cap repeats (take k placed) start f));
              rest = rw t (sym (plan_on cap repeats (take k placed) (length repeats) k inside start f) ∙ i.rest);
            }

  pub ends : (k : ℕ) → Placing cap repeats loads placed k → length repeats ≤ k →
      whole (take (length repeats) placed) ≡ plan_from cap repeats (length repeats) []
  ends k i l =
      let e : k ≡ length repeats = omega (arith, i.upto) in
      let w = plan_whole cap repeats (take k placed) (length repeats) k l in
      subst (λ (x : ℕ). whole (take x placed) ≡ plan_from cap repeats (length repeats) []) e (sym w ∙ i.rest)
