-- What is opened, and what is written, piece by piece.
-- Assumes nothing.
use Prim.Native.Nat.{ℕ, ◌≤◌}
use mathlib.Core.Path.{◌≡◌, refl, sym, ap, ◌∙◌}
use mathlib.Core.Bool.{Bool, true, false, cond, ◌&&◌}
use mathlib.Core.List.{List, [], ◌∷◌, ◌++◌, append_assoc}
use native.Mathlib.Omega.{arith}
use borrow.Author.Tests.{le-leb, lt-leb}
use borrow.Rule.Slice.PartMut.{put_mid}
use lib.ListN.{length, get_or, take, drop, set, length-append, length-drop}
use lib.Seq.{take_at, drop_at, drop-drop, drop-cons, set_at}
use Rattle.words.specs.Bytes.{part}
use Rattle.words.proofs.Tests.{when, unless}
use Rattle.association.specs.declared.Settings.{Settings}
use Rattle.association.specs.declared.State.{State}
use Rattle.handover_groups.specs.Settings.{settings_bytes, settings_known}
use Rattle.handover_groups.proofs.OfSettings.{settings_long}
use Rattle.record_bytes.specs.declared.Opened.{Opened}
use Rattle.record_bytes.specs.State.{state_bytes, state_known}
use Rattle.record_bytes.proofs.Head.{head_part}
use Rattle.std.specs.Prelude.{Some, None}
use Rattle.std.specs.Bool.{then_some}
use Rattle.record_stash.specs.Rows.{sized_in}
use Rattle.record_bytes.specs.Record.{ok_in, ok, opened, opened_of, stored_state, headed}

-- ---- opened

module _ (b : List ℕ) where
  pub not_opened : ok b ≡ false → None ≡ opened_of b
  unfolding opened_of
  not_opened e = sym (unless (Some (opened b)) None e)

  then_opened : then_some (ok b) (opened b) ≡ opened_of b
  unfolding opened_of
  then_opened = by (ok b)
    where
      by : (t : Bool) → then_some t (opened b) ≡ cond t (Some (opened b)) None
      by true = refl
      by false = refl

  -- what was found in the head of the bytes, and the three tests
  pub opened_by : (head : List ℕ) → head ≡ take 92 b → {r : Opened} → r ≡ opened b → {s k : Bool} → s ≡ sized_in b r.settings.capacity →
      k ≡ (s && (settings_known (part head 0 27) && state_known (part head 29 63))) → then_some k r ≡ opened_of b
  unfolding ok ok_in
  opened_by head e {r = r} er es ek =
      let settings = ap (λ (x : List ℕ). settings_known (part x 0 27)) e ∙ ap settings_known (head_part b 0 27 (omega arith)) in
      let state = ap (λ (x : List ℕ). state_known (part x 29 63)) e ∙ ap state_known (head_part b 29 63 (omega arith)) in
      let sized = es ∙ ap (λ (x : Opened). sized_in b x.settings.capacity) er in
      (λ i. then_some ((ek ∙ (λ j. sized j && (settings j && state j))) i) (er i)) ∙ then_opened

-- ---- what a call finds

-- a record, opened
pub record Found (b : List ℕ) (r : Opened) : Type 0 where
  pub ok : ok b ≡ true
  pub is : r ≡ opened b

pub found : (b : List ℕ) (r : Opened) → Some r ≡ opened_of b → Found b r
unfolding opened_of
found b r e = by (ok b) refl e
  where
    by : (t : Bool) → ok b ≡ t → Some r ≡ cond t (Some (opened b)) None → Found b r
    by true k f = record { ok = k; is = cc }
    by false k f = absurd (let z : ◌≡◌ {A = ℕ} 0 1 = cc in omega arith)

pub none_found : (b : List ℕ) → None ≡ opened_of b → ok b ≡ false
unfolding opened_of
none_found b e = by (ok b) refl e
  where
    by : (t : Bool) → ok b ≡ t → None ≡ cond t (Some (opened b)) None → ok b ≡ false
    by true k f = absurd (let z : ◌≡◌ {A = ℕ} 0 1 = cc in omega arith)
    by false k f = k

-- ---- written

module _ (b : List ℕ) where
  pub state_short : (q : State) → length b ≤ 91 → b ≡ stored_state b q
  unfolding stored_state
  state_short q h = sym (unless (take 29 b ++ (state_bytes q ++ drop 92 b)) b (lt-leb 92 (length b) (omega arith)))

  pub head_short : (s : Settings) (r : ℕ) (q : State) → length b ≤ 91 → b ≡ headed b s r q
  unfolding headed
  head_short s r q h = sym (unless (settings_bytes s ++ (r ∷ 0 ∷ (state_bytes q ++ drop 92 b))) b (lt-leb 92 (length b) (omega arith)))

  module _ (h : 92 ≤ length b) where
    pub state_by : (q : State) (y : List ℕ) → y ≡ state_bytes q → put_mid 29 63 b y ≡ stored_state b q
    unfolding stored_state
    state_by q y e =
        (λ i. take 29 b ++ (e i ++ drop-drop 63 29 b i)) ∙ sym (when (take 29 b ++ (state_bytes q ++ drop 92 b)) b (le-leb 92 (length b) h))

    module _ (s : Settings) (r : ℕ) (y : List ℕ) (e : y ≡ settings_bytes s) where
      abbrev S : List ℕ
      S = settings_bytes s

      abbrev written : List ℕ
      written = set (set (put_mid 0 27 b y) 27 r) 28 0

      -- the settings, the reading place and no cookie
      abbrev head : List ℕ
      head = S ++ (r ∷ 0 ∷ [])

      head_is : length head ≡ 29
      head_is = length-append S (r ∷ 0 ∷ []) ∙ omega (arith, settings_long s)

      written_is : written ≡ head ++ drop 29 b
      written_is =
          let one : length (S ++ (r ∷ [])) ≡ 28 = length-append S (r ∷ []) ∙ omega (arith, settings_long s) in
          ap (λ (x : List ℕ). set (set (x ++ drop 27 b) 27 r) 28 0) e
          ∙ ap (λ (x : List ℕ). set (set (S ++ x) 27 r) 28 0) (drop-cons b 27 0 (omega arith))
          ∙ ap (λ (x : List ℕ). set x 28 0) (set_at S (get_or b 27 0) (drop 28 b) r 27 (settings_long s) ∙ sym (append_assoc S (r ∷ []) (drop 28 b)))
          ∙ ap (λ (x : List ℕ). set ((S ++ (r ∷ [])) ++ x) 28 0) (drop-cons b 28 0 (omega arith))
          ∙ set_at (S ++ (r ∷ [])) (get_or b 28 0) (drop 29 b) 0 28 one
          ∙ append_assoc S (r ∷ []) (0 ∷ drop 29 b)
          ∙ sym (append_assoc S (r ∷ 0 ∷ []) (drop 29 b))

      pub written_long : length written ≡ length b
      written_long = ap length written_is ∙ length-append head (drop 29 b) ∙ omega (arith, head_is, length-drop 29 b)

      pub head_by : (q : State) (c : List ℕ) → c ≡ stored_state written q → c ≡ headed b s r q
      unfolding stored_state headed
      head_by q c g =
          g
          ∙ when (take 29 written ++ (state_bytes q ++ drop 92 written)) written (le-leb 92 (length written) (omega (arith, written_long)))
          ∙ (λ i. take 29 (written_is i) ++ (state_bytes q ++ drop 92 (written_is i)))
          ∙ (λ i. take_at head (drop 29 b) 29 head_is i
          ++ (state_bytes q ++ (sym (drop-drop 63 29 (head ++ drop 29 b)) ∙ ap (drop 63) (drop_at head (drop 29 b) 29 head_is) ∙ drop-drop 63 29 b) i))
          ∙ append_assoc S (r ∷ 0 ∷ []) (state_bytes q ++ drop 92 b)
          ∙ sym (when (S ++ (r ∷ 0 ∷ (state_bytes q ++ drop 92 b))) b (le-leb 92 (length b) h))
