-- The gaps of a damaged list (RULES, No. 9): there is none exactly where no byte is skipped, a place is a gap's exactly if it is skipped and the byte before
-- is not, and the places rise.
-- And a list is without damage exactly where no byte of it is skipped.
-- Assumes nothing.
use Prim.Native.Nat.{ℕ, suc, ◌+◌, ◌≤◌}
use mathlib.Core.Path.{◌≡◌, refl, ap, ◌∙◌}
use mathlib.Core.Bool.{Bool, true, false}
use mathlib.Core.List.{List, [], ◌∷◌}
use mathlib.Core.Logic.{◌⊎◌, inl, inr, ◌↔◌}
use native.Mathlib.Omega.{arith}
use lib.ListN.{length}
use Rattle.cookielist.specs.List.{is_whole, cookies_from, cookies_in}
use Rattle.cookielist.proofs.Reader.{read_end, whole_cookie}
use Rattle.cookielist.proofs.RoundTrip.{entry_end}
use Rattle.salvage.specs.declared.Step.{Step}
use Rattle.salvage.specs.declared.Step.TheVariants.{Kept, Skipped}
use Rattle.salvage.specs.Walk.{walk_from, walk_of}
use Rattle.salvage.specs.Salvage.{skipped_in, gaps_from, gaps_in}
use Rattle.salvage.proofs.Walks.{walk_induction}
use Rattle.salvage.proofs.Undamaged.{undamaged}

-- the place is one of them
abbrev pub In : ℕ → List ℕ → Type 0
In p [] = ⊥
In p (x ∷ xs) = (p ≡ x) ⊎ In p xs

-- the byte at the place is skipped
abbrev pub IsSkipped : ℕ → List Step → Type 0
IsSkipped p [] = ⊥
IsSkipped p (Kept start end ∷ w) = IsSkipped p w
IsSkipped p (Skipped at ∷ w) = (p ≡ at) ⊎ IsSkipped p w

-- each place is past the one before it
abbrev pub Rising : ℕ → List ℕ → Type 0
Rising least [] = Unit {0}
Rising least (p ∷ ps) = (least ≤ p) × Rising (suc p) ps

lower : (a b : ℕ) (ps : List ℕ) → a ≤ b → Rising b ps → Rising a ps
lower a b [] h r = tt
lower a b (p ∷ ps) h r = (omega (arith, r.0), r.1)

-- ---- no gap

nothing_skipped : (b : Bool) (w : List Step) → b ≡ false → gaps_from b w ≡ [] → skipped_in w ≡ 0
nothing_skipped b [] f e = refl
nothing_skipped b (Kept start end ∷ w) f e = nothing_skipped false w refl e
nothing_skipped true (Skipped at ∷ w) f e = cc
nothing_skipped false (Skipped at ∷ w) f e = absurd (omega (arith, ap length e))

no_gap : (b : Bool) (w : List Step) → skipped_in w ≡ 0 → gaps_from b w ≡ []
no_gap b [] e = refl
no_gap b (Kept start end ∷ w) e = no_gap false w e
no_gap b (Skipped at ∷ w) e = absurd (omega arith)

pub no_gap_iff : (l : List ℕ) → (gaps_in (walk_of l) ≡ []) ↔ (skipped_in (walk_of l) ≡ 0)
no_gap_iff l = (nothing_skipped false (walk_of l) refl, no_gap false (walk_of l))

-- ---- the places

module _ (l : List ℕ) where
  -- what is skipped of the walk from an offset lies from there on
  from_there : (at : ℕ) → at ≤ length l → (p : ℕ) → IsSkipped p (walk_from l at) → at ≤ p
  from_there =
      walk_induction l (λ at w. (p : ℕ) → IsSkipped p w → at ≤ p)
      (λ p s. absurd s)
      (λ at end k behind p s. omega (arith, k.headed, behind p s))
      (λ at h e behind p s. here at p (walk_from l (at + 1)) (behind p) s)
    where
      here : (at p : ℕ) (w : List Step) → (IsSkipped p w → at + 1 ≤ p) → (p ≡ at) ⊎ IsSkipped p w → at ≤ p
      here at p w later (inl e) = omega arith
      here at p w later (inr s) = omega (arith, later s)

  -- a gap of the walk from an offset, where the byte before was skipped or not
  record Gap (b : Bool) (at p : ℕ) (w : List Step) : Type 0 where
    there : IsSkipped p w
    first : b ≡ true → p ≡ at → ⊥
    fresh : (q : ℕ) → suc q ≡ p → IsSkipped q w → ⊥

  record Both (at : ℕ) (w : List Step) : Type 0 where
    into : (b : Bool) (p : ℕ) → In p (gaps_from b w) → Gap b at p w
    from : (b : Bool) (p : ℕ) → Gap b at p w → In p (gaps_from b w)
    rises : (b : Bool) → Rising at (gaps_from b w)

  module _ (at : ℕ) (w : List Step) (low : (p : ℕ) → IsSkipped p w → at + 1 ≤ p) (k : Both (at + 1) w) where
    later : (b : Bool) (p : ℕ) → Gap true (at + 1) p w → Gap b at p (Skipped at ∷ w)
    later b p g = record { there = inr g.there; first = λ e f. past (low p g.there) f; fresh = fresh }
      where
        past : at + 1 ≤ p → p ≡ at → ⊥
        past h f = omega arith

        fresh : (q : ℕ) → suc q ≡ p → (q ≡ at) ⊎ IsSkipped q w → ⊥
        fresh q e (inl f) = g.first refl (omega arith)
        fresh q e (inr s) = g.fresh q e s

    skip_into : (b : Bool) (p : ℕ) → In p (gaps_from b (Skipped at ∷ w)) → Gap b at p (Skipped at ∷ w)
    skip_into true p i = later true p (k.into true p i)
    skip_into false p (inr i) = later false p (k.into true p i)
    skip_into false p (inl e) = record { there = inl e; first = λ f. cc; fresh = fresh }
      where
        fresh : (q : ℕ) → suc q ≡ p → (q ≡ at) ⊎ IsSkipped q w → ⊥
        fresh q f (inl g) = omega arith
        fresh q f (inr s) = omega (arith, low q s)

    onward : (b : Bool) (p : ℕ) → Gap b at p (Skipped at ∷ w) → IsSkipped p w → In p (gaps_from true w)
    onward b p g s = k.from true p (record { there = s; first = λ e f. g.fresh at (omega arith) (inl refl); fresh = λ q f t. g.fresh q f (inr t) })

    skip_from : (b : Bool) (p : ℕ) → Gap b at p (Skipped at ∷ w) → In p (gaps_from b (Skipped at ∷ w))
    skip_from b p g = by b g g.there
      where
        by : (b : Bool) → Gap b at p (Skipped at ∷ w) → (p ≡ at) ⊎ IsSkipped p w → In p (gaps_from b (Skipped at ∷ w))
        by true g (inl e) = absurd (g.first refl e)
        by true g (inr s) = onward true p g s
        by false g (inl e) = inl e
        by false g (inr s) = inr (onward false p g s)

    skip_rises : (b : Bool) → Rising at (gaps_from b (Skipped at ∷ w))
    skip_rises true = lower at (at + 1) (gaps_from true w) (omega arith) (k.rises true)
    skip_rises false = (omega arith, lower (suc at) (at + 1) (gaps_from true w) (omega arith) (k.rises true))

  both : (at : ℕ) → at ≤ length l → Both at (walk_from l at)
  both =
      walk_induction l Both
      (record { into = λ b p i. absurd i; from = λ b p g. absurd g.there; rises = λ b. tt })
      (λ at end kept behind.
      record {
        into = λ b p i.
            let g = behind.into false p i in
            record { there = g.there; first = λ e f. apart at end p kept.headed (from_there end kept.within p g.there) f; fresh = g.fresh };
        from = λ b p g. behind.from false p (record { there = g.there; first = λ e. cc; fresh = g.fresh });
        rises = λ b. lower at end (gaps_from false (walk_from l end)) (omega (arith, kept.headed)) (behind.rises false);
      })
      (λ at h e behind.
      let low = from_there (at + 1) (omega arith) in
      record {
        into = skip_into at (walk_from l (at + 1)) low behind;
        from = skip_from at (walk_from l (at + 1)) low behind;
        rises = skip_rises at
            (walk_from l (at + 1)) low behind;
      })
    where
      apart : (at end p : ℕ) → at + 4 ≤ end → end ≤ p → p ≡ at → ⊥
      apart at end p h k f = omega arith

  -- a place is a gap's exactly if it is skipped and the byte before is not
  pub gap_iff : (p : ℕ) → In p (gaps_in (walk_of l)) ↔ (IsSkipped p (walk_of l) × ((q : ℕ) → suc q ≡ p → IsSkipped q (walk_of l) → ⊥))
  gap_iff p =
      let k = both 0 (omega arith) in (
        λ i. ((k.into false p i).there, (k.into false p i).fresh),
        λ g. k.from false p (record { there = g.0; first = λ e. cc; fresh = g.1 }),
      )

  -- so that none is told twice
  pub gaps_rise : Rising 0 (gaps_in (walk_of l))
  gaps_rise = (both 0 (omega arith)).rises false

-- ---- a list without damage

whole_from : (l : List ℕ) (at : ℕ) → at ≤ length l → skipped_in (walk_from l at) ≡ 0 → is_whole (cookies_from l at) ≡ true
whole_from l =
    walk_induction l (λ at w. skipped_in w ≡ 0 → is_whole (cookies_from l at) ≡ true)
    (λ e. ap is_whole (read_end l (length l) (entry_end l (length l) refl)))
    (λ at end k behind e. whole_cookie l at k.start end k.entry ∙ behind e)
    (λ at h f behind e. absurd (omega arith))

pub undamaged_iff : (l : List ℕ) → (is_whole (cookies_in l) ≡ true) ↔ (skipped_in (walk_of l) ≡ 0)
unfolding cookies_in
undamaged_iff l = (λ t. (undamaged l t).1, whole_from l 0 (omega arith))
