-- Laws of the salvaging loop: a place noted, and how far the report and the buffer are at a step of the walk.
-- Assumes nothing.
use Prim.Native.Nat.{ℕ, suc, ◌+◌, ◌-◌, ◌≤◌, ◌<◌}
use mathlib.Core.Path.{◌≡◌, refl, sym, ap, ◌∙◌}
use mathlib.Core.Bool.{Bool, true, false}
use mathlib.Core.List.{List, [], ◌∷◌, ◌++◌, append_assoc}
use native.Mathlib.Omega.{arith}
use lib.ListN.{length, take, drop, set, replicate, length-append, length-drop, drop_of_length-le}
use lib.Seq.{take_all, take-length, length-take-le, take-append-le, drop-cons, set_at}
use Rattle.words.specs.Bytes.{part}
use Rattle.words.specs.Put.{Put}
use Rattle.words.proofs.Bytes.{length_part}
use Rattle.words.proofs.Put.{left_is, left_long, more_is, buffer_is}
use Rattle.std.specs.Prelude.{Some, None}
use Rattle.salvage.specs.declared.Salvaged.{Salvaged}
use Rattle.salvage.specs.declared.Step.TheVariants as S
use Rattle.salvage.specs.Walk.{record_at, walk_from, walk_of}
use Rattle.salvage.specs.Salvage.{kept_in, skipped_in, gaps_from, gaps_in, places_of, records_in, clean_of, report_of}
use Rattle.salvage.proofs.Walks.{KeptAt, is_kept, walk_end, walk_kept, walk_skipped}

-- ---- a place noted

-- the first m of the places found so far, and what was there behind them
noted : ℕ → List ℕ → List ℕ → List ℕ
noted m old found = take m found ++ drop (length found) old

module _ (m x : ℕ) (old found : List ℕ) (long : length old ≡ m) where
  -- the next is stored where the last ended
  note : length found < m → set (noted m old found) (length found) x ≡ noted m old (found ++ x ∷ [])
  unfolding noted
  note h =
      let a : take m found ≡ found = take_all m found (omega arith) in
      let n : length (found ++ x ∷ []) ≡ suc (length found) = simp length-append (omega arith) in
      let b : take m (found ++ x ∷ []) ≡ found ++ x ∷ [] = take_all m (found ++ x ∷ []) (omega arith) in
      rw (a, b, n, drop-cons old (length found) 0 (omega arith)) (set_at found _ (drop (suc (length found)) old) x (length found) refl ∙ simp append_assoc)

  -- past m of them nothing is
  unnoted : m ≤ length found → noted m old found ≡ noted m old (found ++ x ∷ [])
  unfolding noted
  unnoted h =
      let n : length (found ++ x ∷ []) ≡ suc (length found) = simp length-append (omega arith) in
      let a : drop (length found) old ≡ [] = drop_of_length-le old {i = length found} (omega arith) in
      let b : drop (suc (length found)) old ≡ [] = drop_of_length-le old {i = suc (length found)} (omega arith) in
      rw (n, a, b, take-append-le m found (x ∷ []) h)

-- what is done at an offset of the walk, and that it goes on with what the walk from there reports
pub record Along (l out₀ out places : List ℕ) (at to kept skipped gaps : ℕ) (in_gap : Bool) : Type 0 where
  pub within : at ≤ length l
  pub kept_few : kept ≤ at
  pub skipped_few : skipped ≤ at
  pub gaps_few : gaps ≤ at
  pub to_few : to ≤ at
  pub keeps : kept + kept_in (walk_from l at) ≡ kept_in (walk_of l)
  pub skips : skipped + skipped_in (walk_from l at) ≡ skipped_in (walk_of l)
  pub upto : to ≤ length (clean_of l)
  pub left : drop to (clean_of l) ≡ records_in l (walk_from l at)
  pub buffer : out ≡ take to (clean_of l) ++ drop to out₀
  pub long : length out ≡ length out₀
  pub gaps_upto : gaps ≤ length (gaps_in (walk_of l))
  pub gaps_left : drop gaps (gaps_in (walk_of l)) ≡ gaps_from in_gap (walk_from l at)
  pub told : places ≡ places_of (take gaps (gaps_in (walk_of l)))

-- before the walk
pub start : (l out : List ℕ) → Along l out out (replicate 32 0) 0 0 0 0 0 false
unfolding clean_of places_of
start l out = record {
  within = omega arith;
  kept_few = omega arith;
  skipped_few = omega arith;
  gaps_few = omega arith;
  to_few = omega arith;
  keeps = omega arith;
  skips = omega arith;
  upto = omega arith;
  left = refl;
  buffer = refl;
  long = refl;
  gaps_upto = omega arith;
  gaps_left = refl;
  told = refl;
}

places_noted : (gs : List ℕ) → places_of gs ≡ noted 32 (replicate 32 0) gs
unfolding places_of noted
places_noted gs = refl

module _ (l out₀ out places : List ℕ) (at to kept skipped gaps : ℕ) (in_gap : Bool) (i : Along l out₀ out places at to kept skipped gaps in_gap) where
  -- a record is kept
  module _ (end : ℕ) (h : at < length l) (e : record_at l at ≡ Some end) where
    k : KeptAt l at end
    k = is_kept l at end e

    w : walk_from l at ≡ S.Kept at end ∷ walk_from l end
    w = walk_kept l at end h e

    record_long : length (part l at (end - at)) ≡ end - at
    record_long = length_part l at (end - at) (omega (arith, k.headed, k.within))

    pub fits : length l ≤ length out₀ → to + length (part l at (end - at)) ≤ length out
    fits room = omega (arith, i.to_few, i.long, room, record_long, k.headed, k.within)

    ahead : drop to (clean_of l) ≡ part l at (end - at) ++ records_in l (walk_from l end)
    ahead = i.left ∙ ap (records_in l) w

    ahead_long : to + length (part l at (end - at)) + length (records_in l (walk_from l end)) ≡ length (clean_of l)
    ahead_long = left_long (clean_of l) (part l at (end - at)) (records_in l (walk_from l end)) to i.upto ahead

    pub keep : (out' : List ℕ) (to' : ℕ) → Put out to (part l at (end - at)) to' out' → length out' ≡ length out →
        Along l out₀ out' places end to' (kept + 1) skipped gaps false
    keep out' to' p el =
        let R = part l at (end - at) in
        let T = records_in l (walk_from l end) in
        record {
          within = k.within;
          kept_few = omega (arith, i.kept_few, k.headed);
          skipped_few = omega (arith, i.skipped_few, k.headed);
          gaps_few = omega (arith, i.gaps_few, k.headed);
          to_few = omega (arith, i.to_few, p.ends, record_long, k.headed);
          keeps = omega (arith, i.keeps, ap kept_in w);
          skips = omega (arith, i.skips, ap skipped_in w);
          upto = omega (arith, p.ends, ahead_long);
          left = rw p.ends (left_is (clean_of l) R T to i.upto ahead);
          buffer = p.leaves ∙ rw p.ends (buffer_is (clean_of l) R T to i.upto ahead out₀ out i.buffer);
          long = el ∙ i.long;
          gaps_upto = i.gaps_upto;
          gaps_left = i.gaps_left ∙ ap (gaps_from in_gap) w;
          told = i.told;
        }

  -- a byte is skipped
  module _ (h : at < length l) (e : record_at l at ≡ None) where
    v : walk_from l at ≡ S.Skipped at ∷ walk_from l (at + 1)
    v = walk_skipped l at h e

    -- in a gap
    pub skip : in_gap ≡ true → Along l out₀ out places (at + 1) to kept (skipped + 1) gaps true
    skip q = record {
      within = omega arith;
      kept_few = omega (arith, i.kept_few);
      skipped_few = omega (arith, i.skipped_few);
      gaps_few = omega (arith, i.gaps_few);
      to_few = omega (arith, i.to_few);
      keeps = omega (arith, i.keeps, ap kept_in v);
      skips = omega (arith, i.skips, ap skipped_in v);
      upto = i.upto;
      left = i.left ∙ ap (records_in l) v;
      buffer = i.buffer;
      long = i.long;
      gaps_upto = i.gaps_upto;
      gaps_left = i.gaps_left ∙ ap (gaps_from in_gap) v ∙ rw q;
      told = i.told;
    }

    module _ (q : in_gap ≡ false) where
      found : List ℕ
      found = take gaps (gaps_in (walk_of l))

      next : drop gaps (gaps_in (walk_of l)) ≡ (at ∷ []) ++ gaps_from true (walk_from l (at + 1))
      next = i.gaps_left ∙ ap (gaps_from in_gap) v ∙ rw q

      found_long : length found ≡ gaps
      unfolding found
      found_long = length-take-le gaps (gaps_in (walk_of l)) i.gaps_upto

      found_more : take (gaps + 1) (gaps_in (walk_of l)) ≡ found ++ at ∷ []
      unfolding found
      found_more = more_is (gaps_in (walk_of l)) (at ∷ []) (gaps_from true (walk_from l (at + 1))) gaps i.gaps_upto next

      -- a gap starts
      begin : (places' : List ℕ) → places' ≡ noted 32 (replicate 32 0) (found ++ at ∷ []) →
          Along l out₀ out places' (at + 1) to kept (skipped + 1) (gaps + 1) true
      begin places' p =
          let G = gaps_in (walk_of l) in
          let T = gaps_from true (walk_from l (at + 1)) in
          record {
            within = omega arith;
            kept_few = omega (arith, i.kept_few);
            skipped_few = omega (arith, i.skipped_few);
            gaps_few = omega (arith, i.gaps_few);
            to_few = omega (arith, i.to_few);
            keeps = omega (arith, i.keeps, ap kept_in v);
            skips = omega (arith, i.skips, ap skipped_in v);
            upto = i.upto;
            left = i.left ∙ ap (records_in l) v;
            buffer = i.buffer;
            long = i.long;
            gaps_upto = omega (arith, left_long G (at ∷ []) T gaps i.gaps_upto next);
            gaps_left = left_is G (at ∷ []) T gaps i.gaps_upto next;
            told = p ∙ sym (places_noted (found ++ at ∷ [])) ∙ ap places_of (sym found_more);
          }

      old : places ≡ noted 32 (replicate 32 0) found
      unfolding found
      old = i.told ∙ places_noted (take gaps (gaps_in (walk_of l)))

      -- its place is told
      pub begin_told : gaps < 32 → Along l out₀ out (set places gaps at) (at + 1) to kept (skipped + 1) (gaps + 1) true
      begin_told few =
          begin (set places gaps at)
          (ap (λ (p : List ℕ). set p gaps at) old
          ∙ ap (λ (n : ℕ). set (noted 32 (replicate 32 0) found) n at) (sym found_long)
          ∙ note 32 at (replicate 32 0) found refl (omega (arith, found_long)))

      -- or is not
      pub begin_untold : 32 ≤ gaps → Along l out₀ out places (at + 1) to kept (skipped + 1) (gaps + 1) true
      begin_untold many = begin places (old ∙ unnoted 32 at (replicate 32 0) found refl (omega (arith, found_long)))

  -- the walk has ended
  module _ (h : length l ≤ at) where
    none : walk_from l at ≡ []
    none = walk_end l at h

    all_kept : kept ≡ kept_in (walk_of l)
    all_kept = omega (arith, i.keeps, ap kept_in none)

    all_skipped : skipped ≡ skipped_in (walk_of l)
    all_skipped = omega (arith, i.skips, ap skipped_in none)

    all_written : to ≡ length (clean_of l)
    all_written = omega (arith, i.upto, simp length-drop at (ap length (i.left ∙ ap (records_in l) none)))

    all_gaps : gaps ≡ length (gaps_in (walk_of l))
    all_gaps = omega (arith, i.gaps_upto, simp length-drop at (ap length (i.gaps_left ∙ ap (gaps_from in_gap) none)))

    all_places : places ≡ places_of (gaps_in (walk_of l))
    all_places = i.told ∙ rw all_gaps (ap places_of (take-length (gaps_in (walk_of l))))

    pub reported : ◌≡◌ {A = Salvaged} (record { kept = kept; skipped = skipped; gaps = gaps; places = places; len = to }) (report_of l (walk_of l))
    unfolding clean_of
    reported =
        λ j. record { kept = all_kept j; skipped = all_skipped j; gaps = all_gaps j; places = all_places j; len = all_written j }

    pub whole_buffer : out ≡ clean_of l ++ drop (length (clean_of l)) out₀
    whole_buffer = i.buffer ∙ rw (all_written, take-length)
