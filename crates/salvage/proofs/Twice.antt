-- Salvage twice equals salvage once: the second run keeps everything, finds no gap, and gives the same list.
-- Assumes nothing.
use Prim.Native.Nat.{ℕ, suc, ◌≤◌}
use mathlib.Core.Path.{◌≡◌, refl, sym, ap, ◌∙◌}
use mathlib.Core.Bool.{true}
use mathlib.Core.List.{List, [], ◌∷◌}
use borrow.Author.Tests.{le-ltb}
use lib.ListN.{length, replicate}
use Rattle.words.proofs.Bytes.{Bytes}
use Rattle.cookielist.specs.List.{is_whole, cookies_in}
use Rattle.std.specs.Prelude.{Ok}
use Rattle.salvage.specs.declared.Step.{Step}
use Rattle.salvage.specs.declared.Step.TheVariants.{Kept, Skipped}
use Rattle.salvage.specs.declared.Salvaged.{Salvaged}
use Rattle.salvage.specs.Walk.{walk_of}
use Rattle.salvage.specs.Salvage.{kept_in, places_of, cookies_kept, clean_of, report_of, salvage_of}
use Rattle.salvage.proofs.Clean.{clean_whole}
use Rattle.salvage.proofs.Undamaged.{same, undamaged}

-- as many records are kept as cookies
kept_count : (l : List ℕ) (w : List Step) → length (cookies_kept l w) ≡ kept_in w
kept_count l [] = refl
kept_count l (Kept start end ∷ w) = ap suc (kept_count l w)
kept_count l (Skipped at ∷ w) = kept_count l w

module _ (l : List ℕ) (bytes : Bytes l) where
  all : is_whole (cookies_in (clean_of l)) ≡ true
  all = rw (clean_whole l bytes)

  -- promise no9.6: Salvage twice equals salvage once.
  -- promise: no9.6 (the same list)
  pub clean_twice : clean_of (clean_of l) ≡ clean_of l
  clean_twice = (undamaged (clean_of l) all).0

  -- promise: no9.6
  pub same_cookies : cookies_kept (clean_of l) (walk_of (clean_of l)) ≡ cookies_kept l (walk_of l)
  unfolding cookies_in
  same_cookies = let s = same (clean_of l) all in let a = s.cookies in let b = clean_whole l bytes in cc

  kept_twice : kept_in (walk_of (clean_of l)) ≡ kept_in (walk_of l)
  kept_twice = sym (kept_count (clean_of l) (walk_of (clean_of l))) ∙ ap length same_cookies ∙ kept_count l (walk_of l)

  second : Salvaged
  second = record { kept = kept_in (walk_of l); skipped = 0; gaps = 0; places = replicate 32 0; len = length (clean_of l) }

  report_twice : report_of (clean_of l) (walk_of (clean_of l)) ≡ second
  unfolding clean_of places_of second
  report_twice =
      let u = undamaged (clean_of l) all in
      λ j. record { kept = kept_twice j; skipped = u.1 j; gaps = ap length u.2 j; places = ap places_of u.2 j; len = ap length clean_twice j }

  -- THE LAW of the second run, in any buffer that is not shorter than the clean list
  -- promise: no9.6 (the second report: as many kept, none skipped, no gap)
  pub salvage_twice : (room : ℕ) → length (clean_of l) ≤ room → salvage_of (clean_of l) room
      ≡ Ok (record { kept = kept_in (walk_of l); skipped = 0; gaps = 0; places = replicate 32 0; len = length (clean_of l) })
  unfolding salvage_of second
  salvage_twice room h = rw (le-ltb room (length (clean_of l)) h) (ap Ok report_twice)
