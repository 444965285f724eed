-- A list without damage comes out byte for byte, with no gap, and its cookies are those of the records kept.
-- Assumes nothing.
use Prim.Native.Nat.{ℕ, ◌+◌, ◌-◌, ◌≤◌, ◌<◌}
use mathlib.Core.Path.{◌≡◌, refl, sym, ◌∙◌}
use mathlib.Core.Bool.{Bool, true, false, cond}
use mathlib.Core.List.{List, []}
use native.Mathlib.Omega.{arith}
use borrow.Author.Tests.{le-leb, eq-eqb, ne_eqb}
use lib.ListN.{length, drop}
use lib.Seq.{drop-length}
use Rattle.words.proofs.Bytes.{part_drop}
use Rattle.cookielist.specs.List.{record_mark_at, entry_at, is_whole, whole, cookies_from, cookies_in}
use Rattle.cookielist.specs.declared.Entry.{Entry}
use Rattle.cookielist.specs.declared.Entry.TheVariants.{Cookie, End, Broken}
use Rattle.cookielist.proofs.Reader.{placed, ended, read_cookie, read_end, whole_cookie, whole_broken}
use Rattle.cookielist.proofs.RoundTrip.{entry_end}
use Rattle.std.specs.Prelude.{Some, None}
use Rattle.salvage.specs.declared.Step.{Step}
use Rattle.salvage.specs.Walk.{mark_at, followed, on_entry, record_at, walk_from, walk_of}
use Rattle.salvage.specs.Salvage.{skipped_in, gaps_from, gaps_in, records_in, cookies_kept, clean_of}
use Rattle.salvage.proofs.Walks.{walk_induction}

module _ (l : List ℕ) where
  -- where a whole list goes on, there is the end or a mark
  goes_on : (end : ℕ) → end ≤ length l → is_whole (cookies_from l end) ≡ true → (e : Entry) → entry_at l end ≡ e → followed l end ≡ true
  unfolding followed mark_at
  goes_on end h t (Cookie start to) p =
      let w = placed l end start to p in
      simp (
        ne_eqb end (length l) (λ q. omega (arith, w.starts, w.ends, w.within)),
        le-leb (end + 2) (length l) (omega (arith, w.starts, w.ends, w.within)),
        eq-eqb (record_mark_at l end) 0xC00E w.mark,
      )
  goes_on end h t End p = simp (eq-eqb end (length l) (ended l end h p))
  goes_on end h t Broken p = let f = sym (whole_broken l end p) ∙ t in cc

  -- so that no byte of it is skipped
  never : (b : Bool) (end : ℕ) → b ≡ true → cond b (Some end) None ≡ None → ⊥
  never true end t q = let z : ◌≡◌ {A = ℕ} 0 1 = cc in omega arith
  never false end t q = let z : ◌≡◌ {A = ℕ} 0 1 = cc in omega arith

  unskipped : (at : ℕ) → at < length l → is_whole (cookies_from l at) ≡ true → (e : Entry) → entry_at l at ≡ e → on_entry l e ≡ None → ⊥
  unskipped at h t (Cookie start end) p q =
      let w = placed l at start end p in
      never (followed l end) end (goes_on end w.within (sym (whole_cookie l at start end p) ∙ t) (entry_at l end) refl) q
  unskipped at h t End p q = let z = ended l at (omega arith) p in omega arith
  unskipped at h t Broken p q = let f = sym (whole_broken l at p) ∙ t in let z : ◌≡◌ {A = ℕ} 0 1 = cc in omega arith

  none_skipped : (at : ℕ) → at < length l → is_whole (cookies_from l at) ≡ true → record_at l at ≡ None → ⊥
  unfolding record_at
  none_skipped at h t q = unskipped at h t (entry_at l at) refl q

-- what a walk with nothing skipped reports
pub record Same (l : List ℕ) (at : ℕ) (w : List Step) : Type 0 where
  pub records : records_in l w ≡ drop at l
  pub skips : skipped_in w ≡ 0
  pub gaps : gaps_from false w ≡ []
  pub cookies : cookies_from l at ≡ whole (cookies_kept l w)

same_from : (l : List ℕ) (at : ℕ) → at ≤ length l → is_whole (cookies_from l at) ≡ true → Same l at (walk_from l at)
same_from l =
    walk_induction l (λ at w. is_whole (cookies_from l at) ≡ true → Same l at w)
    (λ t. record { records = sym (drop-length l); skips = refl; gaps = refl; cookies = read_end l (length l) (entry_end l (length l) refl) })
    (λ at end k behind t.
    let g = behind (sym (whole_cookie l at k.start end k.entry) ∙ t) in
    let p = placed l at k.start end k.entry in
    let n : at + (end - at) ≡ end = omega (arith, k.headed) in
    record {
      records = rw g.records (rw n at (part_drop l at (end - at)));
      skips = g.skips;
      gaps = g.gaps;
      cookies = read_cookie l at k.start end k.entry ∙ rw (g.cookies, p.starts);
    })
    (λ at h e behind t. absurd (none_skipped l at h t e))

pub same : (l : List ℕ) → is_whole (cookies_in l) ≡ true → Same l 0 (walk_of l)
unfolding cookies_in
same l t = same_from l 0 (omega arith) t

-- THE LAW of a list without damage
-- promise: no9.4
pub undamaged : (l : List ℕ) → is_whole (cookies_in l) ≡ true → (clean_of l ≡ l) × (skipped_in (walk_of l) ≡ 0) × (gaps_in (walk_of l) ≡ [])
unfolding clean_of
undamaged l t = let s = same l t in (s.records, s.skips, s.gaps)
