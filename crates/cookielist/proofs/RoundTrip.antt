-- The writer and the reader of a cookie list undo each other: a written list is read as its cookies, and the cookies of a whole list written again are the
-- list.
-- Assumes nothing.
use Prim.Native.Nat.{ℕ, ◌+◌, ◌-◌, ◌≤◌}
use mathlib.Core.Path.{◌≡◌, refl, sym, ap, ◌∙◌}
use mathlib.Core.List.{List, [], ◌∷◌, ◌++◌}
use native.Mathlib.Nat.{add-sub_cancel_left}
use native.Mathlib.Omega.{arith}
use borrow.Author.Tests.{le-ltb, eq-eqb, ne_eqb}
use lib.ListN.{length, drop, length-drop}
use lib.Seq.{drop-length}
use Rattle.words.specs.Bytes.{part}
use Rattle.words.specs.Put.{record_of}
use Rattle.words.proofs.Records.{ReadBack, read_back, body_short, write_back}
use Rattle.words.proofs.Bytes.{Bytes}
use Rattle.cookielist.specs.declared.Entry.{Entry}
use Rattle.cookielist.specs.declared.Entry.TheVariants.{Cookie, End, Broken}
use Rattle.cookielist.specs.List.{
  AllShort,
  list_of,
  record_mark_at,
  length_at,
  entry_at,
  Listed,
  whole,
  broken,
  before,
  cookies_from,
  cookies_in,
}
use Rattle.cookielist.proofs.Reader.{Placed, placed, ended, read_cookie, read_end, read_broken}

-- ---- what is written is read

pub entry_end : (l : List ℕ) (at : ℕ) → at ≡ length l → entry_at l at ≡ End
unfolding entry_at
entry_end l at e = simp (le-ltb (length l) at (omega arith), eq-eqb (length l - at) 0 (omega arith))

entry_cookie : (l : List ℕ) (at n : ℕ) → at + 4 + n ≤ length l → record_mark_at l at ≡ 0xC00E → length_at l at ≡ n →
    entry_at l at ≡ Cookie (at + 4) (at + 4 + n)
unfolding entry_at
entry_cookie l at n h m e =
    simp (
      le-ltb (length l) at (omega arith),
      ne_eqb (length l - at) 0 (λ q. omega arith),
      le-ltb (length l - at) 4 (omega arith),
      eq-eqb (record_mark_at l at) 0xC00E m,
      e,
      le-ltb (length l - at - 4) n (omega arith),
    )

-- a cookie's record at an offset
module _ (l c rest : List ℕ) (at : ℕ) (short : length c ≤ 65535) (here : drop at l ≡ record_of 0xC00E c ++ rest) where
  there : ReadBack l 0xC00E c rest at
  there = read_back l 0xC00E c rest at (omega arith) short here

  read_record : cookies_from l at ≡ before c (cookies_from l (at + 4 + length c))
  unfolding record_mark_at length_at
  read_record =
      read_cookie l at (at + 4) (at + 4 + length c) (entry_cookie l at (length c) (omega (arith, there.long)) there.mark there.len)
      ∙ rw (add-sub_cancel_left, there.body)

written : (cs : List (List ℕ)) → AllShort cs → (l : List ℕ) (at : ℕ) → at ≤ length l → drop at l ≡ list_of cs → cookies_from l at ≡ whole cs
written [] short l at h e = read_end l at (entry_end l at (omega (arith, simp length-drop at (ap length e))))
written (c ∷ cs) short l at h e =
    let w = there l c (list_of cs) at short.0 e in
    let next = written cs short.1 l (at + 4 + length c) (omega arith) w.behind in
    rw (read_record l c (list_of cs) at short.0 e, next)

-- promise: 3.12
pub list_read : (cs : List (List ℕ)) → AllShort cs → cookies_in (list_of cs) ≡ whole cs
unfolding cookies_in
list_read cs short = written cs short (list_of cs) 0 (omega arith) refl

-- promise: 3.12
pub empty_list : cookies_in [] ≡ whole []
empty_list = list_read [] tt

-- ---- what is read is written again

module _ (l : List ℕ) (bytes : Bytes l) (at start end : ℕ) (w : Placed l at start end) where
  body_is : part l (at + 4) (length_at l at) ≡ part l start (end - start)
  body_is =
      let n : length_at l at ≡ end - start = omega (arith, w.starts, w.ends) in
      rw (n, w.starts)

  within : at + 4 + length_at l at ≤ length l
  within = omega (arith, w.starts, w.ends, w.within)

  pub short_again : length (part l start (end - start)) ≤ 65535
  unfolding record_mark_at length_at
  short_again = rw (← body_is) (body_short l bytes at 0xC00E (length_at l at) w.mark refl within)

  pub record_again : record_of 0xC00E (part l start (end - start)) ++ drop end l ≡ drop at l
  unfolding record_mark_at length_at
  record_again =
      let e : at + 4 + length_at l at ≡ end = omega (arith, w.starts, w.ends) in
      (λ i. record_of 0xC00E (sym body_is i) ++ drop (sym e i) l) ∙ write_back l bytes at 0xC00E (length_at l at) w.mark refl within

-- the cookies that are read from an offset on are, written again, the bytes from there on; and each is short
record Again (l : List ℕ) (at : ℕ) (cs : List (List ℕ)) : Type 0 where
  same : list_of cs ≡ drop at l
  short : AllShort cs

before_none : (c : List ℕ) (r : Listed) → before c r ≡ whole [] → ⊥
before_none c (whole cs) e = let z : ◌≡◌ {A = ℕ} 0 1 = cc in omega arith
before_none c broken e = let z : ◌≡◌ {A = ℕ} 0 1 = cc in omega arith

before_some : (b c : List ℕ) (r : Listed) (cs : List (List ℕ)) → before b r ≡ whole (c ∷ cs) → (b ≡ c) × (r ≡ whole cs)
before_some b c (whole ds) cs e = (cc, cc)
before_some b c broken cs e = let z : ◌≡◌ {A = ℕ} 0 1 = cc in absurd (omega arith)

nothing_again : (l : List ℕ) (at : ℕ) → at ≤ length l → (e : Entry) → entry_at l at ≡ e → cookies_from l at ≡ whole [] → Again l at []
nothing_again l at h (Cookie start end) p q = absurd (before_none (part l start (end - start)) (cookies_from l end) (sym (read_cookie l at start end p) ∙ q))
nothing_again l at h End p q = record { same = sym (rw (ended l at h p) (drop-length l)); short = tt }
nothing_again l at h Broken p q = let f = sym (read_broken l at p) ∙ q in let z : ◌≡◌ {A = ℕ} 0 1 = cc in absurd (omega arith)

cookie_again : (l : List ℕ) → Bytes l → (at : ℕ) (c : List ℕ) (cs : List (List ℕ)) →
    ((end : ℕ) → end ≤ length l → cookies_from l end ≡ whole cs → Again l end cs)
    → (e : Entry) → entry_at l at ≡ e → cookies_from l at ≡ whole (c ∷ cs) → Again l at (c ∷ cs)
cookie_again l bytes at c cs later (Cookie start end) p q =
    let w = placed l at start end p in
    let g = before_some (part l start (end - start)) c (cookies_from l end) cs (sym (read_cookie l at start end p) ∙ q) in
    let n = later end w.within g.1 in
    record {
      same = rw (← g.0, n.same) (record_again l bytes at start end w);
      short = (rw (← g.0) (short_again l bytes at start end w), n.short);
    }
cookie_again l bytes at c cs later End p q = let f = sym (read_end l at p) ∙ q in let z : ◌≡◌ {A = ℕ} 0 1 = cc in absurd (omega arith)
cookie_again l bytes at c cs later Broken p q = let f = sym (read_broken l at p) ∙ q in let z : ◌≡◌ {A = ℕ} 0 1 = cc in absurd (omega arith)

again : (cs : List (List ℕ)) (l : List ℕ) → Bytes l → (at : ℕ) → at ≤ length l → cookies_from l at ≡ whole cs → Again l at cs
again [] l bytes at h e = nothing_again l at h (entry_at l at) refl e
again (c ∷ cs) l bytes at h e = cookie_again l bytes at c cs (λ end k p. again cs l bytes end k p) (entry_at l at) refl e

module _ (l : List ℕ) (bytes : Bytes l) (cs : List (List ℕ)) (e : cookies_in l ≡ whole cs) where
  -- promise: 3.12
  pub list_written : list_of cs ≡ l
  unfolding cookies_in
  list_written = (again cs l bytes 0 (omega arith) e).same

  pub list_short : AllShort cs
  unfolding cookies_in
  list_short = (again cs l bytes 0 (omega arith) e).short
