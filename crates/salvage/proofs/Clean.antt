-- The clean list is a whole one by the cookie list's own reader, and its cookies are those of the records kept.
-- Assumes nothing.
use Prim.Native.Nat.{ℕ, ◌+◌, ◌-◌, ◌≤◌}
use mathlib.Core.Path.{◌≡◌, refl, ◌∙◌}
use mathlib.Core.List.{List, ◌++◌}
use native.Mathlib.Omega.{arith}
use lib.ListN.{length, drop}
use lib.Seq.{take_at}
use Rattle.words.specs.Bytes.{part}
use Rattle.words.specs.Put.{record_of}
use Rattle.words.proofs.Bytes.{Bytes, length_part}
use Rattle.words.proofs.Put.{record_long}
use Rattle.cookielist.specs.List.{AllShort, list_of, cookies_in, whole}
use Rattle.cookielist.proofs.Reader.{Placed, placed}
use Rattle.cookielist.proofs.RoundTrip.{record_again, short_again, list_read}
use Rattle.salvage.specs.declared.Step.{Step}
use Rattle.salvage.specs.Walk.{walk_from, walk_of}
use Rattle.salvage.specs.Salvage.{records_in, cookies_kept, clean_of}
use Rattle.salvage.proofs.Walks.{KeptAt, walk_induction}

-- a record that is kept is that of its cookie
module _ (l : List ℕ) (bytes : Bytes l) (at end : ℕ) (k : KeptAt l at end) where
  place : Placed l at k.start end
  place = placed l at k.start end k.entry

  cookie : List ℕ
  cookie = part l (at + 4) (end - (at + 4))

  cookie_is : part l k.start (end - k.start) ≡ cookie
  unfolding cookie
  cookie_is = rw place.starts

  whole_long : length (record_of 0xC00E cookie) ≡ end - at
  unfolding cookie
  whole_long = record_long 0xC00E cookie ∙ omega (arith, k.headed, k.within, length_part l (at + 4) (end - (at + 4)) (omega (arith, k.headed, k.within)))

  record_is : part l at (end - at) ≡ record_of 0xC00E cookie
  unfolding part
  record_is =
      let again : record_of 0xC00E cookie ++ drop end l ≡ drop at l = rw cookie_is at (record_again l bytes at k.start end place) in
      rw (← again) (take_at (record_of 0xC00E cookie) (drop end l) (end - at) whole_long)

  cookie_short : length cookie ≤ 65535
  cookie_short = rw cookie_is at (short_again l bytes at k.start end place)

-- what is written from an offset of the walk on is the list of the cookies kept, and each is short
record Written (l : List ℕ) (w : List Step) : Type 0 where
  same : records_in l w ≡ list_of (cookies_kept l w)
  short : AllShort (cookies_kept l w)

written : (l : List ℕ) → Bytes l → (at : ℕ) → at ≤ length l → Written l (walk_from l at)
unfolding cookie
written l bytes =
    walk_induction l (λ at w. Written l w)
    (record { same = refl; short = tt })
    (λ at end k behind. record {
      same = rw (record_is l bytes at end k, behind.same);
      short = (cookie_short l bytes at end k, behind.short);
    })
    (λ at h e behind. record { same = behind.same; short = behind.short })

-- promise: no9.3 (the list's own reader finds it whole, with the cookies of the records kept)
pub clean_whole : (l : List ℕ) → Bytes l → cookies_in (clean_of l) ≡ whole (cookies_kept l (walk_of l))
unfolding clean_of
clean_whole l bytes =
    let w = written l bytes 0 (omega arith) in
    rw w.same (list_read (cookies_kept l (walk_of l)) w.short)
