-- 70 is answered exactly where the buffer is shorter than the input, and nothing is written then; else the clean list stands at the buffer's start, and the
-- bytes past it are untouched.
-- Assumes nothing.
use Prim.Native.Nat.{ℕ, ◌≤◌, ◌<◌}
use mathlib.Core.Path.{◌≡◌, refl, sym, ◌∙◌}
use mathlib.Core.Bool.{Bool, true, false, cond}
use mathlib.Core.List.{List, ◌++◌}
use mathlib.Core.Logic.{◌↔◌}
use native.Mathlib.Omega.{arith}
use borrow.Author.Tests.{ltb-true, lt-ltb, le-ltb}
use lib.Dec.{ltb}
use lib.ListN.{length, take, drop}
use lib.Seq.{take_at, drop_at}
use Rattle.salvage.specs.Walk.{walk_of}
use Rattle.std.specs.Prelude.{Ok, Err}
use Rattle.salvage.specs.declared.Salvaged.{Salvaged}
use Rattle.salvage.specs.declared.SalvageRefusal.TheVariants.{ShortBuffer}
use Rattle.salvage.specs.Salvage.{report_of, clean_of, salvage_of, buffer_of, number_of}

short : (l : List ℕ) (room : ℕ) (b : Bool) → ltb room (length l) ≡ b → number_of (cond b (Err ShortBuffer) (Ok (report_of l (walk_of l)))) ≡ 70 →
    room < length l
short l room true e q = ltb-true room (length l) e
short l room false e q = absurd (omega arith)

-- promise: no9.7
pub refused_exactly : (l : List ℕ) (room : ℕ) → (number_of (salvage_of l room) ≡ 70) ↔ (room < length l)
unfolding salvage_of
refused_exactly l room = (short l room (ltb room (length l)) refl, λ h. rw (lt-ltb room (length l) h))

-- where it is refused, nothing is written
-- promise: no9.7, demand.1
pub refused_buffer : (l out : List ℕ) → length out < length l → buffer_of l out ≡ out
unfolding buffer_of
refused_buffer l out h = rw (lt-ltb (length out) (length l) h)

module _ (l out : List ℕ) (h : length l ≤ length out) where
  is : buffer_of l out ≡ clean_of l ++ drop (length (clean_of l)) out
  unfolding buffer_of
  is = rw (le-ltb (length out) (length l) h)

  -- else the report is the walk's
  -- promise: no9.7
  pub done_report : salvage_of l (length out) ≡ Ok (report_of l (walk_of l))
  unfolding salvage_of
  done_report = rw (le-ltb (length out) (length l) h)

  reported : (s : Salvaged) → salvage_of l (length out) ≡ Ok s → s ≡ report_of l (walk_of l)
  reported s e = let same = sym e ∙ done_report in cc

  -- and as many bytes of the buffer as it says are the clean list
  -- promise: no9.7
  pub done_list : (s : Salvaged) → salvage_of l (length out) ≡ Ok s → take s.len (buffer_of l out) ≡ clean_of l
  unfolding clean_of
  done_list s e = rw (reported s e, is) (take_at (clean_of l) (drop (length (clean_of l)) out) (length (clean_of l)) refl)

  -- with those past them untouched
  -- promise: no9.7
  pub done_past : (s : Salvaged) → salvage_of l (length out) ≡ Ok s → drop s.len (buffer_of l out) ≡ drop s.len out
  unfolding clean_of
  done_past s e = rw (reported s e, is) (drop_at (clean_of l) (drop (length (clean_of l)) out) (length (clean_of l)) refl)
