-- The cookies of a body, laid into rows.
-- Assumes nothing.
use Prim.Native.Nat.{ℕ, ◌-◌, ◌≤◌, ◌<◌}
use mathlib.Core.Path.{◌≡◌, refl, sym, subst, ◌∙◌}
use mathlib.Core.Bool.{true}
use mathlib.Core.List.{List, [], ◌∷◌, ◌++◌}
use native.Mathlib.Omega.{arith}
use borrow.Author.Tests.{le-leb, lt-ltb, ltb-true, leb-true}
use lib.Dec.{ltb, leb}
use lib.ListN.{length, get_or, replicate}
use Rattle.words.proofs.Tests.{both, passes}
use Rattle.cookiestash.specs.declared.Slot.{Slot}
use Rattle.cookiestash.specs.declared.CookieStash.{CookieStash}
use Rattle.cookiestash.specs.Stash.{stored, range_of, put_of}
use Rattle.cookiestash.specs.Queue.{Cookie}
use Rattle.handover_file.specs.Cookies.{stash_fits, stash_known, slot_for, empty_at, stash_of}
use Rattle.handover_file.specs.Steps.{cookie}
use Rattle.handover_file.specs.Given.{given_in}
use Rattle.handover_load.proofs.Reading.{Laying, lays_one, lays_all}
use Rattle.record_stash.specs.Rows.{stash_in, Sized}
use Rattle.record_stash.specs.Slots.{Becomes, LaidIn, kept_slot}
use Rattle.record_stash.proofs.Change.{same}

-- ---- a cookie behind the newest

-- the slot that the file's reader lays, and the one that a row gets
pub slot_kept : (len : ℕ) (kept : List ℕ) → length kept ≡ stored len → kept_slot len kept ≡ slot_for (cookie len kept)
unfolding kept_slot slot_for
slot_kept len kept e = λ i. record { bytes = kept ++ replicate (724 - e i) 0; len = len }

-- ---- the cookies of a body

pub known_most : (cap : ℕ) (b : List ℕ) → stash_known cap b ≡ true → (cap ≤ 8) × (get_or b 0 0 < cap)
unfolding stash_known
known_most cap b k = let p = both (leb cap 8) _ k in (leb-true cap 8 p.0, ltb-true (get_or b 0 0) cap (both (ltb (get_or b 0 0) cap) _ p.1).0)

-- the cookies cs are still to be laid into the rows
pub record Along (cap : ℕ) (cs : List Cookie) (made : CookieStash) (b₀ b : List ℕ) : Type 0 where
  pub laying : Laying cap cs (stash_in b cap) made
  pub kept : Becomes cap b₀ b (stash_in b cap)
  pub long : length b ≡ length b₀

pub begins : (cap : ℕ) (body b : List ℕ) → Sized b cap → stash_fits body ≡ true → stash_known cap body ≡ true →
    stash_in b cap ≡ empty_at (get_or body 0 0) → Along cap (given_in body) (stash_of cap body) b b
begins cap body b s f k e =
    record {
      laying = subst (λ (t : CookieStash). Laying cap (given_in body) t (stash_of cap body)) (sym e) (lays_all cap body f k);
      kept = same cap b s;
      long = refl;
    }

module _ (cap : ℕ) (c : Cookie) (cs : List Cookie) (made : CookieStash) (b₀ b : List ℕ) (o : Along cap (c ∷ cs) made b₀ b) where
  ranged : range_of cap (get_or b 27 0) (get_or b 28 0) ≡ true
  unfolding stash_in
  ranged =
      passes _ (le-leb cap 8 o.laying.most) ∙ passes _ (lt-ltb (get_or b 27 0) cap o.laying.reads)
      ∙ le-leb (get_or b 28 0) cap (omega (arith, o.laying.room))

  pub goes_on : length c.bytes ≡ stored c.len → (d : List ℕ) → LaidIn cap c.len c.bytes b d → length d ≡ length b → Along cap cs made b₀ d
  goes_on n d l m =
      let g : Becomes cap b d (put_of cap (stash_in b cap) (slot_for c)) = subst (λ (x : Slot). Becomes cap b d (put_of cap (stash_in b cap) x))
      (slot_kept c.len c.bytes n) (l.becomes o.kept.sized ranged n) in
      record {
        laying = subst (λ (t : CookieStash). Laying cap cs t made) (sym g.stash) (lays_one cap c cs (stash_in b cap) made o.laying);
        kept = record { stash = refl; settings = g.settings ∙ o.kept.settings; state = g.state ∙ o.kept.state; sized = g.sized };
        long = m ∙ o.long;
      }

pub ends : (cap : ℕ) (made : CookieStash) (b₀ b : List ℕ) → Along cap [] made b₀ b → Becomes cap b₀ b made
ends cap made b₀ b o = subst (Becomes cap b₀ b) o.laying.makes o.kept
