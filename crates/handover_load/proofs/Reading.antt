-- What the loop over the cookies of a stash's body keeps: the stash that comes of them.
-- Assumes nothing.
use Prim.Native.Nat.{ℕ, ◌+◌, ◌-◌, ◌≤◌, ◌<◌}
use mathlib.Core.Path.{◌≡◌, sym, ap, subst, ◌∙◌}
use mathlib.Core.Bool.{true, ◌&&◌}
use mathlib.Core.List.{List, ◌∷◌, ◌++◌}
use native.Mathlib.Omega.{arith}
use borrow.Author.Tests.{ltb-true, leb-true}
use lib.Dec.{ltb, leb}
use lib.ListN.{length, get_or, take, replicate}
use lib.Seq.{take_all}
use Rattle.words.proofs.Tests.{both}
use Rattle.cookiestash.specs.declared.CookieStash.{CookieStash}
use Rattle.cookiestash.specs.Stash.{stored, slot_of, new_of, put_of}
use Rattle.cookiestash.specs.Queue.{Cookie}
use Rattle.cookiestash.proofs.Stored.{stored_all, stored_bounds}
use Rattle.handover_file.specs.Cookies.{stash_fits, held_in, stash_known, slot_for, empty_at, laid_in, stash_of}
use Rattle.handover_file.specs.Steps.{cookie}
use Rattle.handover_file.specs.Given.{given_in}
use Rattle.handover_file.proofs.Cookies.{put_held}
use Rattle.handover_file.proofs.Given.{given_held}

-- the slot's bytes of a cookie as it was kept
pub kept_is : (len : ℕ) (c : List ℕ) → length c ≡ stored len → (slot_of c).bytes ≡ (slot_for (cookie len c)).bytes
unfolding slot_of slot_for
kept_is len c n =
    let s : stored (length c) ≡ stored len = stored_all (length c) (omega (arith, stored_bounds len)) ∙ n in
    ap (λ (k : ℕ). take k c ++ replicate (724 - k) 0) s ∙ ap (λ (l : List ℕ). l ++ replicate (724 - stored len) 0) (take_all (stored len) c (omega arith))

-- cookies that are still to be laid behind a stash, and what they make
pub record Laying (cap : ℕ) (cs : List Cookie) (s : CookieStash) (made : CookieStash) : Type 0 where
  pub most : cap ≤ 8
  pub reads : s.read < cap
  pub room : s.held + length cs ≤ cap
  pub makes : laid_in cap s cs ≡ made

pub lays_one : (cap : ℕ) (c : Cookie) (cs : List Cookie) (s made : CookieStash) → Laying cap (c ∷ cs) s made → Laying cap cs (put_of cap s (slot_for c)) made
lays_one cap c cs s made l =
    let p = put_held cap s (slot_for c) (omega (arith, l.room)) in
    record { most = l.most; reads = omega (arith, p.0, l.reads); room = omega (arith, p.1, l.room); makes = l.makes }

-- all cookies of a body are still to be laid behind an empty stash with its reading place
pub lays_all : (cap : ℕ) (b : List ℕ) → stash_fits b ≡ true → stash_known cap b ≡ true → Laying cap (given_in b) (empty_at (get_or b 0 0)) (stash_of cap b)
unfolding stash_known stash_of empty_at
lays_all cap b f k =
    let q = both (leb cap 8) (ltb (get_or b 0 0) cap && leb (length (held_in b)) cap) k in
    let r = both (ltb (get_or b 0 0) cap) (leb (length (held_in b)) cap) q.1 in
    let n = ap length (given_held b f) in
    record {
      most = leb-true cap 8 q.0;
      reads = ltb-true (get_or b 0 0) cap r.0;
      room = omega (arith, leb-true (length (held_in b)) cap r.1, n);
      makes = ap (laid_in cap (empty_at (get_or b 0 0))) (given_held b f);
    }

-- an empty stash with its place set
pub begun : (cap : ℕ) (b : List ℕ) → stash_fits b ≡ true → stash_known cap b ≡ true → (cs : List Cookie) (n : CookieStash) (r : ℕ) → cs ≡ given_in b
    → n ≡ new_of → r ≡ get_or b 0 0 → Laying cap cs (record { slots = n.slots; read = r; held = n.held }) (stash_of cap b)
unfolding new_of empty_at
begun cap b f k cs n r g e p =
    subst (λ (m : CookieStash). Laying cap cs (record { slots = m.slots; read = r; held = m.held }) (stash_of cap b)) (sym e)
    (subst (λ (x : ℕ). Laying cap cs (record { slots = new_of.slots; read = x; held = 0 }) (stash_of cap b)) (sym p)
    (subst (λ (ds : List Cookie). Laying cap ds (empty_at (get_or b 0 0)) (stash_of cap b)) (sym g) (lays_all cap b f k)))
