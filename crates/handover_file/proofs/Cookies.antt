-- The stash's body: its cookies are read as they were written, and a whole stash is what its reading place and its cookies make.
-- Assumes nothing.
use Prim.Native.Nat.{ℕ, zero, suc, ◌+◌, ◌-◌, ◌*◌, ◌^◌, ◌≤◌, ◌<◌}
use mathlib.Core.Path.{◌≡◌, refl, sym, ap, subst, ◌∙◌}
use mathlib.Core.Bool.{Bool, true, false, cond}
use mathlib.Core.List.{List, [], ◌∷◌, ◌++◌, map, append_assoc, append-nil}
use native.Mathlib.Decide.{ℕ_discrete}
use native.Mathlib.Nat.{mod-eq_of_lt}
use native.Mathlib.Omega.{arith}
use borrow.Author.Tests.{le-ltb, lt-ltb, le-leb, lt-leb, eq-eqb, ne_eqb, leb-true, ltb-true, ltb-false, eqb-true}
use lib.Dec.{ltb, leb, eqb, eqb-suc-zero}
use lib.ListN.{length, get_or, drop, replicate, length-append, length-replicate, length-set, get_or-replicate}
use Rattle.std.proofs.lemmas.List.{nil_from_length}
use lib.Seq.{take_at, drop_at, drop-drop, drop-cons, length-take-le}
use Rattle.words.specs.Bytes.{be, part, to_be}
use Rattle.words.proofs.Bytes.{Bytes, be_to_be, to_be_be, bytes_part, be_below, length_part, part_drop, bytes_drop}
use Rattle.words.proofs.Tests.{passes, both}
use Rattle.cookiestash.specs.declared.Slot.{Slot}
use Rattle.cookiestash.specs.declared.CookieStash.{CookieStash}
use Rattle.cookiestash.specs.Stash.{stored, empty_slot, slot_at, wrap, full, put_of}
use Rattle.cookiestash.specs.Queue.{Cookie, walk, queue, seen, cookies}
use Rattle.cookiestash.specs.Whole.{WholeSlot, Whole}
use Rattle.cookiestash.proofs.Places.{wrap_lt, next_lt}
use Rattle.cookiestash.proofs.Stored.{stored_bounds}
use Rattle.cookiestash.proofs.Queue.{put_room}
use Rattle.cookiestash.proofs.Kept.{empty_whole, put_whole}
use Rattle.cookiestash.proofs.Cookies.{length_cookies}
use Rattle.handover_file.specs.Cookies.{
  cookie_bytes,
  cookies_bytes,
  stash_bytes,
  Run,
  whole,
  broken,
  ahead,
  len_of,
  first_of,
  run_turn,
  run_n,
  run_of,
  is_run,
  cookies_of,
  stash_fits,
  held_in,
  stash_known,
  slot_for,
  empty_at,
  laid_in,
  stash_of,
}
use Rattle.cookiestash.proofs.Same.{stash_same}

-- ---- the cookies, written and read

-- a cookie as a slot keeps it: a length of 16 bits, and the stored bytes
pub record Keeps (c : Cookie) : Type 0 where
  pub short : c.len ≤ 65535
  pub sized : length c.bytes ≡ stored c.len

abbrev pub AllKeep : List Cookie → Type 0
AllKeep [] = Unit
AllKeep (c ∷ cs) = Keeps c × AllKeep cs

module _ (c : Cookie) (k : Keeps c) (rest : List ℕ) where
  long : length (cookie_bytes c ++ rest) ≡ 2 + (stored c.len + length rest)
  unfolding cookie_bytes
  long = simp (length-append, k.sized) (omega arith)

  len_read : len_of (cookie_bytes c ++ rest) ≡ c.len
  unfolding cookie_bytes len_of part
  len_read = be_to_be 2 c.len ∙ mod-eq_of_lt (omega (arith, k.short))

  bytes_read_lem : part (cookie_bytes c ++ rest) 2 (stored c.len) ≡ c.bytes
  unfolding cookie_bytes part
  bytes_read_lem = take_at c.bytes rest (stored c.len) k.sized

  first_read : first_of (cookie_bytes c ++ rest) ≡ c
  unfolding first_of
  first_read = rw (len_read, bytes_read_lem)

  rest_read : drop (2 + stored c.len) (cookie_bytes c ++ rest) ≡ rest
  unfolding cookie_bytes
  rest_read = sym (drop-drop (stored c.len) 2 (cookie_bytes c ++ rest)) ∙ drop_at c.bytes rest (stored c.len) k.sized

  turn_read : (f : List ℕ → Run) → run_turn f (cookie_bytes c ++ rest) ≡ ahead c (f rest)
  turn_read f =
      simp (
        ne_eqb (length (cookie_bytes c ++ rest)) 0 (λ e. omega (arith, long)),
        le-ltb (length (cookie_bytes c ++ rest)) 2 (omega (arith, long)),
        len_read,
        le-ltb (length (cookie_bytes c ++ rest) - 2) (stored c.len) (omega (arith, long)),
        first_read,
        rest_read,
      )

run_read : (cs : List Cookie) → AllKeep cs → (n : ℕ) → length cs ≤ n → run_n n (cookies_bytes cs) ≡ whole cs
run_read [] k zero h = refl
run_read [] k (suc n) h = refl
run_read (c ∷ cs) k zero h = absurd (omega arith)
run_read (c ∷ cs) k (suc n) h =
    turn_read c k.0 (cookies_bytes cs) (λ (r : List ℕ). run_n n r) ∙ ap (ahead c) (run_read cs k.1 n (omega arith))

-- at least two bytes for each, and at most 726
bytes_bounds : (cs : List Cookie) → AllKeep cs → (length cs ≤ length (cookies_bytes cs)) × (length (cookies_bytes cs) ≤ 726 * length cs)
bytes_bounds [] k = (omega arith, omega arith)
bytes_bounds (c ∷ cs) k =
    let b = bytes_bounds cs k.1 in
    let l = long c k.0 (cookies_bytes cs) in
    let s = stored_bounds c.len in
    (omega arith, omega arith)

pub run_cookies : (cs : List Cookie) → AllKeep cs → run_of (cookies_bytes cs) ≡ whole cs
unfolding run_of
run_cookies cs k = run_read cs k (length (cookies_bytes cs)) (bytes_bounds cs k).0

-- ---- a slot and the cookie that it holds

seen_keeps : (x : Slot) → WholeSlot x → Keeps (seen x)
unfolding seen
seen_keeps x w = record { short = w.short; sized = length-take-le (stored x.len) x.bytes (omega (arith, w.sized, stored_bounds x.len)) }

module _ (c : Cookie) (k : Keeps c) where
  slot_whole : WholeSlot (slot_for c)
  unfolding slot_for
  slot_whole =
      record {
        short = k.short;
        sized = simp (length-append, length-replicate, k.sized) (omega (arith, stored_bounds c.len));
        padded = drop_at c.bytes (replicate (724 - stored c.len) 0) (stored c.len) k.sized;
      }

  seen_slot : seen (slot_for c) ≡ c
  unfolding slot_for seen
  seen_slot = let b = take_at c.bytes (replicate (724 - stored c.len) 0) (stored c.len) k.sized in λ i. record { len = c.len; bytes = b i }

abbrev AllWhole : List Slot → Type 0
AllWhole [] = Unit
AllWhole (x ∷ xs) = WholeSlot x × AllWhole xs

all_keep : (xs : List Slot) → AllWhole xs → AllKeep (map seen xs)
all_keep [] w = tt
all_keep (x ∷ xs) w = (seen_keeps x w.0, all_keep xs w.1)

walk_whole : (cap : ℕ) (xs : List Slot) → ((k : ℕ) → k < length xs → WholeSlot (slot_at xs k)) → cap ≤ length xs → (at n : ℕ) → at < cap →
    AllWhole (walk cap xs at n)
walk_whole cap xs each h at zero l = tt
walk_whole cap xs each h at (suc n) l = (each at (omega arith), walk_whole cap xs each h (wrap cap (at + 1)) n (next_lt cap at l))

pub cookies_keep : (cap : ℕ) (s : CookieStash) → Whole cap s → AllKeep (cookies cap s)
unfolding cookies queue
cookies_keep cap s w = all_keep (queue cap s) (walk_whole cap s.slots w.each w.room s.read s.held w.reads)

-- ---- the stash, laid cookie by cookie

-- t is s, of a capacity, with the cookies behind its newest
pub record Laid (cap : ℕ) (s t : CookieStash) (cs : List Cookie) : Type 0 where
  pub whole : Whole cap t
  pub eight : length t.slots ≡ 8
  pub reads : t.read ≡ s.read
  pub holds : cookies cap t ≡ cookies cap s ++ cs

map_append : (xs : List Slot) (x : Slot) → map seen (xs ++ (x ∷ [])) ≡ map seen xs ++ (seen x ∷ [])
map_append [] x = refl
map_append (y ∷ xs) x = ap (λ (l : List Cookie). seen y ∷ l) (map_append xs x)

module _ (cap : ℕ) where
  pub put_held : (s : CookieStash) (x : Slot) → s.held < cap → ((put_of cap s x).read ≡ s.read) × ((put_of cap s x).held ≡ s.held + 1) ×
      (length (put_of cap s x).slots ≡ length s.slots)
  unfolding put_of full
  put_held s x l = (rw (lt-leb cap s.held l), rw (lt-leb cap s.held l), length-set s.slots (wrap cap (s.read + s.held)) x)

  put_holds : (s : CookieStash) (w : Whole cap s) (c : Cookie) → Keeps c → s.held < cap → cookies cap (put_of cap s (slot_for c)) ≡ cookies cap s ++ (c ∷ [])
  unfolding cookies
  put_holds s w c k l =
      ap (map seen) (put_room cap s w.reads w.room (slot_for c) l)
      ∙ map_append (queue cap s) (slot_for c)
      ∙ ap (λ (d : Cookie). map seen (queue cap s) ++ (d ∷ [])) (seen_slot c k)

pub laid : (cap : ℕ) (cs : List Cookie) → AllKeep cs → (s : CookieStash) → Whole cap s → length s.slots ≡ 8 → s.held + length cs ≤ cap →
    Laid cap s (laid_in cap s cs) cs
laid cap [] a s w n h = record { whole = w; eight = n; reads = refl; holds = sym (append-nil (cookies cap s)) }
laid cap (c ∷ cs) a s w n h =
    let l : s.held < cap = omega arith in
    let p = put_held cap s (slot_for c) l in
    let later = laid cap cs a.1 (put_of cap s (slot_for c)) (put_whole cap s w (slot_for c) (slot_whole c a.0)) (p.2 ∙ n) (omega (arith, p.1)) in
    record {
      whole = later.whole;
      eight = later.eight;
      reads = later.reads ∙ p.0;
      holds = later.holds ∙ ap (λ (q : List Cookie). q ++ cs) (put_holds cap s w c a.0 l) ∙ append_assoc (cookies cap s) (c ∷ []) cs;
    }

pub empty_at_whole : (cap r : ℕ) → r < cap → cap ≤ 8 → Whole cap (empty_at r)
unfolding empty_at
empty_at_whole cap r h m =
    let at : (k : ℕ) → k < 8 → slot_at (replicate 8 empty_slot) k ≡ empty_slot = λ k h. get_or-replicate 8 k empty_slot _ h in
    record {
      reads = h;
      counts = omega arith;
      most = m;
      room = m;
      each = λ k l. rw (at k l) empty_whole;
      free = λ k l u. at (wrap cap (r + k)) (omega (arith, wrap_lt cap (r + k) (omega arith)));
      past = λ k l u. at k u;
    }

-- ---- the body

-- an empty stash at a place of the round, with at most as many cookies laid in it as its capacity
module _ (cap r : ℕ) (h : r < cap) (most : cap ≤ 8) (cs : List Cookie) (k : AllKeep cs) (few : length cs ≤ cap) where
  none : cookies cap (empty_at r) ++ cs ≡ cs
  unfolding cookies queue empty_at
  none = refl

  pub laid_empty : Laid cap (empty_at r) (laid_in cap (empty_at r) cs) cs
  unfolding empty_at
  laid_empty = laid cap cs k (empty_at r) (empty_at_whole cap r h most) refl (omega arith)

  pub laid_reads : (laid_in cap (empty_at r) cs).read ≡ r
  unfolding empty_at
  laid_reads = laid_empty.reads

  pub laid_holds : cookies cap (laid_in cap (empty_at r) cs) ≡ cs
  laid_holds = laid_empty.holds ∙ none

module _ (cap : ℕ) (s : CookieStash) (w : Whole cap s) (n : length s.slots ≡ 8) where
  few : length (cookies cap s) ≤ cap
  few = omega (arith, length_cookies cap s, w.counts)

  made_same : laid_in cap (empty_at s.read) (cookies cap s) ≡ s
  made_same =
      let k = cookies_keep cap s w in
      let l = laid_empty cap s.read w.reads w.most (cookies cap s) k few in
      stash_same cap (laid_in cap (empty_at s.read) (cookies cap s)) s l.whole w (l.eight ∙ sym n)
      (laid_reads cap s.read w.reads w.most (cookies cap s) k few)
      (laid_holds cap s.read w.reads w.most (cookies cap s) k few)

  run_body : run_of (drop 1 (stash_bytes cap s)) ≡ whole (cookies cap s)
  unfolding stash_bytes
  run_body = run_cookies (cookies cap s) (cookies_keep cap s w)

  -- the cookies of the body are those that the stash holds
  pub held_body : held_in (stash_bytes cap s) ≡ cookies cap s
  unfolding held_in
  held_body = ap cookies_of run_body

  place : laid_in cap (empty_at (get_or (stash_bytes cap s) 0 0)) (cookies cap s) ≡ laid_in cap (empty_at s.read) (cookies cap s)
  unfolding stash_bytes
  place = refl

  pub stash_back : stash_of cap (stash_bytes cap s) ≡ s
  unfolding stash_of
  stash_back = ap (laid_in cap (empty_at (get_or (stash_bytes cap s) 0 0))) held_body ∙ place ∙ made_same

  reads_body : get_or (stash_bytes cap s) 0 0 ≡ s.read
  unfolding stash_bytes
  reads_body = refl

  pub stash_known_lem : stash_known cap (stash_bytes cap s) ≡ true
  unfolding stash_known
  stash_known_lem =
      passes _ (le-leb cap 8 w.most)
      ∙ passes _ (lt-ltb (get_or (stash_bytes cap s) 0 0) cap (omega (arith, reads_body, w.reads)))
      ∙ le-leb (length (held_in (stash_bytes cap s))) cap (omega (arith, ap length held_body, length_cookies cap s, w.counts))

  some : stash_fits (stash_bytes cap s) ≡ is_run (run_of (drop 1 (stash_bytes cap s)))
  unfolding stash_fits stash_bytes
  some = rw eqb-suc-zero

  pub stash_fits_lem : stash_fits (stash_bytes cap s) ≡ true
  stash_fits_lem = some ∙ ap is_run run_body

  -- the reading place, and for each of at most as many cookies as the capacity its length and at most 724 bytes
  pub stash_most : length (stash_bytes cap s) ≤ 1 + 726 * cap
  unfolding stash_bytes
  stash_most = omega (arith, bytes_bounds (cookies cap s) (cookies_keep cap s w), length_cookies cap s, w.counts)

  pub stash_long : length (stash_bytes cap s) ≤ 5809
  stash_long = omega (arith, stash_most, w.most)

-- ---- the longest

-- each cookie fills its slot
abbrev pub AllFill : List Cookie → Type 0
AllFill [] = Unit
AllFill (c ∷ cs) = (stored c.len ≡ 724) × AllFill cs

bytes_filled : (cs : List Cookie) → AllKeep cs → AllFill cs → length (cookies_bytes cs) ≡ 726 * length cs
bytes_filled [] k f = refl
bytes_filled (c ∷ cs) k f =
    let n = bytes_filled cs k.1 f.1 in
    let l = long c k.0 (cookies_bytes cs) in
    omega (arith, f.0)

pub stash_longest : (cap : ℕ) (s : CookieStash) → Whole cap s → s.held ≡ cap → AllFill (cookies cap s) → length (stash_bytes cap s) ≡ 1 + 726 * cap
unfolding stash_bytes
stash_longest cap s w h f = omega (arith, bytes_filled (cookies cap s) (cookies_keep cap s w) f, length_cookies cap s)

-- ---- bytes read as cookies are those that the cookies are written in

-- what stands first in bytes that are read as cookies
data View (f : List ℕ → Run) (l : List ℕ) : Run → Type 0 where
  end : length l ≡ 0 → View f l (whole [])
  one : (r : Run) → 2 + stored (len_of l) ≤ length l → f (drop (2 + stored (len_of l)) l) ≡ r → View f l (ahead (first_of l) r)
  bad : View f l broken

view : (f : List ℕ → Run) (l : List ℕ) → View f l (run_turn f l)
view f l = go (eqb (length l) 0) (ltb (length l) 2) (ltb (length l - 2) (stored (len_of l))) refl refl refl
  where
    go : (s t u : Bool) → eqb (length l) 0 ≡ s → ltb (length l) 2 ≡ t → ltb (length l - 2) (stored (len_of l)) ≡ u
        → View f l (cond s (whole []) (cond t broken (cond u broken (ahead (first_of l) (f (drop (2 + stored (len_of l)) l))))))
    go true t u a b c = end (eqb-true (length l) 0 a)
    go false true u a b c = bad
    go false false true a b c = bad
    go false false false a b c = one (f (drop (2 + stored (len_of l)) l))
        (omega (arith, ltb-false (length l) 2 b, ltb-false (length l - 2) (stored (len_of l)) c)) refl

-- cookies that are written as the bytes were
record Again (l : List ℕ) (cs : List Cookie) : Type 0 where
  keep : AllKeep cs
  same : cookies_bytes cs ≡ l

abbrev AgainIf : List ℕ → Run → Type 0
AgainIf l (whole cs) = Again l cs
AgainIf l broken = Unit

module _ (l : List ℕ) (y : Bytes l) (h : 2 + stored (len_of l) ≤ length l) where
  first_keeps : Keeps (first_of l)
  unfolding first_of len_of
  first_keeps =
      let n = length_part l 0 2 (omega arith) in
      record { short = omega (arith, be_below (part l 0 2) (bytes_part l 0 2 y), ap (λ (k : ℕ). 256 ^ k) n); sized = length_part l 2 (stored (len_of l)) h }

  first_bytes : (rest : List ℕ) → rest ≡ drop (2 + stored (len_of l)) l → cookie_bytes (first_of l) ++ rest ≡ l
  unfolding first_of len_of cookie_bytes
  first_bytes rest e =
      let a : to_be 2 (be (part l 0 2)) ≡ part l 0 2 = to_be_be 2 (part l 0 2) (bytes_part l 0 2 y) (length_part l 0 2 (omega arith)) in
      let b = part l 2 (stored (be (part l 0 2))) in
      append_assoc (to_be 2 (be (part l 0 2))) b rest
      ∙ (λ i. a i ++ (b ++ e i))
      ∙ ap (λ (r : List ℕ). part l 0 2 ++ r) (part_drop l 2 (stored (be (part l 0 2))))
      ∙ part_drop l 0 2

again_one : (f : List ℕ → Run) (l : List ℕ) → Bytes l → (r : Run) → View f l r → AgainIf (drop (2 + stored (len_of l)) l) (f (drop (2 + stored (len_of l)) l)) →
    AgainIf l r
again_one f l y _ (end e) a = record { keep = tt; same = sym (nil_from_length l e) }
again_one f l y _ (one (whole cs) h e) a =
    let b : Again (drop (2 + stored (len_of l)) l) cs = subst (AgainIf (drop (2 + stored (len_of l)) l)) e a in
    record { keep = (first_keeps l y h, b.keep); same = first_bytes l y h (cookies_bytes cs) b.same }
again_one f l y _ (one broken h e) a = tt
again_one f l y _ bad a = tt

again_n : (n : ℕ) (l : List ℕ) → Bytes l → AgainIf l (run_n n l)
again_n zero l y = again_one (λ r. broken) l y (run_n zero l) (view (λ r. broken) l) tt
again_n (suc n) l y =
    again_one (λ r. run_n n r) l y (run_n (suc n) l) (view (λ r. run_n n r) l)
    (again_n n (drop (2 + stored (len_of l)) l) (bytes_drop (2 + stored (len_of l)) l y))

again_run : (l : List ℕ) → Bytes l → (r : Run) → run_of l ≡ r → is_run r ≡ true → Again l (cookies_of r)
unfolding run_of
again_run l y (whole cs) e t = subst (AgainIf l) e (again_n (length l) l y)
again_run l y broken e t = let z : ◌≡◌ {A = ℕ} 0 1 = cc in absurd (omega arith)

module _ (cap : ℕ) (b : List ℕ) (y : Bytes b) (f : stash_fits b ≡ true) (k : stash_known cap b ≡ true) where
  place_first : (0 < length b) × (is_run (run_of (drop 1 b)) ≡ true)
  unfolding stash_fits
  place_first =
      elim (ℕ_discrete (length b) 0) [
        | yes e ↦ let z : ◌≡◌ {A = Bool} false true = sym (ap (λ (t : Bool). cond t false (is_run (run_of (drop 1 b)))) (eq-eqb (length b) 0 e)) ∙ f in
            absurd (cc)
        | no e ↦ (omega arith, sym (ap (λ (t : Bool). cond t false (is_run (run_of (drop 1 b)))) (ne_eqb (length b) 0 e)) ∙ f)
      ]

  held_again : Again (drop 1 b) (held_in b)
  unfolding held_in
  held_again = again_run (drop 1 b) (bytes_drop 1 b y) (run_of (drop 1 b)) refl place_first.1

  known_all : (cap ≤ 8) × (get_or b 0 0 < cap) × (length (held_in b) ≤ cap)
  unfolding stash_known
  known_all =
      let e = both (leb cap 8) _ k in
      let g = both (ltb (get_or b 0 0) cap) _ e.1 in
      (leb-true cap 8 e.0, ltb-true (get_or b 0 0) cap g.0, leb-true (length (held_in b)) cap g.1)

  -- a stash that is read is whole
  pub read_laid : Laid cap (empty_at (get_or b 0 0)) (stash_of cap b) (held_in b)
  unfolding stash_of
  read_laid = laid_empty cap (get_or b 0 0) known_all.1 known_all.0 (held_in b) held_again.keep known_all.2

  -- and is written as it was
  pub stash_again : stash_bytes cap (stash_of cap b) ≡ b
  unfolding stash_of stash_bytes
  stash_again =
      let k = held_again.keep in
      let q = known_all in
      (λ i. laid_reads cap (get_or b 0 0) q.1 q.0 (held_in b) k q.2 i ∷ cookies_bytes (laid_holds cap (get_or b 0 0) q.1 q.0 (held_in b) k q.2 i))
      ∙ ap (λ (l : List ℕ). get_or b 0 0 ∷ l) held_again.same
      ∙ sym (drop-cons b 0 0 place_first.0)
