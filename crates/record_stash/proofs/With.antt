-- The bytes with another stash: bytes that read so are these, byte for byte.
-- Assumes nothing.
use Prim.Native.Nat.{ℕ, zero, suc, ◌+◌, ◌-◌, ◌*◌, ◌≤◌}
use mathlib.Core.Path.{◌≡◌, sym, ap, ◌∙◌}
use mathlib.Core.Bool.{Bool, true}
use mathlib.Core.List.{List, ◌∷◌, ◌++◌, append_assoc}
use native.Mathlib.Omega.{arith}
use borrow.Author.Tests.{leb-true, eqb-true, le-leb, eq-eqb}
use lib.Dec.{leb, eqb}
use lib.ListN.{length, get_or, take, drop, replicate, drop_of_length-le}
use lib.Seq.{drop-cons, take_at}
use Rattle.words.specs.Bytes.{part}
use Rattle.words.proofs.Bytes.{Bytes, part_drop, bytes_part, length_part, to_be_be}
use Rattle.words.proofs.Tests.{both, passes}
use Rattle.cookiestash.specs.declared.CookieStash.{CookieStash}
use Rattle.cookiestash.specs.declared.Dropped.{Dropped}
use Rattle.cookiestash.specs.Stash.{stored, empty_slot, range_of, put_of}
use Rattle.cookiestash.specs.Whole.{seen_of}
use Rattle.record_stash.specs.Rows.{slot_in, slots_in, stash_in, sized_in, Sized, row_of, rows_of}
use Rattle.record_stash.specs.Slots.{with_stash, seen_in, took, taken_in, refilled, refilled_in, kept_slot, laid_in, Becomes, TakenIn, LaidIn, RefilledIn}
use Rattle.record_stash.proofs.Rows.{slots_long}

-- ---- the test of the number of bytes

pub sized_of : (b : List ℕ) (cap : ℕ) → sized_in b cap ≡ true → Sized b cap
unfolding sized_in
sized_of b cap e =
    let k = both (leb cap 8) (eqb (length b) (92 + cap * 726)) e in record { most = leb-true cap 8 k.0; long = eqb-true (length b) (92 + cap * 726) k.1 }

pub of_sized : (b : List ℕ) (cap : ℕ) → Sized b cap → sized_in b cap ≡ true
unfolding sized_in
of_sized b cap s = passes (eqb (length b) (92 + cap * 726)) (le-leb cap 8 s.most) ∙ eq-eqb (length b) (92 + cap * 726) s.long

-- ---- rows, written as they were read

row_again : (b : List ℕ) (at : ℕ) → Bytes b → at + 726 ≤ length b → row_of (slot_in b at) ≡ part b at 724 ++ part b (at + 724) 2
unfolding slot_in
row_again b at y h =
    ap (λ (l : List ℕ). part b at 724 ++ l) (to_be_be 2 (part b (at + 724) 2) (bytes_part b (at + 724) 2 y) (length_part b (at + 724) 2 (omega arith)))

pub rows_again : (b : List ℕ) (at n : ℕ) → Bytes b → length b ≡ at + n * 726 → rows_of (slots_in b at n) ≡ drop at b
rows_again b at zero y e = sym (drop_of_length-le b {i = at} (omega arith))
rows_again b at (suc n) y e =
    let p : at + 724 + 2 ≡ at + 726 = omega arith in
    (λ i. row_again b at y (omega arith) i ++ rows_again b (at + 726) n y (omega arith) i)
    ∙ append_assoc (part b at 724) (part b (at + 724) 2) (drop (at + 726) b)
    ∙ ap (λ (k : ℕ). part b at 724 ++ (part b (at + 724) 2 ++ drop k b)) (sym p)
    ∙ ap (λ (l : List ℕ). part b at 724 ++ l) (part_drop b (at + 724) 2)
    ∙ part_drop b at 724

-- a head of 92 bytes, in its pieces
pub head_again : (b : List ℕ) → 92 ≤ length b → part b 0 27 ++ (get_or b 27 0 ∷ get_or b 28 0 ∷ (part b 29 63 ++ drop 92 b)) ≡ b
head_again b h =
    ap (λ (l : List ℕ). part b 0 27 ++ (get_or b 27 0 ∷ get_or b 28 0 ∷ l)) (part_drop b 29 63)
    ∙ ap (λ (l : List ℕ). part b 0 27 ++ (get_or b 27 0 ∷ l)) (sym (drop-cons b 28 0 (omega arith)))
    ∙ ap (λ (l : List ℕ). part b 0 27 ++ l) (sym (drop-cons b 27 0 (omega arith)))
    ∙ part_drop b 0 27

module _ (cap : ℕ) (c : List ℕ) (s : Sized c cap) (y : Bytes c) where
  pub the_rows : rows_of (take cap (stash_in c cap).slots) ≡ drop 92 c
  unfolding stash_in
  the_rows = ap rows_of (take_at (slots_in c 92 cap) (replicate (8 - cap) empty_slot) cap (slots_long c 92 cap)) ∙ rows_again c 92 cap y s.long

  -- with the stash that they have, the bytes are what they are
  pub with_own : with_stash cap c (stash_in c cap) ≡ c
  unfolding with_stash stash_in
  with_own = (λ i. part c 0 27 ++ (get_or c 27 0 ∷ get_or c 28 0 ∷ (part c 29 63 ++ the_rows i))) ∙ head_again c (omega (arith, s.long))

pub of_becomes : (cap : ℕ) (b c : List ℕ) (t : CookieStash) → Bytes c → Becomes cap b c t → c ≡ with_stash cap b t
unfolding with_stash
of_becomes cap b c t y g =
    sym (with_own cap c g.sized y)
    ∙ (λ i. g.settings i ++ ((g.stash i).read ∷ (g.stash i).held ∷ (g.state i ++ rows_of (take cap (g.stash i).slots))))

-- ---- each public function that changed the bytes

module _ (cap : ℕ) (b : List ℕ) where
  pub seen_is : sized_in b cap ≡ true → seen_in b cap ≡ seen_of cap (stash_in b cap)
  unfolding seen_in
  seen_is s = rw s

  pub taken_is : (takes : Bool) (ys : List ℕ) → takes ≡ true → sized_in b cap ≡ true → (c zs : List ℕ) → Bytes c → TakenIn cap b c ys zs →
      took c zs ≡ taken_in cap takes b ys
  unfolding taken_in
  taken_is takes ys t s c zs y g = (λ i. took (of_becomes cap b c _ y g.becomes i) (g.leaves i)) ∙ sym (rw (t, s))

  pub refilled_is : (stores : Bool) (list : List ℕ) → stores ≡ true → sized_in b cap ≡ true → (c : List ℕ) (d : Dropped) → Bytes c → RefilledIn cap list b c d →
      refilled d c ≡ refilled_in cap stores list b
  unfolding refilled_in
  refilled_is stores list t s c d y g = (λ i. refilled (g.falls i) (of_becomes cap b c _ y g.becomes i)) ∙ sym (rw (t, s))

  pub laid_is : (len : ℕ) (kept : List ℕ) → sized_in b cap ≡ true → range_of cap (get_or b 27 0) (get_or b 28 0) ≡ true → (n : ℕ) → n ≡ stored len →
      length kept ≡ n → (c : List ℕ) → Bytes c → Becomes cap b c (put_of cap (stash_in b cap) (kept_slot len kept)) → LaidIn cap len kept b c
  unfolding laid_in
  laid_is len kept s r n e k c y g =
      record { is = of_becomes cap b c _ y g ∙ sym (rw (s, r, eq-eqb (length kept) (stored len) (k ∙ e))); becomes = λ z w l. g }
