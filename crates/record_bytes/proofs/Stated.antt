-- Another state leaves the stash as it lies.
-- Assumes nothing.
use Prim.Native.Nat.{ℕ, zero, suc, ◌+◌, ◌-◌, ◌≤◌}
use mathlib.Core.Path.{◌≡◌, refl, sym, ap, ◌∙◌}
use mathlib.Core.Bool.{Bool, cond}
use mathlib.Core.List.{List, ◌∷◌, ◌++◌}
use native.Mathlib.Omega.{arith}
use borrow.Author.Tests.{le-leb}
use borrow.Rule.Slice.PartMut.{put_mid}
use lib.Dec.{leb}
use lib.ListN.{length, get_or, take, drop, replicate}
use lib.Seq.{drop-drop}
use Rattle.cookiestash.specs.Stash.{empty_slot}
use Rattle.association.specs.declared.State.{State}
use Rattle.record_stash.specs.Rows.{slots_in, stash_in}
use Rattle.record_stash.proofs.Mid.{mid_below, mid_above, mid_long}
use Rattle.record_stash.proofs.Change.{slot_same}
use Rattle.record_bytes.specs.State.{state_bytes}
use Rattle.record_bytes.specs.Record.{stored_state}
use Rattle.record_bytes.proofs.State.{state_long}

slots_same : (b c : List ℕ) → length c ≡ length b → ((i : ℕ) → 92 ≤ i → get_or c i 0 ≡ get_or b i 0) → (at n : ℕ) → 92 ≤ at → slots_in c at n ≡ slots_in b at n
slots_same b c e f at zero h = refl
slots_same b c e f at (suc n) h = λ i. slot_same b c at e (λ j p q. f j (omega arith)) i ∷ slots_same b c e f (at + 726) n (omega arith) i

pub state_stash : (b : List ℕ) (cap : ℕ) (s : State) → length s.request.uid ≡ 32 → 92 ≤ length b → stash_in (stored_state b s) cap ≡ stash_in b cap
unfolding stash_in stored_state
state_stash b cap s n h =
    let w = state_bytes s in
    let mid = put_mid 29 63 b w in
    let lw : length w ≡ 63 = state_long s n in
    let is : cond (leb 92 (length b)) (take 29 b ++ (w ++ drop 92 b)) b ≡ mid
    = ap (λ (t : Bool). cond t (take 29 b ++ (w ++ drop 92 b)) b) (le-leb 92 (length b) h)
    ∙ ap (λ (x : List ℕ). take 29 b ++ (w ++ x)) (sym (drop-drop 63 29 b)) in
    let slots = slots_same b mid (mid_long 29 63 b w lw h) (λ i p. mid_above 29 63 b w lw h i p) 92 cap (omega arith) in
    (λ i. record { slots = slots_in (is i) 92 cap ++ replicate (8 - cap) empty_slot; read = get_or (is i) 27 0; held = get_or (is i) 28 0 })
    ∙ (λ i. record {
      slots = slots i ++ replicate (8 - cap) empty_slot;
      read = mid_below 29 63 b w lw h 27 (omega arith) i;
      held = mid_below 29 63 b w lw h 28
          (omega arith) i;
    })
