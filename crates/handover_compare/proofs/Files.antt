-- The list of two files is empty exactly when the two loaded records are equal; and two files that have the capacity, and nothing of the retired kind, are
-- then one file.
-- Assumes nothing.
use Prim.Native.Nat.{ℕ, ◌+◌, ◌^◌}
use mathlib.Core.Path.{◌≡◌, refl, sym, ap, ◌∙◌}
use mathlib.Core.Bool.{false}
use mathlib.Core.List.{List, [], ◌∷◌}
use mathlib.Core.Logic.{◌↔◌}
use native.Mathlib.Omega.{arith}
use borrow.Author.Tests.{ltb-true, ltb-false}
use lib.Dec.{ltb}
use lib.ListN.{length, get_or, length-set}
use mir.Syntax.{w8}
use mir.Val.{SFits}
use Rattle.words.specs.Signed.{signed}
use Rattle.words.proofs.Bytes.{Bytes}
use Rattle.words.proofs.Tests.{either}
use Rattle.cookiestash.specs.declared.CookieStash.{CookieStash}
use Rattle.cookiestash.specs.Stash.{put_of, wrap}
use Rattle.cookiestash.specs.Queue.{Cookie}
use Rattle.handover_groups.specs.Settings.{settings_of}
use Rattle.handover_groups.specs.State.{polls_of}
use Rattle.handover_file.specs.declared.LoadOut.{LoadOut}
use Rattle.handover_file.specs.Sections.{body_length}
use Rattle.handover_file.specs.Cookies.{slot_for, empty_at, laid_in, held_in, stash_of}
use Rattle.handover_file.specs.File.{record_in, settled_settings, settled_state, settled}
use Rattle.handover_file.specs.Answers.{told, load_number, load_of}
use Rattle.handover_file.specs.Numbers.{LoadGiven, wrong_mark, wrong_length, left_over, no_association, association}
use Rattle.handover_file.proofs.Numbers.{load_given}
use Rattle.handover_file.proofs.Again.{loads, one_file}
use Rattle.handover_compare.specs.Fields.{list_of}
use Rattle.handover_compare.proofs.Same.{Held, empty_exactly}

-- ---- what the types say of a record, of a loaded one

signed_fits : (n : ℕ) → SFits w8 (signed (2 ^ 7) n)
signed_fits n =
    either (SFits w8) (ltb n (2 ^ 7)) (λ e. record { sfits = ltb-true n (2 ^ 7) e }) (λ e. record { sfits = omega (arith, ltb-false n (2 ^ 7) e) })

laid_slots : (cap : ℕ) (cs : List Cookie) (s : CookieStash) → length (laid_in cap s cs).slots ≡ length s.slots
unfolding put_of
laid_slots cap [] s = refl
laid_slots cap (c ∷ cs) s = laid_slots cap cs (put_of cap s (slot_for c)) ∙ length-set s.slots (wrap cap (s.read + s.held)) (slot_for c)

eight_slots : (cap : ℕ) (b : List ℕ) → length (stash_of cap b).slots ≡ 8
unfolding stash_of empty_at
eight_slots cap b = laid_slots cap (held_in b) (empty_at (get_or b 0 0))

held_in_lem : (bs : List (List ℕ)) → Held (settled (record_in bs))
unfolding settled settled_settings settled_state record_in settings_of polls_of
held_in_lem bs =
    let se = get_or bs 0 [] in
    let po = get_or bs 4 [] in
    record {
      min = signed_fits (get_or se 0 0);
      max = signed_fits (get_or se 1 0);
      eight = eight_slots (get_or se 26 8) (get_or bs 1 []);
      last = signed_fits (get_or po 0 0);
      remote = signed_fits (get_or po 1 0);
    }

module _ (f : List ℕ) (y : Bytes f) where
  held_by : {n : ℕ} {o : LoadOut} → LoadGiven f n o → n ≡ 0 → Held o.association
  held_by (wrong_mark ss ts s bs l e g h d) z = absurd (omega arith)
  held_by (wrong_length ss ts s bs l e g x) z = absurd (omega arith)
  held_by (left_over bs l g h) z = absurd (omega arith)
  held_by (no_association bs g e w) z = absurd (omega arith)
  held_by (association bs g e w) z = held_in_lem bs

  held_loaded : load_number (load_of f).answer ≡ 0 → Held (load_of f).association
  held_loaded z = held_by (load_given f y) z

-- ---- two files that are read

-- promise: no10.3 (of any two files of bytes that load)
pub empty_list : (f g : List ℕ) → Bytes f → Bytes g → load_number (load_of f).answer ≡ 0 → load_number (load_of g).answer ≡ 0
    → (list_of (load_of f).association (load_of g).association ≡ []) ↔ ((load_of f).association ≡ (load_of g).association)
empty_list f g y z a b =
    let l = loads f y a in
    let r = loads g z b in
    empty_exactly (load_of f).association (load_of g).association l.whole r.whole (held_loaded f y a) (held_loaded g z b) (l.nothing ∙ sym r.nothing)

-- and two files with a capacity, of which neither answer says that the retired kind was there, are then byte for byte the same
-- promise: no10.3 (two files with a capacity and nothing retired are then the same, byte for byte)
pub same_file : (f g : List ℕ) → Bytes f → Bytes g → body_length f ≡ 27 → body_length g ≡ 27 →
    (load_of f).answer ≡ told false → (load_of g).answer ≡ told false
    → list_of (load_of f).association (load_of g).association ≡ [] → f ≡ g
same_file f g y z m n a b e = one_file f g y z m n a b ((empty_list f g y z (ap load_number a) (ap load_number b)).0 e)
