-- A file that has the capacity and nothing of the retired kind, and is read with 0, is the file that the loaded record writes, so no two of them load as one
-- record; a file of before, without the capacity, is read
-- as the file with 8 is; and a loaded record is whole, with nothing pending.
-- Assumes nothing.
use Prim.Native.Nat.{ℕ, zero, suc, ◌+◌}
use mathlib.Core.Path.{◌≡◌, refl, sym, ap, subst, ◌∙◌}
use mathlib.Core.Bool.{Bool, true, false}
use mathlib.Core.List.{List, [], ◌∷◌, ◌++◌}
use native.Mathlib.Omega.{arith}
use borrow.Author.Tests.{eqb-true}
use lib.Dec.{lit<}
use lib.ListN.{length, get_or, length-append}
use Rattle.words.specs.Bytes.{to_be}
use Rattle.words.specs.Put.{record_of}
use Rattle.words.proofs.Bytes.{Bytes}
use Rattle.words.proofs.Tests.{both}
use Rattle.cookiestash.specs.Whole as stash
use Rattle.association.specs.declared.Association.{Association}
use Rattle.association.specs.Record.{no_pending, whole_of}
use Rattle.association.specs.Whole.{Whole}
use Rattle.association.proofs.Whole.{whole_of_lem}
use Rattle.handover_groups.specs.Settings.{settings_of, settings_known}
use Rattle.handover_groups.specs.State.{version_known}
use Rattle.handover_groups.proofs.OfSettings.{settings_again, settings_old, known_old}
use Rattle.handover_groups.proofs.OfState.{effort_again, version_again, polls_again, source_again}
use Rattle.handover_file.specs.declared.LoadOut.{LoadOut}
use Rattle.handover_file.specs.Sections.{Shape, joined, Fitting, body_length}
use Rattle.handover_file.specs.Cookies.{stash_fits, stash_known, stash_of}
use Rattle.handover_file.specs.File.{shapes, parts_of, file_of, known, record_in, retired, settled_state, settled}
use Rattle.handover_file.specs.Answers.{load_number, told, says_retired, load_in, on_cut, load_of}
use Rattle.handover_file.specs.Numbers.{LoadGiven, wrong_mark, wrong_length, left_over, no_association, association}
use Rattle.handover_file.proofs.Cookies.{read_laid, stash_again}
use Rattle.handover_file.proofs.Settled.{settled_same, none_retired}
use Rattle.handover_file.proofs.File.{fits_new}
use Rattle.handover_file.proofs.Numbers.{load_given}
use Rattle.handover_file.proofs.Sections.{length_read, cut_joined}

-- ---- the bodies of a file of bytes are bytes

bytes_left : (l r : List ℕ) → Bytes (l ++ r) → Bytes l
bytes_left [] r y i = lit< tt
bytes_left (x ∷ l) r y zero = y 0
bytes_left (x ∷ l) r y (suc i) = bytes_left l r (λ j. y (suc j)) i

bytes_right : (l r : List ℕ) → Bytes (l ++ r) → Bytes r
bytes_right [] r y = y
bytes_right (x ∷ l) r y = bytes_right l r (λ j. y (suc j))

abbrev AllBytes : List (List ℕ) → Type 0
AllBytes [] = Unit
AllBytes (b ∷ bs) = Bytes b × AllBytes bs

body_bytes : (m : ℕ) (b rest : List ℕ) → Bytes (record_of m b ++ rest) → Bytes b
unfolding record_of
body_bytes m b rest y = bytes_right (to_be 2 (length b)) b (bytes_right (to_be 2 m) (to_be 2 (length b) ++ b) (bytes_left (record_of m b) rest y))

bodies_bytes : (ss : List Shape) (bs : List (List ℕ)) → Fitting ss bs → Bytes (joined ss bs) → AllBytes bs
bodies_bytes [] [] g y = tt
bodies_bytes [] (b ∷ bs) g y = absurd g
bodies_bytes (s ∷ ss) [] g y = absurd g
bodies_bytes (s ∷ ss) (b ∷ bs) g y =
    (body_bytes s.mark b (joined ss bs) y, bodies_bytes ss bs g.3 (bytes_right (record_of s.mark b) (joined ss bs) y))

-- ---- six bodies

-- what the record's parts are, where the settings have their capacity; and that its stash is one that the types allow
record Six (bs : List (List ℕ)) : Type 0 where
  parts : length (get_or bs 0 []) ≡ 27 → parts_of (record_in bs) ≡ bs
  typed : stash.Typed (record_in bs).stash

stash_typed : (cap : ℕ) (b : List ℕ) → Bytes b → stash_fits b ≡ true → stash_known cap b ≡ true → stash.Typed (stash_of cap b)
stash_typed cap b y f k =
    let l = read_laid cap b y f k in
    record { eight = l.eight; each = λ j h. let w = l.whole.each j (omega (arith, l.eight)) in (w.sized, w.short) }

six : (bs : List (List ℕ)) → Fitting shapes bs → AllBytes bs → known bs ≡ true → Six bs
unfolding known record_in
six (se ∷ (st ∷ (re ∷ (ve ∷ (po ∷ (so ∷ [])))))) g y k =
    let k₀ = both (settings_known se) _ k in
    let cap = (settings_of se).capacity in
    let k₁ = both (stash_known cap st) _ k₀.1 in
    let k₂ = both (version_known ve) _ k₁.1 in
    let e₁ = stash_again cap st y.1.0 g.3.2 k₁.0 in
    let e₂ = effort_again re (eqb-true (length re) 2 g.3.3.2) in
    let e₃ = version_again ve (eqb-true (length ve) 2 g.3.3.3.2) k₂.0 in
    let e₄ = polls_again po (eqb-true (length po) 2 g.3.3.3.3.2) y.1.1.1.1.0 in
    let e₅ = source_again so (eqb-true (length so) 6 g.3.3.3.3.3.2) y.1.1.1.1.1.0 k₂.1 in
    record {
      parts = λ n. let e₀ = settings_again se n y.0 k₀.0 in λ i. e₀ i ∷ e₁ i ∷ e₂ i ∷ e₃ i ∷ e₄ i ∷ e₅ i ∷ [];
      typed = stash_typed cap st y.1.0 g.3.2 k₁.0;
    }
six [] g y k = absurd g
six (a ∷ []) g y k = absurd g.3
six (a ∷ (b ∷ [])) g y k = absurd g.3.3
six (a ∷ (b ∷ (c ∷ []))) g y k = absurd g.3.3.3
six (a ∷ (b ∷ (c ∷ (d ∷ [])))) g y k = absurd g.3.3.3.3
six (a ∷ (b ∷ (c ∷ (d ∷ (e ∷ []))))) g y k = absurd g.3.3.3.3.3
six (a ∷ (b ∷ (c ∷ (d ∷ (e ∷ (f ∷ (h ∷ bs))))))) g y k = absurd g.3.3.3.3.3.3

-- ---- the file

-- what is loaded from a file: the file is the record's own where it has the capacity and the answer says nothing of the retired kind
pub record Loads (f : List ℕ) (o : LoadOut) : Type 0 where
  pub file : body_length f ≡ 27 → o.answer ≡ told false → file_of o.association ≡ f
  pub whole : Whole o.association
  pub nothing : o.association.state.request ≡ no_pending false

nothing_in : (bs : List (List ℕ)) → (settled (record_in bs)).state.request ≡ no_pending false
unfolding settled settled_state record_in
nothing_in bs = refl

-- a settled record has the stash that was read
settled_typed : (a : Association) → stash.Typed a.stash → stash.Typed (settled a).stash
unfolding settled
settled_typed a t = t

unsaid : (b : Bool) → told b ≡ told false → b ≡ false
unsaid b e = ap says_retired e

-- the length that stands first in a file is that of its settings
first_long : (bs : List (List ℕ)) → Fitting shapes bs → body_length (joined shapes bs) ≡ length (get_or bs 0 [])
first_long [] g = absurd g
first_long (b ∷ bs) g = length_read 0x5345 b _ g.0 g.1

module _ (f : List ℕ) (y : Bytes f) where
  loads_by : {n : ℕ} {o : LoadOut} → LoadGiven f n o → n ≡ 0 → Loads f o
  unfolding file_of
  loads_by (wrong_mark ss ts s bs l e g h d) z = absurd (omega arith)
  loads_by (wrong_length ss ts s bs l e g x) z = absurd (omega arith)
  loads_by (left_over bs l g h) z = absurd (omega arith)
  loads_by (no_association bs g e w) z = absurd (omega arith)
  loads_by (association bs g e w) z =
      let a = record_in bs in
      let k = both (known bs) (whole_of (settled a)) w in
      let s = six bs g (bodies_bytes shapes bs g (subst Bytes e y)) k.0 in
      record {
        file = λ n q.
            ap file_of (settled_same a (none_retired a (unsaid (retired a.settings a.state) q)))
            ∙ ap (joined shapes) (s.parts (sym (first_long bs g) ∙ ap body_length (sym e) ∙ n))
            ∙ sym e;
        whole = whole_of_lem (settled a) (settled_typed a s.typed) k.1;
        nothing = nothing_in bs;
      }

  -- promise no6.5: A file with a capacity that is read with 0, and with nothing retired (No. 14), is the file that the loaded record writes. So no two of
  --     these load as one record.
  -- promise: no6.5 (its `file`, `whole`, `nothing`), no8.1
  pub loads : load_number (load_of f).answer ≡ 0 → Loads f (load_of f)
  loads z = loads_by (load_given f y) z

-- no two files with a capacity and nothing of the retired kind load as one record
-- promise: no6.5, no12.6 (of all that is read and has the byte, with nothing retired: No. 14)
pub one_file : (f g : List ℕ) → Bytes f → Bytes g → body_length f ≡ 27 → body_length g ≡ 27 →
    (load_of f).answer ≡ told false → (load_of g).answer ≡ told false →
    (load_of f).association ≡ (load_of g).association → f ≡ g
one_file f g y z m n a b e = sym ((loads f y (ap load_number a)).file m a) ∙ ap file_of e ∙ (loads g z (ap load_number b)).file n b

-- ---- a file of before

-- the same six bodies, the settings with the byte 8 behind them
module _ (b : List ℕ) (bs : List (List ℕ)) (n : length b ≡ 26) where
  known_same : known (b ∷ bs) ≡ known ((b ++ (8 ∷ [])) ∷ bs)
  unfolding known
  known_same = rw (settings_old b n, known_old b n)

  record_same : record_in (b ∷ bs) ≡ record_in ((b ++ (8 ∷ [])) ∷ bs)
  unfolding record_in
  record_same = rw (settings_old b n)

  loads_same : load_in (b ∷ bs) ≡ load_in ((b ++ (8 ∷ [])) ∷ bs)
  unfolding load_in
  loads_same = rw (known_same, record_same)

  more_fits : Fitting shapes (b ∷ bs) → Fitting shapes ((b ++ (8 ∷ [])) ∷ bs)
  more_fits g =
      let l : length (b ++ (8 ∷ [])) ≡ 27 = length-append b (8 ∷ []) ∙ ap (λ (k : ℕ). k + 1) n in
      (g.0, omega arith, fits_new (b ++ (8 ∷ [])) l, g.3)

  -- it is read as the file with 8 is: the same answer, and the same record
  -- promise: no12.5 (it loads as the file with an 8 after its settings)
  pub old_file : Fitting shapes (b ∷ bs) → load_of (joined shapes (b ∷ bs)) ≡ load_of (joined shapes ((b ++ (8 ∷ [])) ∷ bs))
  unfolding load_of
  old_file g = ap on_cut (cut_joined shapes (b ∷ bs) g) ∙ loads_same ∙ sym (ap on_cut (cut_joined shapes ((b ++ (8 ∷ [])) ∷ bs) (more_fits g)))
