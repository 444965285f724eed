-- Each number of the writer and of the reader is given exactly under its rule (specs/Numbers.antt), with that rule's answer and record.
-- Assumes nothing.
use Prim.Native.Nat.{ℕ, ◌≤◌}
use mathlib.Core.Path.{◌≡◌, refl, sym, ap, subst, ◌∙◌}
use mathlib.Core.Bool.{◌&&◌}
use mathlib.Core.List.{List, [], ◌∷◌, ◌++◌}
use mathlib.Core.Logic.{◌↔◌}
use native.Mathlib.Omega.{arith}
use borrow.Author.Tests.{lt-ltb, le-ltb, ltb-true, ltb-false}
use lib.Dec.{ltb, lit<}
use lib.ListN.{length}
use Rattle.words.proofs.Bytes.{Bytes}
use Rattle.words.proofs.Tests.{either, when, unless}
use Rattle.association.specs.declared.Association.{Association}
use Rattle.association.specs.Record.{whole_of}
use Rattle.association.specs.Whole.{Whole}
use Rattle.handover_file.specs.declared.SaveOut.{SaveOut}
use Rattle.handover_file.specs.declared.LoadOut.{LoadOut}
use Rattle.handover_file.specs.Sections.{Shape, Cut, missized, cut_as}
use Rattle.handover_file.specs.File.{shapes, file_of, known, record_in, settled}
use Rattle.handover_file.specs.Answers.{save_number, save_of, load_number, on_cut, load_of}
use Rattle.handover_file.specs.Numbers.{
  SaveGiven,
  not_whole,
  short_buffer_lem,
  written,
  Faulty,
  no_mark,
  no_length,
  no_body,
  unfit,
  Begins,
  LoadGiven,
  wrong_mark,
  wrong_length,
  left_over,
  no_association,
  association,
}
use Rattle.handover_file.proofs.Sections.{
  behind,
  cut_prefix,
  cut_joined,
  cut_none,
  cut_mark,
  cut_length,
  cut_body,
  cut_unfit,
  cut_over,
  behind_misplaced,
  behind_missized,
}
use Rattle.handover_file.proofs.Outcome.{Marked, Outcome, all, over, mark, fault, outcome}
use Rattle.handover_file.proofs.Settled.{load_tests}
use Rattle.handover_file.proofs.File.{Fit, file_longest}

-- ---- writing

module _ (a : Association) (room : ℕ) where
  abbrev SaveTold : SaveOut → Type 0
  SaveTold o = SaveGiven a room (save_number o.answer) o

  -- promise: no6.6
  pub save_given : SaveTold (save_of a room)
  unfolding save_of
  save_given =
      either SaveTold (whole_of a)
      (λ w. either SaveTold (ltb room (length (file_of a))) (λ s. short_buffer_lem w (ltb-true _ _ s)) (λ s. written w (ltb-false _ _ s)))
      not_whole

  -- and no other is given
  -- promise: no6.6
  pub save_only : {n : ℕ} {o : SaveOut} → SaveGiven a room n o → save_of a room ≡ o
  unfolding save_of
  save_only (not_whole w) = rw w
  save_only (short_buffer_lem w s) = rw (w, lt-ltb _ _ s)
  save_only (written w s) = rw (w, le-ltb _ _ s)

  save_numbered : {n : ℕ} {o : SaveOut} → SaveGiven a room n o → save_number o.answer ≡ n
  save_numbered (not_whole w) = refl
  save_numbered (short_buffer_lem w s) = refl
  save_numbered (written w s) = refl

  -- promise: no6.6
  pub save_number_lem : (n : ℕ) → (save_number (save_of a room).answer ≡ n) ↔ ((o : SaveOut) × SaveGiven a room n o)
  save_number_lem n = (
    (λ e. (save_of a room, subst (λ (k : ℕ). SaveGiven a room k (save_of a room)) e save_given)),
    (λ (o, g). ap (λ (x : SaveOut). save_number x.answer) (save_only g) ∙ save_numbered g),
  )

-- with a buffer of 5,872 bytes 60 is never given
-- promise: no6.9
pub room_enough : (a : Association) → Fit a → (room : ℕ) → 5872 ≤ room → Whole a → save_number (save_of a room).answer ≡ 60 → ⊥
room_enough a f room h w e = go ((save_number_lem a room 60).0 e).1
  where
    go : {o : SaveOut} → SaveGiven a room 60 o → ⊥
    go (short_buffer_lem e s) = omega (arith, file_longest a w f)

-- ---- reading

marked : Marked shapes
marked = (lit< tt, (lit< tt, (lit< tt, (lit< tt, (lit< tt, (lit< tt, tt))))))

-- what is faulty is of the wrong length
faulty_cut : (s : Shape) (ss : List Shape) (l : List ℕ) → Faulty s l → cut_as (s ∷ ss) l ≡ missized
faulty_cut s ss l (no_mark h) = cut_none s ss l h
faulty_cut s ss l (no_length h m k) = cut_length s ss l m h k
faulty_cut s ss l (no_body h m k) = cut_body s ss l m h k
faulty_cut s ss l (unfit h m k u) = cut_unfit s ss l m h k u

-- records that are as they should be leave the answer to what follows them
after : (f : List ℕ) (ss ts : List Shape) → shapes ≡ ss ++ ts → (bs : List (List ℕ)) (l : List ℕ) → Begins f ss bs l → cut_as shapes f ≡ behind bs (cut_as ts l)
after f ss ts e bs l g = (λ i. cut_as (e i) (g.file i)) ∙ cut_prefix ss ts bs l g.fitting

append_none : (ss : List Shape) → ss ≡ ss ++ []
append_none [] = refl
append_none (s ∷ ss) = ap (λ (q : List Shape). s ∷ q) (append_none ss)

module _ (f : List ℕ) where
  abbrev LoadTold : LoadOut → Type 0
  LoadTold o = LoadGiven f (load_number o.answer) o

  told : (c : Cut) → Outcome shapes f c → LoadTold (on_cut c)
  told _ (all bs g e) = subst LoadTold (sym (load_tests bs))
      (either LoadTold (known bs && whole_of (settled (record_in bs))) (association bs g e) (no_association bs g e))
  told _ (over bs l g h) = left_over bs l g h
  told _ (mark ps ts s bs l e g h d) = wrong_mark ps ts s bs l e g h d
  told _ (fault ps ts s bs l e g x) = wrong_length ps ts s bs l e g x

  -- of a file of bytes
  -- promise: no6.7
  pub load_given : Bytes f → LoadTold (load_of f)
  unfolding load_of
  load_given y = told (cut_as shapes f) (outcome shapes marked f y)

  -- promise: no6.7
  pub load_only : {n : ℕ} {o : LoadOut} → LoadGiven f n o → load_of f ≡ o
  unfolding load_of
  load_only (wrong_mark ss ts s bs l e g h d) = ap on_cut (after f ss (s ∷ ts) e bs l g ∙ ap (behind bs) (cut_mark s ts l h d) ∙ behind_misplaced bs)
  load_only (wrong_length ss ts s bs l e g x) = ap on_cut (after f ss (s ∷ ts) e bs l g ∙ ap (behind bs) (faulty_cut s ts l x) ∙ behind_missized bs)
  load_only (left_over bs l g h) = ap on_cut (after f shapes [] (append_none shapes) bs l g ∙ ap (behind bs) (cut_over l h) ∙ behind_missized bs)
  load_only (no_association bs g e w) = ap (λ (q : List ℕ). on_cut (cut_as shapes q)) e ∙ ap on_cut (cut_joined shapes bs g) ∙ load_tests bs ∙ unless _ _ w
  load_only (association bs g e w) = ap (λ (q : List ℕ). on_cut (cut_as shapes q)) e ∙ ap on_cut (cut_joined shapes bs g) ∙ load_tests bs ∙ when _ _ w

  load_numbered : {n : ℕ} {o : LoadOut} → LoadGiven f n o → load_number o.answer ≡ n
  load_numbered (wrong_mark ss ts s bs l e g h d) = refl
  load_numbered (wrong_length ss ts s bs l e g x) = refl
  load_numbered (left_over bs l g h) = refl
  load_numbered (no_association bs g e w) = refl
  load_numbered (association bs g e w) = refl

  -- promise: no6.7
  pub load_number_lem : Bytes f → (n : ℕ) → (load_number (load_of f).answer ≡ n) ↔ ((o : LoadOut) × LoadGiven f n o)
  load_number_lem y n = (
    (λ e. (load_of f, subst (λ (k : ℕ). LoadGiven f k (load_of f)) e (load_given y))),
    (λ (o, g). ap (λ (x : LoadOut). load_number x.answer) (load_only g) ∙ load_numbered g),
  )
