-- What is told of a file that was read, and which bytes come with it.
-- Assumes nothing.
use Prim.Native.Nat.{ℕ, ◌+◌, ◌*◌}
use mathlib.Core.Path.{◌≡◌, sym, ap, ◌∙◌}
use mathlib.Core.Bool.{Bool, true, false}
use mathlib.Core.List.{List}
use borrow.Author.Tests.{eq-eqb, ne_eqb}
use lib.Dec.{eqb}
use lib.ListN.{length, replicate}
use Rattle.std.specs.Prelude.{Result, Ok, Err}
use Rattle.words.proofs.Tests.{when, unless}
use Rattle.association.specs.declared.Association.{Association}
use Rattle.handover_file.specs.declared.Loaded.{Loaded}
use Rattle.handover_file.specs.declared.LoadRefusal.{LoadRefusal}
use Rattle.handover_file.specs.Cookies.{stash_of}
use Rattle.handover_file.specs.Answers.{load_of}
use Rattle.handover_load.specs.Reading.{Contents, read_of}
use Rattle.handover_load.proofs.Within.{Found, answer_of, answer_is, found_is}
use Rattle.record_bytes.specs.Record.{packed}
use Rattle.record_new.specs.declared.InBytes.TheVariants.{Said, WrongSize}
use Rattle.record_files.specs.Load.{gave, by_answer, loaded_by}

module _ (b f : List ℕ) where
  told_by : (r : Result Contents LoadRefusal) → r ≡ read_of f → by_answer b (answer_of r) (load_of f).association ≡ loaded_by b (load_of f)
  told_by r e = ap (λ (y : Result Loaded LoadRefusal). by_answer b y (load_of f).association) (answer_is f r e)

  -- a refusal, of which zeros are left
  pub told_refused : (e : LoadRefusal) → Err e ≡ read_of f → (c : List ℕ) → c ≡ replicate (length b) 0 → gave (Err (Said e)) c ≡ loaded_by b (load_of f)
  told_refused e h c z = ap (gave (Err (Said e))) z ∙ told_by (Err e) h

  module _ (o : Contents) (h : Ok o ≡ read_of f) where
    found : Found f o
    found = found_is f o h

    sized_by : (t : Bool) → eqb (length b) (92 + o.settings.capacity * 726) ≡ t → eqb (length b) (92 + (load_of f).association.settings.capacity * 726) ≡ t
    sized_by t q = ap (λ (a : Association). eqb (length b) (92 + a.settings.capacity * 726)) found.association ∙ q

    pub told_31 : (length b ≡ 92 + o.settings.capacity * 726 → ⊥) → gave (Err WrongSize) b ≡ loaded_by b (load_of f)
    told_31 n = sym (unless _ _ (sized_by false (ne_eqb _ _ n))) ∙ told_by (Ok o) h

    pub told_0 : length b ≡ 92 + o.settings.capacity * 726 → (c : List ℕ) →
        c ≡ packed (record { settings = o.settings; stash = stash_of o.settings.capacity o.stash; state = o.state }) →
        gave (Ok (record { retired = o.retired })) c ≡ loaded_by b (load_of f)
    told_0 n c z =
        ap (gave (Ok (record { retired = o.retired }))) (z ∙ sym (ap packed found.association))
        ∙ sym (when _ _ (sized_by true (eq-eqb _ _ n)))
        ∙ told_by (Ok o) h
