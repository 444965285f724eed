-- A file with the retired kind, in either place, loads exactly as the same file with V4 there: the same number, and the same association (RULES, No. 14).
-- Assumes nothing.
use Prim.Native.Nat.{ℕ, zero, suc}
use mathlib.Core.Path.{◌≡◌, refl, sym, ap, ◌∙◌}
use mathlib.Core.Bool.{Bool, true, false, cond}
use mathlib.Core.List.{List, [], ◌∷◌, ◌++◌}
use native.Mathlib.Omega.{arith}
use lib.ListN.{length, get_or, drop, length-append}
use Rattle.words.specs.Bytes.{part}
use Rattle.association.specs.declared.Association.{Association}
use Rattle.association.specs.Record.{whole_of}
use Rattle.handover_groups.specs.Settings.{settings_of, settings_known}
use Rattle.handover_groups.specs.State.{version_of, version_known}
use Rattle.handover_file.specs.declared.LoadRefusal.TheVariants.{NoAssociation}
use Rattle.handover_file.specs.declared.LoadOut.{LoadOut}
use Rattle.handover_file.specs.Sections.{joined, Fitting}
use Rattle.handover_file.specs.File.{shapes, known, record_in, settled_settings, settled_state, settled}
use Rattle.handover_file.specs.Answers.{load_number, load_in, on_cut, load_of, load_as, refused}
use Rattle.handover_file.proofs.Sections.{cut_joined}

-- two files load alike: the same number, and the same association
pub record Alike (f g : List ℕ) : Type 0 where
  pub number : load_number (load_of f).answer ≡ load_number (load_of g).answer
  pub association : (load_of f).association ≡ (load_of g).association

abbrev Same : LoadOut → LoadOut → Type 0
Same o u = (load_number o.answer ≡ load_number u.answer) × (o.association ≡ u.association)

-- what two records load as, where they are the same once settled
same_as : (a b : Association) → settled a ≡ settled b → Same (load_as a) (load_as b)
same_as a b e = by (whole_of (settled a)) (whole_of (settled b)) refl refl
  where
    by : (t u : Bool) → whole_of (settled a) ≡ t → whole_of (settled b) ≡ u → Same (load_as a) (load_as b)
    by true true p q = rw (p, q) (refl, e)
    by false false p q = rw (p, q) (refl, refl)
    by true false p q = let z = sym p ∙ ap whole_of e ∙ q in let y : ◌≡◌ {A = ℕ} 0 1 = cc in absurd (omega arith)
    by false true p q = let z = sym p ∙ ap whole_of e ∙ q in let y : ◌≡◌ {A = ℕ} 0 1 = cc in absurd (omega arith)

same_in : (bs cs : List (List ℕ)) → known bs ≡ known cs → settled (record_in bs) ≡ settled (record_in cs) → Same (load_in bs) (load_in cs)
unfolding load_in
same_in bs cs k e = rw k (by (known cs))
  where
    by : (t : Bool) → Same (cond t (load_as (record_in bs)) (refused NoAssociation)) (cond t (load_as (record_in cs)) (refused NoAssociation))
    by true = same_as (record_in bs) (record_in cs) e
    by false = (refl, refl)

alike : (bs cs : List (List ℕ)) → Fitting shapes bs → Fitting shapes cs → known bs ≡ known cs → settled (record_in bs) ≡ settled (record_in cs) →
    Alike (joined shapes bs) (joined shapes cs)
unfolding load_of
alike bs cs f g k e =
    let s = same_in bs cs k e in
    let p = ap on_cut (cut_joined shapes bs f) in
    let q = ap on_cut (cut_joined shapes cs g) in
    record {
      number = ap (λ (o : LoadOut). load_number o.answer) p ∙ s.0 ∙ sym (ap (λ (o : LoadOut). load_number o.answer) q);
      association = ap (λ (o : LoadOut). o.association) p ∙ s.1 ∙ sym (ap (λ (o : LoadOut). o.association) q);
    }

module _ (settings stash effort polls source : List ℕ) where
  -- the six bodies, with this version
  abbrev pub spoken : List ℕ → List (List ℕ)
  spoken version = settings ∷ stash ∷ effort ∷ version ∷ polls ∷ source ∷ []

  pub retired_version : (tries : ℕ) → Fitting shapes (spoken (1 ∷ tries ∷ [])) →
      Alike (joined shapes (spoken (1 ∷ tries ∷ []))) (joined shapes (spoken (0 ∷ 0 ∷ [])))
  unfolding known record_in settled settled_state version_of version_known
  retired_version tries f = alike (spoken (1 ∷ tries ∷ [])) (spoken (0 ∷ 0 ∷ [])) f
      (f.0, f.1, f.2, (f.3.0, f.3.1, f.3.2, (f.3.3.0, f.3.3.1, f.3.3.2, (f.3.3.3.0, f.3.3.3.1, refl, f.3.3.3.3)))) refl refl

-- as many elements as there are
listed : ℕ → List ℕ → List ℕ
listed zero a = []
listed (suc n) a = get_or a 0 0 ∷ listed n (drop 1 a)

listed_is : (n : ℕ) (a : List ℕ) → length a ≡ n → a ≡ listed n a
unfolding listed
listed_is zero [] e = refl
listed_is zero (x ∷ a) e = absurd (omega arith)
listed_is (suc n) [] e = absurd (omega arith)
listed_is (suc n) (x ∷ a) e = ap (λ (l : List ℕ). x ∷ l) (listed_is n a (omega arith))

module _ (stash effort version polls source : List ℕ) where
  -- the six bodies, with these settings
  abbrev pub started : List ℕ → List (List ℕ)
  started settings = settings ∷ stash ∷ effort ∷ version ∷ polls ∷ source ∷ []

  -- 19 bytes stand before the start version
  start_known : (a : List ℕ) (tries : ℕ) (rest : List ℕ) → length a ≡ 19 → known (started (a ++ 1 ∷ tries ∷ rest)) ≡ known (started (a ++ 0 ∷ 0 ∷ rest))
  unfolding known settings_of settings_known listed
  start_known a tries rest h = rw (listed_is 19 a h)

  start_settled : (a : List ℕ) (tries : ℕ) (rest : List ℕ) → length a ≡ 19 →
      settled (record_in (started (a ++ 1 ∷ tries ∷ rest))) ≡ settled (record_in (started (a ++ 0 ∷ 0 ∷ rest)))
  unfolding record_in settled settled_settings settings_of listed part
  start_settled a tries rest h = rw (listed_is 19 a h)

  pub retired_start : (a : List ℕ) (tries : ℕ) (rest : List ℕ) → length a ≡ 19 → Fitting shapes (started (a ++ 1 ∷ tries ∷ rest)) →
      Alike (joined shapes (started (a ++ 1 ∷ tries ∷ rest))) (joined shapes (started (a ++ 0 ∷ 0 ∷ rest)))
  retired_start a tries rest h f =
      let n : length (a ++ 0 ∷ 0 ∷ rest) ≡ length (a ++ 1 ∷ tries ∷ rest) = length-append a (0 ∷ 0 ∷ rest) ∙ sym (length-append a (1 ∷ tries ∷ rest)) in
      alike (started (a ++ 1 ∷ tries ∷ rest)) (started (a ++ 0 ∷ 0 ∷ rest)) f (f.0, rw n f.1, rw n f.2, f.3) (start_known a tries rest h)
      (start_settled a tries rest h)
