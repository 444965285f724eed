-- What a file that is read where it lies has to do with loading it: the answer is the same, and the association is made of what was found.
-- Assumes nothing.
use Prim.Native.Nat.{ℕ, ◌+◌, ◌-◌, ◌≤◌}
use mathlib.Core.Path.{◌≡◌, refl, sym, ap, subst, ◌∙◌}
use mathlib.Core.Bool.{Bool, true, false, cond, ◌&&◌}
use mathlib.Core.List.{List, [], ◌∷◌}
use native.Mathlib.Omega.{arith}
use lib.ListN.{length}
use Rattle.std.specs.Prelude.{Result, Ok, Err}
use Rattle.words.specs.Bytes.{part}
use Rattle.words.proofs.Bytes.{Bytes, bytes_part}
use Rattle.words.proofs.Tests.{both, when, unless}
use Rattle.association.specs.declared.Association.{Association}
use Rattle.association.specs.declared.Settings.{Settings}
use Rattle.association.specs.declared.State.{State}
use Rattle.association.specs.Record.{whole_of}
use Rattle.handover_groups.specs.Settings.{settings_of, settings_known}
use Rattle.handover_groups.specs.State.{version_known, source_known}
use Rattle.handover_file.specs.declared.Loaded.{Loaded}
use Rattle.handover_file.specs.declared.LoadRefusal.{LoadRefusal}
use Rattle.handover_file.specs.declared.LoadRefusal.TheVariants.{WrongMark, WrongLength, NoAssociation}
use Rattle.handover_file.specs.declared.LoadOut.{LoadOut}
use Rattle.handover_file.specs.declared.cut.Fault.{Fault}
use Rattle.handover_file.specs.declared.cut.Fault.TheVariants.{Misplaced, Missized}
use Rattle.handover_file.specs.Sections.{Cut, bodies, misplaced, missized, body_length, cut_as}
use Rattle.handover_file.specs.Cookies.{stash_fits, stash_known, stash_of}
use Rattle.handover_file.specs.File.{shapes, known, record_in, retired, settled_settings, settled}
use Rattle.handover_file.specs.Answers.{refusal_of, told, loaded, refused, load_in, load_of}
use Rattle.handover_file.specs.Answers as A
use Rattle.handover_file.specs.Steps.{fault_of}
use Rattle.handover_file.proofs.Six.{parts_at, Six, six}
use Rattle.handover_load.specs.Reading.{Contents, found_as, on_cut, read_of}

-- ---- as the code reads it

second_body : Cut → List ℕ
second_body (bodies (a ∷ (b ∷ bs))) = b
second_body (bodies (a ∷ [])) = []
second_body (bodies []) = []
second_body misplaced = []
second_body missized = []

pub reads_fault : (f : List ℕ) (x : Fault) → cut_as shapes f ≡ fault_of x → Err (refusal_of x) ≡ read_of f
unfolding read_of
reads_fault f Misplaced e = sym (ap (on_cut f) e)
reads_fault f Missized e = sym (ap (on_cut f) e)

-- the stash's body stands behind the settings, and before the other records
pub stash_part : (f se st : List ℕ) (bs : List (List ℕ)) → cut_as shapes f ≡ bodies (se ∷ (st ∷ bs)) →
    st ≡ part f (8 + body_length f) (length f - 28 - (8 + body_length f))
unfolding second_body
stash_part f se st bs e = let s = six f (se ∷ (st ∷ bs)) e in ap second_body (sym e ∙ s.cuts)

-- bytes in a file of bytes
pub stash_bytes : (f se st : List ℕ) (bs : List (List ℕ)) → Bytes f → cut_as shapes f ≡ bodies (se ∷ (st ∷ bs)) → Bytes st
stash_bytes f se st bs y e =
    let k = 8 + body_length f in
    subst Bytes (sym (stash_part f se st bs e)) (bytes_part f k (length f - 28 - k) y)

module _ (f : List ℕ) (bs : List (List ℕ)) (e : cut_as shapes f ≡ bodies bs) where
  pub reads_none : (known bs && whole_of (settled (record_in bs))) ≡ false → Err NoAssociation ≡ read_of f
  unfolding read_of found_as
  reads_none w = sym (ap (on_cut f) e ∙ unless _ _ w)

  pub reads_some : {t : Bool} {g : Settings} {q : State} {st : List ℕ} → (known bs && whole_of (settled (record_in bs))) ≡ true →
      t ≡ retired (record_in bs).settings (record_in bs).state → g ≡ (settled (record_in bs)).settings → q ≡ (settled (record_in bs)).state →
      st ≡ part f (8 + body_length f) (length f - 28 - (8 + body_length f)) →
      Ok (record { retired = t; settings = g; state = q; stash = st }) ≡ read_of f
  unfolding read_of found_as
  reads_some w t g q p =
      (λ i. Ok (record { retired = t i; settings = g i; state = q i; stash = p i })) ∙ sym (ap (on_cut f) e ∙ when _ _ w)

-- ---- the answer

-- what is told of a file that is read
abbrev pub answer_of : Result Contents LoadRefusal → Result Loaded LoadRefusal
answer_of (Ok r) = told r.retired
answer_of (Err e) = Err e

answer_in : (bs : List (List ℕ)) (f : List ℕ) (start end : ℕ) → answer_of (found_as bs f start end) ≡ (load_in bs).answer
unfolding found_as load_in
answer_in bs f start end = go (known bs) (whole_of (settled (record_in bs)))
  where
    go : (k w : Bool) →
        answer_of (cond (k && w) (Ok (record {
          retired = retired (record_in bs).settings (record_in bs).state;
          settings = (settled (record_in bs)).settings;
          state = (settled (record_in bs)).state;
          stash = part f start (end - start);
        })) (Err NoAssociation))
        ≡ (cond k (cond w (loaded (told (retired (record_in bs).settings (record_in bs).state)) (settled (record_in bs))) (refused NoAssociation))
        (refused NoAssociation)).answer
    go true true = refl
    go true false = refl
    go false w = refl

answer_by : (f : List ℕ) (c : Cut) → answer_of (on_cut f c) ≡ (A.on_cut c).answer
answer_by f (bodies bs) = answer_in bs f (8 + body_length f) (length f - 28)
answer_by f misplaced = refl
answer_by f missized = refl

-- a rejected file leaves the blank record
abbrev Blank : LoadOut → Type 0
Blank o = (e : LoadRefusal) → o.answer ≡ Err e → o ≡ refused e

same_refusal : (x e : LoadRefusal) → ◌≡◌ {A = Result Loaded LoadRefusal} (Err x) (Err e) → x ≡ e
same_refusal x e p = cc

blank_refused : (x : LoadRefusal) → Blank (refused x)
blank_refused x e p = ap refused (same_refusal x e p)

blank_loaded : (said : Bool) (a : Association) → Blank (loaded (told said) a)
blank_loaded said a e p = let z : ◌≡◌ {A = ℕ} 0 1 = cc in absurd (omega arith)

blank_in : (bs : List (List ℕ)) → Blank (load_in bs)
unfolding load_in
blank_in bs = go (known bs) (whole_of (settled (record_in bs)))
  where
    go : (k w : Bool) → Blank (cond k (cond w (loaded (told (retired (record_in bs).settings (record_in bs).state)) (settled (record_in bs)))
        (refused NoAssociation)) (refused NoAssociation))
    go true true = blank_loaded (retired (record_in bs).settings (record_in bs).state) (settled (record_in bs))
    go true false = blank_refused NoAssociation
    go false w = blank_refused NoAssociation

blank_on : (c : Cut) → Blank (A.on_cut c)
blank_on (bodies bs) = blank_in bs
blank_on misplaced = blank_refused WrongMark
blank_on missized = blank_refused WrongLength

-- ---- what was found

-- the stash's body lies in the file, behind the settings and before the 28 bytes of the records after it
pub record Found (f : List ℕ) (r : Contents) : Type 0 where
  pub ordered : 8 + body_length f ≤ length f - 28
  pub inside : length f - 28 ≤ length f
  pub placed : r.stash ≡ part f (8 + body_length f) (length f - 28 - (8 + body_length f))
  pub bytes : Bytes f → Bytes r.stash
  pub fits : stash_fits r.stash ≡ true
  pub known : stash_known r.settings.capacity r.stash ≡ true
  pub association : (load_of f).association ≡ record { settings = r.settings; stash = stash_of r.settings.capacity r.stash; state = r.state }

module _ (f : List ℕ) (s : Six f) where
  abbrev start : ℕ
  start = 8 + body_length f

  abbrev end : ℕ
  end = length f - 28

  abbrev parts : List (List ℕ)
  parts = parts_at f (body_length f) end

  abbrev settings : List ℕ
  settings = part f 4 (body_length f)

  abbrev stash : List ℕ
  stash = part f start (end - start)

  abbrev codes : Bool
  codes = version_known (part f (end + 10) 2) && source_known (part f (end + 22) 6)

  abbrev here : Contents
  here = record {
    retired = retired (record_in parts).settings (record_in parts).state;
    settings = (settled (record_in parts)).settings;
    state = (settled (record_in parts)).state;
    stash = stash;
  }

  module _ (l : (known parts && whole_of (settled (record_in parts))) ≡ true) where
    loads_as : (load_in parts).association ≡ settled (record_in parts)
    unfolding load_in
    loads_as = let p = both (known parts) (whole_of (settled (record_in parts))) l in ap (λ (o : LoadOut). o.association) (when _ _ p.0 ∙ when _ _ p.1)

    made : settled (record_in parts) ≡ record { settings = here.settings; stash = stash_of here.settings.capacity stash; state = here.state }
    unfolding settled record_in settled_settings
    made = refl

    known_here : stash_known here.settings.capacity stash ≡ true
    unfolding known record_in settled settled_settings
    known_here =
        let p = (both (known parts) (whole_of (settled (record_in parts))) l).0 in
        (both (stash_known (settings_of settings).capacity stash) codes
        (both (settings_known settings) (stash_known (settings_of settings).capacity stash && codes) p).1).0

    loads : (load_of f).association ≡ (load_in parts).association
    unfolding load_of
    loads = ap (λ (c : Cut). (A.on_cut c).association) s.cuts

    found_here : Found f here
    found_here =
        record {
          ordered = let long = s.long in omega arith;
          inside = omega arith;
          placed = refl;
          bytes = bytes_part f start (end - start);
          fits = s.stash;
          known = known_here;
          association = loads ∙ loads_as ∙ made;
        }

  same_read : (r q : Contents) → ◌≡◌ {A = Result Contents LoadRefusal} (Ok r) (Ok q) → r ≡ q
  same_read r q p = cc

  found_parts : (r : Contents) (t : Bool) → (known parts && whole_of (settled (record_in parts))) ≡ t → Ok r ≡ found_as parts f start end → Found f r
  unfolding found_as
  found_parts r true l h =
      let p = h ∙ when _ _ l in
      subst (Found f) (sym (same_read r here p)) (found_here l)
  found_parts r false l h =
      let p : ◌≡◌ {A = Result Contents LoadRefusal} (Ok r) (Err NoAssociation) = h ∙ unless _ _ l in
      let z : ◌≡◌ {A = ℕ} 0 1 = cc in
      absurd (omega arith)

found_by : (f : List ℕ) (r : Contents) (c : Cut) → cut_as shapes f ≡ c → Ok r ≡ on_cut f c → Found f r
found_by f r (bodies bs) e h =
    let s = six f bs e in
    let q : bodies bs ≡ bodies (parts f s) = sym e ∙ s.cuts in
    found_parts f s r (known (parts f s) && whole_of (settled (record_in (parts f s)))) refl (h ∙ ap (on_cut f) q)
found_by f r misplaced e h = let z : ◌≡◌ {A = ℕ} 0 1 = cc in absurd (omega arith)
found_by f r missized e h = let z : ◌≡◌ {A = ℕ} 0 1 = cc in absurd (omega arith)

-- promise: no6.8
pub answer_is : (f : List ℕ) (r : Result Contents LoadRefusal) → r ≡ read_of f → answer_of r ≡ (load_of f).answer
unfolding read_of load_of
answer_is f r e = ap answer_of e ∙ answer_by f (cut_as shapes f)

-- promise: no6.8
pub found_is : (f : List ℕ) (r : Contents) → Ok r ≡ read_of f → Found f r
unfolding read_of
found_is f r h = found_by f r (cut_as shapes f) refl h

pub refused_is : (f : List ℕ) (e : LoadRefusal) → Err e ≡ read_of f → load_of f ≡ refused e
unfolding load_of
refused_is f e h = blank_on (cut_as shapes f) e (sym (answer_is f (Err e) h))
