-- Where the bodies of a file lie that has its six records: the settings say how long they are, all behind the stash's body has a fixed length, so the file's
-- length says the rest.
-- Assumes nothing.
use Prim.Native.Nat.{ℕ, ◌+◌, ◌-◌, ◌≤◌}
use mathlib.Core.Path.{◌≡◌, refl, sym, ap, ◌∙◌}
use mathlib.Core.Bool.{Bool, true, false, cond}
use mathlib.Core.List.{List, [], ◌∷◌}
use native.Mathlib.Nat.{add-sub_cancel_left}
use native.Mathlib.Omega.{arith}
use borrow.Author.Tests.{eqb-true}
use lib.Dec.{eqb}
use lib.ListN.{length, drop, length-drop}
use Rattle.words.specs.Bytes.{part}
use Rattle.words.proofs.Bytes.{length_part}
use Rattle.handover_file.specs.Sections.{Shape, body_length, Cut, bodies, misplaced, missized, before, cut_as}
use Rattle.handover_file.specs.Cookies.{stash_fits}
use Rattle.handover_file.specs.File.{sized, settings_fits, shapes}
use Rattle.handover_file.proofs.Places as P
use Rattle.handover_file.proofs.Places.{place_at, length_at}
use Rattle.handover_file.proofs.At.{View, good, less, more, view, step_other, step_short, step}

-- ---- cuts that are good

abbrev list_of : Cut → List (List ℕ)
list_of (bodies bs) = bs
list_of misplaced = []
list_of missized = []

abbrev is_good : Cut → ℕ
is_good (bodies bs) = 1
is_good misplaced = 0
is_good missized = 0

bad : (c : Cut) (bs : List (List ℕ)) {A : Type 0} → is_good c ≡ 0 → c ≡ bodies bs → A
bad c bs z e = let o : ◌≡◌ {A = ℕ} 0 1 = sym z ∙ ap is_good e in absurd (omega arith)

cond_good : (t : Bool) (b : List ℕ) (c : Cut) (bs : List (List ℕ)) → cond t (before b c) missized ≡ bodies bs → (t ≡ true) × (c ≡ bodies (list_of c)) ×
    (bs ≡ b ∷ list_of c)
cond_good true b (bodies cs) bs e = (refl, refl, sym (ap list_of e))
cond_good true b misplaced bs e = bad misplaced bs refl e
cond_good true b missized bs e = bad missized bs refl e
cond_good false b c bs e = bad missized bs refl e

-- ---- the first of the records from an offset on

record First (f : List ℕ) (at : ℕ) (s : Shape) (ss : List Shape) (bs : List (List ℕ)) : Type 0 where
  size : ℕ
  said : size ≡ length_at f at
  others : List (List ℕ)
  inside : at + 4 + size ≤ length f
  is : bs ≡ part f (at + 4) size ∷ others
  fits : s.fits (part f (at + 4) size) ≡ true
  next : cut_as ss (drop (at + 4 + size) f) ≡ bodies others

first : (f : List ℕ) (at : ℕ) (s : Shape) (ss : List Shape) (bs : List (List ℕ)) → at ≤ length f → cut_as (s ∷ ss) (drop at f) ≡ bodies bs → First f at s ss bs
first f at s ss bs h e = go (place_at f at s.mark) refl (view f at s.mark)
  where
    go : (p : P.Place) → place_at f at s.mark ≡ p → View f at s.mark p → First f at s ss bs
    go _ q less = bad missized bs refl (sym (step_short f at h s ss q) ∙ e)
    go _ q more = bad misplaced bs refl (sym (step_other f at h s ss q) ∙ e)
    go _ q (good w) =
        let k = length_at f at in
        let d : at + 4 + k - (at + 4) ≡ k = add-sub_cancel_left (at + 4) k in
        let b = part f (at + 4) (at + 4 + k - (at + 4)) in
        let c = cut_as ss (drop (at + 4 + k) f) in
        let g = cond_good (s.fits b) b c bs (sym (step f at h s ss _ q) ∙ e) in
        record {
          size = k;
          said = refl;
          others = list_of c;
          inside = w;
          is = g.2 ∙ ap (λ (j : ℕ). part f (at + 4) j ∷ list_of c) d;
          fits = sym (ap (λ (j : ℕ). s.fits (part f (at + 4) j)) d) ∙ g.0;
          next = g.1;
        }

-- a record of n bytes
size_is : (f : List ℕ) (at m n : ℕ) (ss : List Shape) (bs : List (List ℕ)) (r : First f at (sized m n) ss bs) → r.size ≡ n
size_is f at m n ss bs r = sym (length_part f (at + 4) r.size r.inside) ∙ eqb-true _ n r.fits

last : (f : List ℕ) (at : ℕ) (bs : List (List ℕ)) → cut_as [] (drop at f) ≡ bodies bs → (bs ≡ []) × (length f ≤ at)
last f at bs e = go (eqb (length (drop at f)) 0) refl e
  where
    go : (t : Bool) → eqb (length (drop at f)) 0 ≡ t → cond t (bodies []) missized ≡ bodies bs → (bs ≡ []) × (length f ≤ at)
    go true z e = (sym (ap list_of e), omega (arith, eqb-true (length (drop at f)) 0 z, length-drop at f))
    go false z e = bad missized bs refl e

-- ---- all six

-- the bodies of a file whose settings have k bytes, and whose stash's body ends at an offset
abbrev pub parts_at : List ℕ → ℕ → ℕ → List (List ℕ)
parts_at f k e = part f 4 k ∷ part f (8 + k) (e - (8 + k)) ∷ part f (e + 4) 2 ∷ part f (e + 10) 2 ∷ part f (e + 16) 2 ∷ part f (e + 22) 6 ∷ []

pub record Six (f : List ℕ) : Type 0 where
  pub long : 36 + body_length f ≤ length f
  pub cuts : cut_as shapes f ≡ bodies (parts_at f (body_length f) (length f - 28))
  pub stash : stash_fits (part f (8 + body_length f) (length f - 28 - (8 + body_length f))) ≡ true

part_same : (f : List ℕ) {x y m n : ℕ} → x ≡ y → m ≡ n → part f x m ≡ part f y n
part_same f p q = λ i. part f (p i) (q i)

linked : {b c : List ℕ} {bs cs ds : List (List ℕ)} → bs ≡ b ∷ cs → b ≡ c → cs ≡ ds → bs ≡ c ∷ ds
linked e p q = e ∙ (λ i. p i ∷ q i)

-- the records from each on
abbrev from₅ : List Shape
from₅ = sized 0x534F 6 ∷ []

abbrev from₄ : List Shape
from₄ = sized 0x504F 2 ∷ from₅

abbrev from₃ : List Shape
from₃ = sized 0x5645 2 ∷ from₄

abbrev from₂ : List Shape
from₂ = sized 0x5245 2 ∷ from₃

abbrev stashed : Shape
stashed = record { mark = 0x5354; fits = stash_fits }

abbrev settled : Shape
settled = record { mark = 0x5345; fits = settings_fits }

-- the length that stands first in a file
said_first : (f : List ℕ) → length_at f 0 ≡ body_length f
unfolding length_at body_length
said_first f = refl

-- where the bodies start, by the sizes of the six and the file's length: over numbers alone, since `omega` is slow among the records
record Starts (long k z₀ z₁ z₂ z₃ z₄ : ℕ) : Type 0 where
  most : 36 + k ≤ long
  held : z₁ ≡ long - 28 - (8 + k)
  second : 0 + 4 + z₀ + 4 ≡ 8 + k
  third : 0 + 4 + z₀ + 4 + z₁ + 4 ≡ long - 28 + 4
  fourth : 0 + 4 + z₀ + 4 + z₁ + 4 + z₂ + 4 ≡ long - 28 + 10
  fifth : 0 + 4 + z₀ + 4 + z₁ + 4 + z₂ + 4 + z₃ + 4 ≡ long - 28 + 16
  sixth : 0 + 4 + z₀ + 4 + z₁ + 4 + z₂ + 4 + z₃ + 4 + z₄ + 4 ≡ long - 28 + 22

starts : (long k z₀ z₁ z₂ z₃ z₄ z₅ : ℕ) → z₀ ≡ k → z₂ ≡ 2 → z₃ ≡ 2 → z₄ ≡ 2 → z₅ ≡ 6
    → 0 + 4 + z₀ + 4 + z₁ + 4 + z₂ + 4 + z₃ + 4 + z₄ + 4 + z₅ ≤ long → long ≤ 0 + 4 + z₀ + 4 + z₁ + 4 + z₂ + 4 + z₃ + 4 + z₄ + 4 + z₅ →
    Starts long k z₀ z₁ z₂ z₃ z₄
starts long k z₀ z₁ z₂ z₃ z₄ z₅ s₀ s₂ s₃ s₄ s₅ least most =
    record {
      most = omega arith;
      held = omega arith;
      second = omega arith;
      third = omega arith;
      fourth = omega arith;
      fifth = omega arith;
      sixth = omega arith;
    }

pub six : (f : List ℕ) (bs : List (List ℕ)) → cut_as shapes f ≡ bodies bs → Six f
six f bs g =
    let r₀ : First f 0 settled (stashed ∷ from₂) bs = first f 0 settled (stashed ∷ from₂) bs (omega arith) g in
    let a₁ = 0 + 4 + r₀.size in
    let r₁ : First f a₁ stashed from₂ r₀.others = first f a₁ stashed from₂ r₀.others r₀.inside r₀.next in
    let a₂ = a₁ + 4 + r₁.size in
    let r₂ : First f a₂ (sized 0x5245 2) from₃ r₁.others = first f a₂ (sized 0x5245 2) from₃ r₁.others r₁.inside r₁.next in
    let a₃ = a₂ + 4 + r₂.size in
    let r₃ : First f a₃ (sized 0x5645 2) from₄ r₂.others = first f a₃ (sized 0x5645 2) from₄ r₂.others r₂.inside r₂.next in
    let a₄ = a₃ + 4 + r₃.size in
    let r₄ : First f a₄ (sized 0x504F 2) from₅ r₃.others = first f a₄ (sized 0x504F 2) from₅ r₃.others r₃.inside r₃.next in
    let a₅ = a₄ + 4 + r₄.size in
    let r₅ : First f a₅ (sized 0x534F 6) [] r₄.others = first f a₅ (sized 0x534F 6) [] r₄.others r₄.inside r₄.next in
    let l = last f (a₅ + 4 + r₅.size) r₅.others r₅.next in
    let k = body_length f in
    let e = length f - 28 in
    let s₀ : r₀.size ≡ k = r₀.said ∙ said_first f in
    let s₂ : r₂.size ≡ 2 = size_is f a₂ 0x5245 2 from₃ r₁.others r₂ in
    let s₃ : r₃.size ≡ 2 = size_is f a₃ 0x5645 2 from₄ r₂.others r₃ in
    let s₄ : r₄.size ≡ 2 = size_is f a₄ 0x504F 2 from₅ r₃.others r₄ in
    let s₅ : r₅.size ≡ 6 = size_is f a₅ 0x534F 6 [] r₄.others r₅ in
    let p = starts (length f) k r₀.size r₁.size r₂.size r₃.size r₄.size r₅.size s₀ s₂ s₃ s₄ s₅ r₅.inside l.1 in
    let b₀ : part f (0 + 4) r₀.size ≡ part f 4 k = part_same f refl s₀ in
    let b₁ : part f (a₁ + 4) r₁.size ≡ part f (8 + k) (e - (8 + k)) = part_same f p.second p.held in
    let b₂ : part f (a₂ + 4) r₂.size ≡ part f (e + 4) 2 = part_same f p.third s₂ in
    let b₃ : part f (a₃ + 4) r₃.size ≡ part f (e + 10) 2 = part_same f p.fourth s₃ in
    let b₄ : part f (a₄ + 4) r₄.size ≡ part f (e + 16) 2 = part_same f p.fifth s₄ in
    let b₅ : part f (a₅ + 4) r₅.size ≡ part f (e + 22) 6 = part_same f p.sixth s₅ in
    record {
      long = p.most;
      cuts = g ∙ ap bodies
          (linked r₀.is b₀ (linked r₁.is b₁ (linked r₂.is b₂ (linked r₃.is b₃ (linked r₄.is b₄ (linked r₅.is b₅ l.0))))));
      stash = sym (ap stash_fits b₁) ∙ r₁.fits;
    }
