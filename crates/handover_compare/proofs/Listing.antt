-- What the loops keep: the entries that are still to be counted, and to be written.
-- Assumes nothing.
use Prim.Native.Nat.{ℕ, ◌+◌, ◌≤◌, ◌<◌}
use mathlib.Core.Path.{◌≡◌, refl, sym, ap, subst, ◌∙◌}
use mathlib.Core.Bool.{Bool, true, false, cond}
use mathlib.Core.List.{List, [], ◌∷◌, ◌++◌, append_assoc, append-nil}
use native.Mathlib.Omega.{arith}
use native.Mathlib.Numerals.{add-one}
use lib.ListN.{length, get_or, drop, length-append, drop_of_length-le}
use lib.Seq.{drop-cons}
use Rattle.words.specs.Put.{laid_at, Put}
use Rattle.words.proofs.Put.{laid_none, laid_on, put_put, put_long}
use Rattle.handover_compare.specs.declared.fields.Field.{Field}
use Rattle.handover_compare.specs.declared.fields.Groups.{Groups}
use Rattle.handover_compare.specs.Fields.{differing, list_bytes, entry_bytes}
use Rattle.handover_compare.specs.Steps.{all_of}
use Rattle.handover_compare.proofs.Listed.{entry_long, list_long}

-- ---- lists of fields, one behind the other

pub differing_append : (xs ys : List Field) → differing (xs ++ ys) ≡ differing xs ++ differing ys
differing_append [] ys = refl
differing_append (x ∷ xs) ys = go (differing_append xs ys) x.same
  where
    go : differing (xs ++ ys) ≡ differing xs ++ differing ys → (t : Bool) →
        cond t (differing (xs ++ ys)) (x ∷ differing (xs ++ ys)) ≡ cond t (differing xs) (x ∷ differing xs) ++ differing ys
    go rest true = rest
    go rest false = ap (λ (l : List Field). x ∷ l) rest

pub bytes_append : (xs ys : List Field) → list_bytes (xs ++ ys) ≡ list_bytes xs ++ list_bytes ys
bytes_append [] ys = refl
bytes_append (x ∷ xs) ys = ap (λ (l : List ℕ). entry_bytes x ++ l) (bytes_append xs ys) ∙ sym (append_assoc (entry_bytes x) (list_bytes xs) (list_bytes ys))

-- the bytes of the fields that differ, of rows one behind the other
pub told_append : (xs ys : List Field) → list_bytes (differing (xs ++ ys)) ≡ list_bytes (differing xs) ++ list_bytes (differing ys)
told_append xs ys = ap list_bytes (differing_append xs ys) ∙ bytes_append (differing xs) (differing ys)

-- a field, and those behind it
next_field : (fs : List Field) (i : ℕ) (d : Field) → i < length fs → drop i fs ≡ (get_or fs i d ∷ []) ++ drop (i + 1) fs
next_field fs i d h = rw (add-one, drop-cons fs i d h)

-- ---- one field

module _ (f : Field) where
  module _ (e : f.same ≡ true) where
    left_out_lem : differing (f ∷ []) ≡ []
    left_out_lem = ap (λ (t : Bool). cond t [] (f ∷ [])) e

    pub none_counted : 0 ≡ length (differing (f ∷ []))
    none_counted = sym (ap length left_out_lem)

    pub none_put : (out : List ℕ) (at : ℕ) → Put out at (list_bytes (differing (f ∷ []))) at out
    none_put out at = record {
      ends = omega (arith, none_counted, list_long (differing (f ∷ [])));
      leaves = sym
          (ap (λ (l : List Field). laid_at out at (list_bytes l)) left_out_lem ∙ laid_none out at);
    }

  module _ (e : f.same ≡ false) where
    taken : differing (f ∷ []) ≡ f ∷ []
    taken = ap (λ (t : Bool). cond t [] (f ∷ [])) e

    pub one_bytes : list_bytes (differing (f ∷ [])) ≡ entry_bytes f
    one_bytes = ap list_bytes taken ∙ append-nil (entry_bytes f)

    pub one_put : {out p : List ℕ} {at r : ℕ} (b : List ℕ) → b ≡ entry_bytes f → Put out at b r p → Put out at (list_bytes (differing (f ∷ []))) r p
    one_put {out = out} {p = p} {at = at} {r = r} b eb a = subst (λ (w : List ℕ). Put out at w r p) (eb ∙ sym one_bytes) a

    pub one_long : length (list_bytes (differing (f ∷ []))) ≡ 19
    one_long = ap length one_bytes ∙ entry_long f

-- ---- counting

pub record Counting (fs : List Field) (n i : ℕ) : Type 0 where
  pub few : n ≤ i
  pub within : i ≤ 8
  pub sum : n + length (differing (drop i fs)) ≡ length (differing fs)

-- five groups are all fields
pub sum_groups : (g : Groups) (s m r c t : ℕ) → s ≡ length (differing g.settings) → m ≡ length (differing (g.capacity ∷ [])) →
    r ≡ length (differing (g.read ∷ [])) → c ≡ length (differing g.cookies) → t ≡ length (differing g.state)
    → s + m + r + c + t ≡ length (differing (all_of g))
sum_groups g s m r c t es em er ec et =
    let tail = g.cookies ++ g.state in
    let rest = (g.read ∷ []) ++ tail in
    let e₀ : length (differing (all_of g)) ≡ length (differing g.settings) + length (differing ((g.capacity ∷ []) ++ rest))
    = ap length (differing_append g.settings ((g.capacity ∷ []) ++ rest))
    ∙ length-append (differing g.settings) (differing ((g.capacity ∷ []) ++ rest)) in
    let e₁ : length (differing ((g.capacity ∷ []) ++ rest)) ≡ length (differing (g.capacity ∷ [])) + length (differing rest)
    = ap length (differing_append (g.capacity ∷ []) rest) ∙ length-append (differing (g.capacity ∷ [])) (differing rest) in
    let e₂ : length (differing ((g.read ∷ []) ++ tail)) ≡ length (differing (g.read ∷ [])) + length (differing tail)
    = ap length (differing_append (g.read ∷ []) tail) ∙ length-append (differing (g.read ∷ [])) (differing tail) in
    let e₃ : length (differing tail) ≡ length (differing g.cookies) + length (differing g.state)
    = ap length (differing_append g.cookies g.state) ∙ length-append (differing g.cookies) (differing g.state) in
    omega (arith, e₀, e₁, e₂, e₃, es, em, er, ec, et)

-- ---- writing

-- the bytes v are still to be put at `to`, and then the bytes w stand at `at`
pub record Owed (out₀ : List ℕ) (at : ℕ) (w : List ℕ) (out : List ℕ) (to : ℕ) (v : List ℕ) : Type 0 where
  pub long : length out ≡ length out₀
  pub ends : to + length v ≡ at + length w
  pub same : laid_at out to v ≡ laid_at out₀ at w

module _ (out₀ : List ℕ) (at : ℕ) (w : List ℕ) (room : at + length w ≤ length out₀) (out : List ℕ) (to : ℕ) (v : List ℕ) (o : Owed out₀ at w out to v) where
  module _ (x u : List ℕ) (e : v ≡ x ++ u) where
    pub next_fits : to + length x ≤ length out
    next_fits = omega (arith, ap length e, length-append x u, o.ends, o.long)

    pub owed_next : (r : ℕ) (p : List ℕ) → Put out to x r p → Owed out₀ at w p r u
    owed_next r p a =
        record {
          long = put_long x a next_fits ∙ o.long;
          ends = omega (arith, ap length e, length-append x u, o.ends, a.ends);
          same = (λ i. laid_at (a.leaves i) (a.ends i) u) ∙ laid_on out to x next_fits u ∙ sym (ap (laid_at out to) e) ∙ o.same;
        }

  pub owed_none : v ≡ [] → Put out₀ at w to out
  owed_none z = record { ends = omega (arith, o.ends, ap length z); leaves = sym (laid_none out to) ∙ sym (ap (laid_at out to) z) ∙ o.same }

-- what is ahead of the loop over eight fields
abbrev pub ahead : List Field → ℕ → List ℕ
ahead fs i = list_bytes (differing (drop i fs))

pub ahead_next : (fs : List Field) (i : ℕ) (d : Field) → i < length fs → ahead fs i ≡ list_bytes (differing (get_or fs i d ∷ [])) ++ ahead fs (i + 1)
ahead_next fs i d h = ap (λ (l : List Field). list_bytes (differing l)) (next_field fs i d h) ∙ told_append (get_or fs i d ∷ []) (drop (i + 1) fs)

pub ahead_none : (fs : List Field) (i : ℕ) → length fs ≤ i → ahead fs i ≡ []
ahead_none fs i h = ap (λ (l : List Field). list_bytes (differing l)) (drop_of_length-le fs {i = i} h)

-- the five groups, one behind the other
pub groups_told : (g : Groups) → list_bytes (differing (all_of g))
    ≡ list_bytes (differing g.settings)
    ++ (list_bytes (differing (g.capacity ∷ []))
    ++ (list_bytes (differing (g.read ∷ [])) ++ (list_bytes (differing g.cookies) ++ list_bytes (differing g.state))))
groups_told g =
    let s = list_bytes (differing g.settings) in
    let m = list_bytes (differing (g.capacity ∷ [])) in
    let r = list_bytes (differing (g.read ∷ [])) in
    let tail = g.cookies ++ g.state in
    let rest = (g.read ∷ []) ++ tail in
    told_append g.settings ((g.capacity ∷ []) ++ rest)
    ∙ ap (λ (l : List ℕ). s ++ l) (told_append (g.capacity ∷ []) rest)
    ∙ ap (λ (l : List ℕ). s ++ (m ++ l)) (told_append (g.read ∷ []) tail)
    ∙ ap (λ (l : List ℕ). s ++ (m ++ (r ++ l))) (told_append g.cookies g.state)

pub groups_long : (g : Groups) → length (list_bytes (differing (all_of g)))
    ≡ length (list_bytes (differing g.settings))
    + (length (list_bytes (differing (g.capacity ∷ [])))
    + (length (list_bytes (differing (g.read ∷ []))) + (length (list_bytes (differing g.cookies)) + length (list_bytes (differing g.state)))))
groups_long g =
    let s = list_bytes (differing g.settings) in
    let m = list_bytes (differing (g.capacity ∷ [])) in
    let r = list_bytes (differing (g.read ∷ [])) in
    let c = list_bytes (differing g.cookies) in
    let t = list_bytes (differing g.state) in
    omega (
      arith,
      ap length (groups_told g),
      length-append s (m ++ (r ++ (c ++ t))),
      length-append m (r ++ (c ++ t)),
      length-append r
          (c ++ t),
      length-append c t,
    )

-- written one behind the other they are the list
pub groups_put : {out o p q u left : List ℕ} {h i j k n : ℕ} (g : Groups) → length (list_bytes (differing (all_of g))) ≤ length out
    → Put out 0 (list_bytes (differing g.settings)) h o → Put o h (list_bytes (differing (g.capacity ∷ []))) i p →
    Put p i (list_bytes (differing (g.read ∷ []))) j q
    → Put q j (list_bytes (differing g.cookies)) k u → Put u k (list_bytes (differing g.state)) n left
    → Put out 0 (list_bytes (differing (all_of g))) n left
groups_put {out = out} {left = left} {n = n} g fits z a b c d =
    let s = list_bytes (differing g.settings) in
    let m = list_bytes (differing (g.capacity ∷ [])) in
    let r = list_bytes (differing (g.read ∷ [])) in
    let k = list_bytes (differing g.cookies) in
    let t = list_bytes (differing g.state) in
    let l = groups_long g in
    let one = put_put s m z a (omega (arith, l)) in
    let two = put_put (s ++ m) r one b (omega (arith, l, length-append s m)) in
    let three = put_put ((s ++ m) ++ r) k two c (omega (arith, l, length-append (s ++ m) r, length-append s m)) in
    let all = put_put (((s ++ m) ++ r) ++ k) t three d (omega (arith, l, length-append ((s ++ m) ++ r) k, length-append (s ++ m) r, length-append s m)) in
    subst (λ (w : List ℕ). Put out 0 w n left)
    (append_assoc ((s ++ m) ++ r) k t ∙ append_assoc (s ++ m) r (k ++ t) ∙ append_assoc s m (r ++ (k ++ t)) ∙ sym (groups_told g)) all
