-- The faults and the values of the words so far, and those of one word more.
-- Assumes nothing.
use Rattle.std.proofs.Common.{◌≡◌, ℕ, ◌<◌, Bool, true, false, cond, List, [], ◌∷◌, ◌++◌, length, map, take, drop, get_or, suc, refl, sym, ap, ◌∙◌, subst}
use Rattle.std.proofs.Common.{append_assoc, append-nil, Option, Some, None, option_and_then, option_copied, option_map, bytes_eq, Bor, find}
use mathlib.Core.Path.{ap₂}
use Rattle.std.specs.Option.{option_or, is_some}
use Rattle.std.specs.BTreeMap.{BTreeMap, get_by, UpdatesBy}
use Rattle.std.specs.Cmp.Lexicographic.{slice_cmp}
use Rattle.std.specs.Ordering.{nat_cmp}
use Rattle.std.proofs.Math.Seq.{split_at}
use Rattle.std.specs.Iterator.{Yields}
use Rattle.std.proofs.lemmas.Iterator.{YieldsList}
use Rattle.std.proofs.lemmas.Iterator.Consumers.{YieldsList-turn, YieldsList-so_far}
use Rattle.std.proofs.lemmas.Slice.Eq.{bytes_eq-Decides}
use Rattle.std.proofs.lemmas.Map.Text.{btree_map_updates_str}
use Rattle.drill_text.specs.declared.fault.Fault.{Fault}
use Rattle.drill_text.specs.declared.fault.Fault.TheVariants.{NoPair, UnknownKey, Repeated}
use Rattle.drill_text.specs.Lines.{pair_of, value_in, key_fault, pair_fault, fault_in}

or_assoc : {V : Type 0} (a b c : Option V) → option_or (option_or a b) c ≡ option_or a (option_or b c)
or_assoc None b c = refl
or_assoc (Some x) b c = refl

or_none : {V : Type 0} (a : Option V) → option_or a None ≡ a
or_none None = refl
or_none (Some x) = refl

-- the first fault of words is that of some and then that of the rest
pub fault_split : (keys : List (Bor (List ℕ))) (before xs ys : List (List ℕ))
    → fault_in keys before (xs ++ ys) ≡ option_or (fault_in keys before xs) (fault_in keys (before ++ xs) ys)
fault_split keys before [] ys = ap (λ b. fault_in keys b ys) (sym (append-nil before))
fault_split keys before (x ∷ xs) ys =
    ap (option_or (pair_fault keys before (pair_of x))) (fault_split keys (before ++ x ∷ []) xs ys
    ∙ ap (λ b. option_or (fault_in keys (before ++ x ∷ []) xs) (fault_in keys b ys)) (append_assoc before (x ∷ []) xs))
    ∙ sym (or_assoc (pair_fault keys before (pair_of x)) (fault_in keys (before ++ x ∷ []) xs) (fault_in keys (before ++ x ∷ xs) ys))

-- a word behind words without a fault has the first one
pub first_fault : (keys : List (Bor (List ℕ))) (xs rest : List (List ℕ)) (word : List ℕ) (fault : Fault) → fault_in keys [] xs ≡ None
    → pair_fault keys xs (pair_of word) ≡ Some fault → fault_in keys [] (xs ++ word ∷ rest) ≡ Some fault
first_fault keys xs rest word fault fine e =
    fault_split keys [] xs (word ∷ rest) ∙ ap (λ f. option_or f (fault_in keys xs (word ∷ rest))) fine
    ∙ ap (λ f. option_or f (fault_in keys (xs ++ word ∷ []) rest)) e

pub no_fault_more : (keys : List (Bor (List ℕ))) (xs : List (List ℕ)) (word : List ℕ) → fault_in keys [] xs ≡ None → pair_fault keys xs (pair_of word) ≡ None
    → fault_in keys [] (xs ++ word ∷ []) ≡ None
no_fault_more keys xs word fine e =
    fault_split keys [] xs (word ∷ []) ∙ ap (λ f. option_or f (fault_in keys xs (word ∷ []))) fine ∙ ap (λ f. option_or f None) e

-- the value of a key among words and one more
value_push : (xs : List (List ℕ)) (word key : List ℕ) → value_in (xs ++ word ∷ []) key ≡ option_or (value_in xs key) (value_in (word ∷ []) key)
value_push [] word key = refl
value_push (x ∷ xs) word key =
    ap (option_or (option_and_then (λ p. cond (bytes_eq p.0 key) (Some p.1) None) (pair_of x))) (value_push xs word key)
    ∙ sym (or_assoc (option_and_then (λ p. cond (bytes_eq p.0 key) (Some p.1) None) (pair_of x)) (value_in xs key) (value_in (word ∷ []) key))

value_of_one : (word name value key : List ℕ) → Some (name, value) ≡ pair_of word → value_in (word ∷ []) key ≡ cond (bytes_eq name key) (Some value) None
value_of_one word name value key e = ap (λ o. option_or (option_and_then (λ p. cond (bytes_eq p.0 key) (Some p.1) None) o) None) (sym e)
    ∙ or_none (cond (bytes_eq name key) (Some value) None)

-- what a key that is not repeated adds
value_more : (xs : List (List ℕ)) (word name value key : List ℕ) → Some (name, value) ≡ pair_of word → value_in xs name ≡ None
    → value_in (xs ++ word ∷ []) key ≡ cond (bytes_eq name key) (Some value) (value_in xs key)
value_more xs word name value key e new =
    value_push xs word key ∙ ap (option_or (value_in xs key)) (value_of_one word name value key e) ∙ go (bytes_eq name key) refl where
      go : (b : Bool) → bytes_eq name key ≡ b
          → option_or (value_in xs key) (cond (bytes_eq name key) (Some value) None) ≡ cond (bytes_eq name key) (Some value) (value_in xs key)
      go true s = let same = (bytes_eq-Decides name key).0 s in let none : value_in xs key ≡ None =
          subst (λ k. value_in xs k ≡ None) same new in rw (s, none) refl
      go false s = rw s (or_none (value_in xs key))

-- the value of a key in the map
abbrev pub found : BTreeMap (Bor (List ℕ)) (Bor (List ℕ)) → List ℕ → Option (Bor (List ℕ))
found m key = get_by (λ k. slice_cmp nat_cmp key k.now) m

-- after an insertion the map has the values of the words with one word more
pub values_more : (xs : List (List ℕ)) (word : List ℕ) (key value : Bor (List ℕ)) (m n : BTreeMap (Bor (List ℕ)) (Bor (List ℕ)))
    → Some (key.now, value.now) ≡ pair_of word → value_in xs key.now ≡ None → ((q : List ℕ) → option_copied (found m q) ≡ value_in xs q)
    → UpdatesBy (λ x y. slice_cmp nat_cmp x.now y.now) (λ k. slice_cmp nat_cmp key.now k.now) m n (Some value) → (q : List ℕ)
    → option_copied (found n q) ≡ value_in (xs ++ word ∷ []) q
values_more xs word key value m n e new same u q =
    ap option_copied (btree_map_updates_str key.now m n (Some value) u q)
    ∙ go (bytes_eq key.now q) refl ∙ sym (value_more xs word key.now value.now q e new) where
      go : (b : Bool) → bytes_eq key.now q ≡ b
          → option_copied (cond (bytes_eq key.now q) (Some value) (found m q)) ≡ cond (bytes_eq key.now q) (Some value.now) (value_in xs q)
      go true s = rw s refl
      go false s = rw s (same q)

-- a key that is found has the name
pub found_key : (keys : List (Bor (List ℕ))) (name : List ℕ) (key : Bor (List ℕ)) → Some key ≡ find (λ k. bytes_eq k.now name) keys → key.now ≡ name
found_key [] name key e = cc
found_key (k ∷ keys) name key e = go (bytes_eq k.now name) refl e (found_key keys name key) where
  go : (b : Bool) → bytes_eq k.now name ≡ b → Some key ≡ find (λ k. bytes_eq k.now name) (k ∷ keys)
      → (Some key ≡ find (λ k. bytes_eq k.now name) keys → key.now ≡ name) → key.now ≡ name
  go true s e more = let t = rw s at e in let same : key ≡ k = cc in ap (λ r. r.now) same ∙ (bytes_eq-Decides k.now name).0 s
  go false s e more = more (rw s at e)

-- all words, cut around one that a loop has come to
cut_at : (all xs : List (List ℕ)) (n : ℕ) (word : List ℕ) → xs ≡ take n all → n < length all → word ≡ get_or all n word → all ≡ xs ++ word ∷ drop (suc n) all
cut_at all xs n word front within at = split_at all n word within ∙ ap₂ (λ f w. f ++ w ∷ drop (suc n) all) (sym front) (sym at)

pub cut : {S : Type 0} {steps : S → Option (Bor (List ℕ)) → S → Type 0} {s : S} (all : List (List ℕ)) (yielded : List (Bor (List ℕ))) (t : S)
    → Yields steps s yielded t → (r : Option (Bor (List ℕ))) (u : S) (word : Bor (List ℕ)) → r ≡ Some word → steps t r u
    → YieldsList steps (λ x. x.now) s all → all ≡ map (λ x. x.now) yielded ++ word.now ∷ drop (suc (length yielded)) all
cut all yielded t y r u word is step road =
    let turn = YieldsList-turn road yielded t y r u word is step in
    cut_at all (map (λ x. x.now) yielded) (length yielded) word.now (YieldsList-so_far road yielded t y) turn.0 turn.1

-- the first fault of all words, where a loop has come to it
pub fails_at : (keys : List (Bor (List ℕ))) (all xs rest : List (List ℕ)) (word : List ℕ) (fault : Fault) → all ≡ xs ++ word ∷ rest
    → fault_in keys [] xs ≡ None → pair_fault keys xs (pair_of word) ≡ Some fault → fault_in keys [] all ≡ Some fault
fails_at keys all xs rest word fault e fine fails = ap (fault_in keys []) e ∙ first_fault keys xs rest word fault fine fails

-- a word that is no pair, one with an unknown key, and one with a known key
pub no_pair : (keys : List (Bor (List ℕ))) (xs : List (List ℕ)) (word : List ℕ) (o : Option (Bor (List ℕ) × Bor (List ℕ))) → None ≡ o
    → option_map (λ p. (p.0.now, p.1.now)) o ≡ pair_of word → pair_fault keys xs (pair_of word) ≡ Some NoPair
no_pair keys xs word o none e = ap (pair_fault keys xs) (sym e ∙ ap (option_map (λ p. (p.0.now, p.1.now))) (sym none))

pub a_pair : (word : List ℕ) (o : Option (Bor (List ℕ) × Bor (List ℕ))) (name value : Bor (List ℕ)) → o ≡ Some (name, value)
    → option_map (λ p. (p.0.now, p.1.now)) o ≡ pair_of word → Some (name.now, value.now) ≡ pair_of word
a_pair word o name value some e = ap (option_map (λ p. (p.0.now, p.1.now))) (sym some) ∙ e

pub unknown : (keys : List (Bor (List ℕ))) (xs : List (List ℕ)) (word name value : List ℕ) → Some (name, value) ≡ pair_of word
    → None ≡ find (λ k. bytes_eq k.now name) keys → pair_fault keys xs (pair_of word) ≡ Some UnknownKey
unknown keys xs word name value e none = ap (pair_fault keys xs) (sym e) ∙ ap (key_fault xs) (sym none)

pub known : (keys : List (Bor (List ℕ))) (xs : List (List ℕ)) (word name value : List ℕ) (key : Bor (List ℕ)) → Some (name, value) ≡ pair_of word
    → Some key ≡ find (λ k. bytes_eq k.now name) keys → pair_fault keys xs (pair_of word) ≡ cond (is_some (value_in xs key.now)) (Some (Repeated key)) None
known keys xs word name value key e some = ap (pair_fault keys xs) (sym e) ∙ ap (key_fault xs) (sym some)

-- whether a key was there before
pub was_there : (xs : List (List ℕ)) (key : List ℕ) (old there : Option (Bor (List ℕ))) → old ≡ there → option_copied there ≡ value_in xs key
    → is_some (value_in xs key) ≡ is_some old
was_there xs key None there e same = ap is_some (sym same ∙ ap option_copied (sym e))
was_there xs key (Some v) there e same = ap is_some (sym same ∙ ap option_copied (sym e))

pub not_there : {V : Type 0} (o : Option V) → is_some o ≡ false → o ≡ None
not_there None e = refl
not_there (Some v) e = cc

pub map_same : {V : Type 0} (o : Option V) → option_map (λ v. v) o ≡ o
map_same None = refl
map_same (Some v) = refl
