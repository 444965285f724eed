-- What the list of a value gives, by its parts.
-- Assumes nothing.
use Rattle.std.proofs.Common.{◌≡◌, ℕ, ◌<◌, ◌≤◌, ◌⊎◌, inr, false, List, length, get_or, refl, sym, Option, Some, None, Ok, Err, Any, Bor, Vec, vec_items}
use Rattle.std.specs.List.{AllZip}
use Rattle.drill_text.specs.declared.fault.Fault.TheVariants.{Bad}
use Rattle.drill_text.specs.Reads.{IsList, parts_of}
use Rattle.drill_text.specs.Values.{is_none_sign}

pub list_fine : {T Z : Type 0} (gives : List ℕ → Option T → Type 0) (key text : Bor (List ℕ)) (most : ℕ) (value : Option (Bor (List ℕ))) (items : Vec T Z)
    → value ≡ Some text → is_none_sign text.now ≡ false → length (parts_of text.now) ≤ most
    → AllZip (λ part item. gives part (Some item)) (parts_of text.now) (vec_items items) → IsList gives key most value (Ok items)
list_fine gives key text most value items e digits few parsed = rw (e, digits) (few, parsed)

pub list_bad : {T : Type 0} (Z : Type 0) (gives : List ℕ → Option T → Type 0) (key text : Bor (List ℕ)) (most : ℕ) (value : Option (Bor (List ℕ)))
    → value ≡ Some text → is_none_sign text.now ≡ false → (most < length (parts_of text.now)) ⊎ Any (λ part. gives part None) (parts_of text.now)
    → IsList {Z = Z} gives key most value (Err (Bad key))
list_bad Z gives key text most value e digits why = rw e (inr (refl, digits, why))

-- a part for which P holds is one of the parts
pub any_at : (P : List ℕ → Type 0) (parts : List (List ℕ)) (i : ℕ) (part : List ℕ) → i < length parts → part ≡ get_or parts i part → P part → Any P parts
any_at P parts i part within same holds = (i, part, within, sym same, holds)
