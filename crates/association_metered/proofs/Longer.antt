-- A search of a cookie list for a cookie that is too long: by a test of each cookie, as the iterator's `any` makes it, and by the definition.
-- Assumes nothing.
use mathlib.Core.Path.{◌≡◌, refl, ap, ◌∙◌}
use mathlib.Core.Bool.{true, ◌||◌}
use mathlib.Core.List.{List, [], ◌∷◌}
use Prim.Native.Nat.{ℕ}
use lib.Dec.{ltb}
use lib.ListN.{length}
use Rattle.std.specs.List.{list_any}
use Rattle.cookielist.specs.List.{Listed, whole, broken, is_whole, cookies_in}
use Rattle.cookielist.specs.Cookies.{cookies_given}
use Rattle.cookielist.proofs.Given.{given_whole}
use Rattle.association_metered.specs.Profile.{any_longer, longer_in}

any_is : (most : ℕ) (cs : List (List ℕ)) → list_any (λ c. ltb most (length c)) cs ≡ any_longer most cs
any_is most [] = refl
any_is most (c ∷ cs) = ap (λ t. ltb most (length c) || t) (any_is most cs)

-- of a list that is not broken
pub any_longer_is : (most : ℕ) (l : List ℕ) → is_whole (cookies_in l) ≡ true →
    list_any (λ c. ltb most (length c)) (cookies_given l) ≡ longer_in most (cookies_in l)
any_longer_is most l w = by (cookies_in l) refl w
  where
    by : (r : Listed) → cookies_in l ≡ r → is_whole r ≡ true →
        list_any (λ c. ltb most (length c)) (cookies_given l) ≡ longer_in most r
    by (whole cs) e h = ap (list_any (λ c. ltb most (length c))) (given_whole l cs e) ∙ any_is most cs
    by broken e h = cc
