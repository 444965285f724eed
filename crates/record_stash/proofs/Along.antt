-- A list that is stored cookie by cookie in lent bytes.
-- Assumes nothing.
use Prim.Native.Nat.{ℕ, ◌<◌}
use mathlib.Core.Path.{◌≡◌, refl, subst, ◌∙◌}
use mathlib.Core.Bool.{true, false}
use mathlib.Core.List.{List, [], ◌∷◌}
use lib.ListN.{length}
use Rattle.std.proofs.Common.{Option}
use Rattle.words.proofs.Bytes.{Bytes}
use Rattle.cookielist.specs.List.{is_whole, cookies_in}
use Rattle.cookielist.specs.Cookies.{cookies_given}
use Rattle.cookiestash.specs.declared.Dropped.{Dropped}
use Rattle.cookiestash.specs.Stash.{store_of}
use Rattle.cookiestash.specs.Falling.{fallen_of, none_dropped, counted_of}
use Rattle.cookiestash.proofs.StoreList as L
use Rattle.record_stash.specs.Rows.{stash_in, Sized}
use Rattle.record_stash.specs.Slots.{Becomes, RefilledIn}
use Rattle.record_stash.proofs.Change.{same}
use Rattle.record_stash.proofs.Stores.{typed}

module _ (cap : ℕ) (b₀ l : List ℕ) where
  -- the stash in the bytes is as it is to be, and the other bytes are as they were
  pub record Along (b : List ℕ) (cs : List (List ℕ)) (d : Dropped) : Type 0 where
    pub stash : L.Along cap (stash_in b₀ cap) l (stash_in b cap) cs d
    pub kept : Becomes cap b₀ b (stash_in b cap)
    pub long : length b ≡ length b₀

  pub broken : Sized b₀ cap → is_whole (cookies_in l) ≡ false → RefilledIn cap l b₀ b₀ none_dropped
  broken s f =
      let e = L.stores_none cap (stash_in b₀ cap) l f in
      record { becomes = subst (Becomes cap b₀ b₀) e.0 (same cap b₀ s); falls = e.1 }

  pub begins : Sized b₀ cap → Bytes b₀ → Bytes l → length l < 18446744073709551616 → is_whole (cookies_in l) ≡ true → Along b₀ (cookies_given l) none_dropped
  begins s y z k f = record { stash = L.begins cap (stash_in b₀ cap) l (typed cap b₀ s y) z k f; kept = same cap b₀ s; long = refl }

  pub goes_on : (b c cookie : List ℕ) (cs : List (List ℕ)) (d : Dropped) (f : Option ℕ) → Along b (cookie ∷ cs) d →
      Becomes cap b c (store_of cap (stash_in b cap) cookie) → f ≡ fallen_of cap (stash_in b cap) cookie → length c ≡ length b → Along c cs (counted_of d f)
  goes_on b c cookie cs d f o h e n =
      record {
        stash = rw (h.stash, e) (L.goes_on cap (stash_in b₀ cap) l (stash_in b cap) cookie cs d o.stash);
        kept = record { stash = refl; settings = h.settings ∙ o.kept.settings; state = h.state ∙ o.kept.state; sized = h.sized };
        long = n ∙ o.long;
      }

  pub ends : (b : List ℕ) (d : Dropped) → Along b [] d → RefilledIn cap l b₀ b d
  ends b d o =
      let e = L.ends cap (stash_in b₀ cap) l (stash_in b cap) d o.stash in
      record { becomes = subst (Becomes cap b₀ b) e.0 o.kept; falls = e.1 }
