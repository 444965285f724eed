-- What the tests of six bodies come to.
-- Assumes nothing.
use Prim.Native.Nat.{ℕ}
use mathlib.Core.Path.{◌≡◌, refl, sym, ap, ◌∙◌}
use mathlib.Core.Bool.{Bool, true, false, ◌&&◌}
use mathlib.Core.List.{List, [], ◌∷◌}
use lib.ListN.{length, get_or}
use Rattle.words.proofs.Bytes.{Bytes}
use Rattle.words.proofs.Tests.{both, fails}
use Rattle.cookiestash.specs.Queue.{cookies, queue}
use Rattle.cookiestash.specs.Stash.{range_of}
use Rattle.cookiestash.specs.Whole.{seen_of}
use Rattle.cookiestash.specs.Whole as S
use Rattle.cookiestash.proofs.Whole.{of_whole}
use Rattle.cookiestash.proofs.Cookies.{length_cookies}
use Rattle.association.specs.declared.Settings.{Settings}
use Rattle.association.specs.declared.State.{State}
use Rattle.association.specs.Record.{whole_seen, whole_of}
use Rattle.handover_groups.specs.Settings.{settings_of, settings_known}
use Rattle.handover_groups.specs.State.{version_known, source_known}
use Rattle.handover_file.specs.Cookies.{stash_fits, stash_known, stash_of, held_in, empty_at}
use Rattle.handover_file.specs.File.{state_in, known, record_in, retired, settled_settings, settled_state, settled}
use Rattle.handover_file.proofs.Cookies.{read_laid}
use Rattle.handover_load.specs.Reading.{counted_of}

-- of the stash that is read, the test of a whole record reads what was counted
module _ (cap : ℕ) (b : List ℕ) (y : Bytes b) (f : stash_fits b ≡ true) (k : stash_known cap b ≡ true) where
  stash_whole : S.whole_of cap (stash_of cap b) ≡ true
  stash_whole = of_whole cap (stash_of cap b) (read_laid cap b y f k).whole

  stash_read : (stash_of cap b).read ≡ get_or b 0 0
  unfolding empty_at
  stash_read = (read_laid cap b y f k).reads

  stash_held : (stash_of cap b).held ≡ length (held_in b)
  unfolding empty_at cookies queue
  stash_held = sym (length_cookies cap (stash_of cap b)) ∙ ap length (read_laid cap b y f k).holds

  pub seen_counted : (s : Settings) (q : State) → whole_seen s (seen_of cap (stash_of cap b)) q ≡ whole_seen s (counted_of b) q
  unfolding whole_seen
  seen_counted s q = rw (stash_whole, stash_read, stash_held)

-- ---- the tests in their order

pub ranges : (cap read held : ℕ) (st : List ℕ) (t : Bool) → read ≡ get_or st 0 0 → held ≡ length (held_in st) → t ≡ range_of cap read held
    → t ≡ stash_known cap st
unfolding stash_known
ranges cap read held st t e f g = g ∙ (λ i. range_of cap (e i) (f i))

-- ---- what they come to

module _ (se st re ve po so : List ℕ) (y : Bytes st) (f : stash_fits st ≡ true) where
  abbrev six : List (List ℕ)
  six = se ∷ st ∷ re ∷ ve ∷ po ∷ so ∷ []

  abbrev codes : ℕ → Bool
  codes cap = settings_known se && (stash_known cap st && (version_known ve && source_known so))

  by : (t : Bool) (s : Settings) (q : State) → codes s.capacity ≡ t →
      (codes s.capacity && whole_seen s (counted_of st) q) ≡ (codes s.capacity && whole_seen s (seen_of s.capacity (stash_of s.capacity st)) q)
  by true s q e =
      let k = (both (stash_known s.capacity st) (version_known ve && source_known so)
      (both (settings_known se) (stash_known s.capacity st && (version_known ve && source_known so)) e).1).0 in
      ap (λ (t : Bool). codes s.capacity && t) (sym (seen_counted s.capacity st y f k s q))
  by false s q e = fails (whole_seen s (counted_of st) q) e ∙ sym (fails (whole_seen s (seen_of s.capacity (stash_of s.capacity st)) q) e)

  loads_is : (codes (settings_of se).capacity && whole_seen (settled_settings (settings_of se)) (counted_of st) (settled_state (state_in re ve po so)))
      ≡ (known six && whole_of (settled (record_in six)))
  unfolding known whole_of settled record_in settled_settings
  loads_is = by (codes (settings_of se).capacity) (settled_settings (settings_of se)) (settled_state (state_in re ve po so)) refl

  capacity_kept : (s : Settings) → (settled_settings s).capacity ≡ s.capacity
  unfolding settled_settings
  capacity_kept s = refl

  module _ (given g : Settings) (read q : State) (e₁ : given ≡ settings_of se) (e₂ : read ≡ state_in re ve po so) (e₄ : g ≡ settled_settings given)
      (e₅ : q ≡ settled_state read) where
    pub settings_is : g ≡ (settled (record_in six)).settings
    unfolding settled record_in
    settings_is = e₄ ∙ ap settled_settings e₁

    pub state_is : q ≡ (settled (record_in six)).state
    unfolding settled record_in
    state_is = e₅ ∙ ap settled_state e₂

    pub whole_is : (codes g.capacity && whole_seen g (counted_of st) q) ≡ (known six && whole_of (settled (record_in six)))
    unfolding settled record_in
    whole_is =
        (λ i. codes (settings_is i).capacity && whole_seen (settings_is i) (counted_of st) (state_is i))
        ∙ ap (λ (n : ℕ). codes n && whole_seen (settled_settings (settings_of se)) (counted_of st) (settled_state (state_in re ve po so)))
        (capacity_kept (settings_of se))
        ∙ loads_is

    pub retired_is : {t : Bool} → t ≡ retired given read → t ≡ retired (record_in six).settings (record_in six).state
    unfolding record_in
    retired_is e₃ = e₃ ∙ (λ i. retired (e₁ i) (e₂ i))
