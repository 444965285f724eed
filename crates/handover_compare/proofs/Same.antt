-- Two whole records in which nothing is pending are equal exactly where no field differs. The unanswered polls are no field: in a whole record they follow
-- from reach (RULES, No. 8).
-- Assumes nothing.
use Prim.Native.Nat.{ℕ, zero, suc, ◌+◌, ◌*◌, ◌^◌, ◌≤◌, ◌<◌}
use mathlib.Core.Path.{◌≡◌, refl, sym, ap, subst, ◌∙◌}
use mathlib.Core.Bool.{Bool, false, false≢true}
use mathlib.Core.List.{List, [], ◌∷◌}
use mathlib.Core.Logic.{◌↔◌}
use native.Mathlib.Omega.{arith}
use lib.IntN.{ℤ, pos, negsuc}
use lib.ListN.{length, get_or}
use mir.Syntax.{w8, w64}
use mir.Val.{SFits}
use Rattle.words.specs.Signed.{signed}
use Rattle.words.proofs.Readings.{signed_unsigned}
use Rattle.identifiers.specs.Names.{named}
use Rattle.reach.specs.Register.{unanswered_of}
use Rattle.time_types.specs.Poll.{interval}
use Rattle.version.specs.declared.ProtocolVersion.{ProtocolVersion}
use Rattle.version.specs.declared.ProtocolVersion.TheVariants.{V4, Upgrading, Upgraded, V5}
use Rattle.version.specs.Upgrade.{version, upgrading}
use Rattle.cookiestash.specs.Queue.{Cookie, cookies}
use Rattle.cookiestash.proofs.Kept.{in_range_lem}
use Rattle.cookiestash.proofs.Cookies.{length_cookies}
use Rattle.cookiestash.proofs.Same.{stash_same}
use Rattle.cookiestash.specs.declared.CookieStash.{CookieStash}
use Rattle.cookiestash.specs.Whole as stash
use Rattle.association.specs.declared.Association.{Association}
use Rattle.association.specs.Whole.{Whole}
use Rattle.association.proofs.Whole.{none_retired}
use Rattle.handover_groups.specs.Codes.{yes_code, yes_of, kind_code, tries_code, kind_of}
use Rattle.handover_groups.proofs.OfCodes.{yes_kept, kind_kept}
use Rattle.handover_file.proofs.Cookies.{AllKeep, cookies_keep}
use Rattle.handover_compare.specs.Readings.{Reading, plain, bits64, version_number, settings_numbers, state_numbers, held_of, aged_of, readings_of}
use Rattle.handover_compare.specs.Fields.{list_of}
use Rattle.handover_compare.proofs.Listed.{readings_equal, itself}

-- what the types say of a record
pub record Held (a : Association) : Type 0 where
  pub min : SFits w8 a.settings.min.0
  pub max : SFits w8 a.settings.max.0
  pub eight : length a.stash.slots ≡ 8
  pub last : SFits w8 a.state.polls.last.0
  pub remote : SFits w8 a.state.polls.remote.0

-- ---- numbers

wider : (z : ℤ) → SFits w8 z → SFits w64 z
wider (pos n) f = record { sfits = omega (arith, f.sfits) }
wider (negsuc n) f = record { sfits = omega (arith, f.sfits) }

bits_same : (x y : ℤ) → SFits w8 x → SFits w8 y → bits64 x ≡ bits64 y → x ≡ y
bits_same x y f g e = sym (signed_unsigned w64 x (wider x f)) ∙ ap (signed (2 ^ 63)) e ∙ signed_unsigned w64 y (wider y g)

-- only the retired kind has tries (RULES, No. 14)
no_tries : (k : ProtocolVersion) → upgrading k ≡ false → tries_code k ≡ 0
no_tries V4 e = refl
no_tries (Upgrading tries) e = absurd (false≢true (sym e))
no_tries Upgraded e = refl
no_tries V5 e = refl

version_same : (k j : ProtocolVersion) → upgrading k ≡ false → upgrading j ≡ false → kind_code k * 256 + tries_code k ≡ kind_code j * 256 + tries_code j → k ≡ j
version_same k j f g e =
    let m = no_tries k f in
    let n = no_tries j g in
    let p : kind_code k ≡ kind_code j = omega (arith, m, n) in
    let q : tries_code k ≡ tries_code j = m ∙ sym n in
    sym (kind_kept k).0 ∙ (λ i. kind_of (p i) (q i)) ∙ (kind_kept j).0

yes_same : (s t : Bool) → yes_code s ≡ yes_code t → s ≡ t
yes_same s t e = sym (yes_kept s).0 ∙ ap yes_of e ∙ (yes_kept t).0

-- ---- cookies

-- cookies that agree at every age are the same
cookies_same : (n : ℕ) (cs ds : List Cookie) → length cs ≤ n → length ds ≤ n → AllKeep cs → AllKeep ds
    → ((k : ℕ) → k < n → aged_of cs k ≡ aged_of ds k) → cs ≡ ds
unfolding aged_of
cookies_same n [] [] l m f g e = refl
cookies_same n [] (d ∷ ds) l m f g e = let z : 65536 ≡ d.len = ap (λ (r : Reading). r.number) (e 0 (omega arith)) in absurd (omega (arith, g.0.short))
cookies_same n (c ∷ cs) [] l m f g e = let z : c.len ≡ 65536 = ap (λ (r : Reading). r.number) (e 0 (omega arith)) in absurd (omega (arith, f.0.short))
cookies_same zero (c ∷ cs) (d ∷ ds) l m f g e = absurd (omega arith)
cookies_same (suc n) (c ∷ cs) (d ∷ ds) l m f g e =
    let p = e 0 (omega arith) in
    let q : cs ≡ ds = cookies_same n cs ds (omega arith) (omega arith) f.1 g.1 (λ k h. e (suc k) (omega arith)) in
    λ i. record { len = (p i).number; bytes = (p i).bytes } ∷ q i

held_is : (cap : ℕ) (s : CookieStash) → stash.Whole cap s → held_of cap s ≡ cookies cap s
unfolding held_of
held_is cap s w = rw (in_range_lem cap s w)

-- ---- a record

module _ (a b : Association) (v : Whole a) (w : Whole b) (f : Held a) (g : Held b) (none : a.state.request ≡ b.state.request)
    (e : readings_of a ≡ readings_of b) where
  at : (k : ℕ) → get_or (readings_of a) k (plain 0) ≡ get_or (readings_of b) k (plain 0)
  at k = ap (λ (l : List Reading). get_or l k (plain 0)) e

  number_at : (k : ℕ) → (get_or (readings_of a) k (plain 0)).number ≡ (get_or (readings_of b) k (plain 0)).number
  number_at k = ap (λ (r : Reading). r.number) (at k)

  capacity_same : a.settings.capacity ≡ b.settings.capacity
  unfolding settings_numbers
  capacity_same = number_at 8

  settings_same : a.settings ≡ b.settings
  unfolding settings_numbers state_numbers version_number
  settings_same =
      let s = a.settings in
      let t = b.settings in
      let min = bits_same s.min.0 t.min.0 f.min g.min (number_at 0) in
      let max = bits_same s.max.0 t.max.0 f.max g.max (number_at 1) in
      let kind = version_same s.start.kind t.start.kind (none_retired a v).0 (none_retired b w).0 (number_at 5) in
      let nts = yes_same s.nts t.nts (number_at 6) in
      λ i.
      record {
        min = interval (min i);
        max = interval (max i);
        startup = number_at 2 i;
        window = number_at 3 i;
        upgrademark = number_at 4 i;
        start = version (kind i);
        nts = nts i;
        source = named (number_at 7 i);
        capacity = capacity_same i;
      }

  aged_at_lem : (k : ℕ) → k < 8 → aged_of (held_of a.settings.capacity a.stash) k ≡ aged_of (held_of b.settings.capacity b.stash) k
  unfolding settings_numbers state_numbers
  aged_at_lem zero h = at 10
  aged_at_lem (suc zero) h = at 11
  aged_at_lem (suc (suc zero)) h = at 12
  aged_at_lem (suc (suc (suc zero))) h = at 13
  aged_at_lem (suc (suc (suc (suc zero)))) h = at 14
  aged_at_lem (suc (suc (suc (suc (suc zero))))) h = at 15
  aged_at_lem (suc (suc (suc (suc (suc (suc zero)))))) h = at 16
  aged_at_lem (suc (suc (suc (suc (suc (suc (suc zero))))))) h = at 17
  aged_at_lem (suc (suc (suc (suc (suc (suc (suc (suc k)))))))) h = absurd (omega arith)

  -- the right stash is whole by the left one's capacity too
  right_whole : stash.Whole a.settings.capacity b.stash
  right_whole = subst (λ (n : ℕ). stash.Whole n b.stash) (sym capacity_same) w.stash

  aged_held : (k : ℕ) → k < 8 → aged_of (cookies a.settings.capacity a.stash) k ≡ aged_of (cookies a.settings.capacity b.stash) k
  aged_held k h =
      let cap = a.settings.capacity in
      ap (λ (cs : List Cookie). aged_of cs k) (sym (held_is cap a.stash v.stash))
      ∙ aged_at_lem k h
      ∙ ap (λ (n : ℕ). aged_of (held_of n b.stash) k) (sym capacity_same)
      ∙ ap (λ (cs : List Cookie). aged_of cs k) (held_is cap b.stash right_whole)

  cookies_alike : cookies a.settings.capacity a.stash ≡ cookies a.settings.capacity b.stash
  cookies_alike =
      let cap = a.settings.capacity in
      cookies_same 8 (cookies cap a.stash) (cookies cap b.stash)
      (omega (arith, length_cookies cap a.stash, v.stash.counts, v.stash.most))
      (omega (arith, length_cookies cap b.stash, right_whole.counts, right_whole.most))
      (cookies_keep cap a.stash v.stash) (cookies_keep cap b.stash right_whole) aged_held

  read_same : a.stash.read ≡ b.stash.read
  unfolding settings_numbers
  read_same = number_at 9

  stash_alike : a.stash ≡ b.stash
  stash_alike = stash_same a.settings.capacity a.stash b.stash v.stash right_whole (f.eight ∙ sym g.eight) read_same cookies_alike

  state_same : a.state ≡ b.state
  unfolding settings_numbers state_numbers version_number
  state_same =
      let s = a.state in
      let t = b.state in
      let kind = version_same s.version.kind t.version.kind (none_retired a v).1 (none_retired b w).1 (number_at 20) in
      let last = bits_same s.polls.last.0 t.polls.last.0 f.last g.last (number_at 21) in
      let remote = bits_same s.polls.remote.0 t.polls.remote.0 f.remote g.remote (number_at 22) in
      let denial = yes_same s.source.denial t.source.denial (number_at 25) in
      let reach = number_at 18 in
      let unanswered = v.counted ∙ ap (λ (n : ℕ). unanswered_of (record { 0 = n })) reach ∙ sym w.counted in
      λ i.
      record {
        effort = record { reach = record { 0 = reach i }; tries = number_at 19 i; unanswered = unanswered i };
        version = version (kind i);
        polls = record { last = interval (last i); remote = interval (remote i) };
        source = record { stratum = number_at 23 i; refid = named (number_at 24 i); denial = denial i };
        request = none i;
      }

  record_same : a ≡ b
  record_same = λ i. record { settings = settings_same i; stash = stash_alike i; state = state_same i }

-- promise no10.3: The list is empty exactly when the two loaded records are equal. The unanswered polls (No. 8) are no field: in a whole record they follow
--     from reach.
pub empty_exactly : (a b : Association) → Whole a → Whole b → Held a → Held b → a.state.request ≡ b.state.request → (list_of a b ≡ []) ↔ (a ≡ b)
empty_exactly a b v w f g none =
    (λ e. record_same a b v w f g none (readings_equal a b e), λ e. subst (λ (x : Association). list_of a x ≡ []) e (itself a))
