-- The parts of saving on lent bytes do what the definition says.
-- Assumes nothing.
use Prim.Native.Nat.{ℕ}
use mathlib.Core.Path.{◌≡◌, refl, sym, ap, subst, ◌∙◌}
use mathlib.Core.Bool.{true}
use mathlib.Core.List.{List}
use lib.ListN.{length, get_or}
use Rattle.std.specs.Prelude.{Some, None, Err}
use Rattle.std.specs.Prelude as prelude
use Rattle.words.specs.Bytes.{part}
use Rattle.words.proofs.Bytes.{Bytes}
use Rattle.cookiestash.specs.declared.CookieStash.{CookieStash}
use Rattle.association.specs.declared.Settings.{Settings}
use Rattle.association.specs.declared.Association.{Association}
use Rattle.handover_groups.specs.Settings.{settings_of, settings_known}
use Rattle.handover_file.specs.declared.SaveRefusal.{SaveRefusal}
use Rattle.handover_file.specs.declared.SaveRefusal.TheVariants.{NotWhole}
use Rattle.handover_file.specs.Cookies.{empty_at}
use Rattle.handover_file.specs.File.{emptied}
use Rattle.handover_file.specs.Answers.{save_of, buffer_of, handed, handed_of}
use Rattle.handover_save.proofs.Saved.{refused_keeps, written_empties}
use Rattle.record_stash.specs.Rows.{stash_in, Sized}
use Rattle.record_stash.specs.Slots.{Becomes}
use Rattle.record_bytes.specs.State.{state_of, state_known}
use Rattle.record_bytes.specs.declared.Opened.{Opened}
use Rattle.record_bytes.specs.Record.{ok_in, ok, settings_in, unpacked, packed, opened_of}
use Rattle.record_bytes.proofs.Packed.{Ok, of_ok_in, packed_unpacked}
use Rattle.record_bytes.proofs.Writes.{Found, found, none_found}
use Rattle.record_files.specs.Save.{gave, save_packed, save_call}

-- a stash that changed, and nothing else
unpacks : (b : List ℕ) (cap : ℕ) (c : List ℕ) (t : CookieStash) → Becomes cap b c t → settings_in c ≡ settings_in b → (settings_in c).capacity ≡ cap →
    unpacked c ≡ record { settings = settings_in b; stash = t; state = state_of (part b 29 63) }
unfolding unpacked
unpacks b cap c t g p k = λ i. record { settings = p i; stash = (ap (stash_in c) k ∙ g.stash) i; state = state_of (g.state i) }

pub becomes_packed : (b : List ℕ) (cap : ℕ) → Ok b cap → cap ≡ (settings_in b).capacity → (c : List ℕ) (t : CookieStash) → Becomes cap b c t → Bytes c →
    c ≡ packed (record { settings = settings_in b; stash = t; state = state_of (part b 29 63) })
becomes_packed b cap o e c t g y =
    let p : settings_in c ≡ settings_in b = ap settings_of g.settings in
    let k : (settings_in c).capacity ≡ cap = ap (λ (x : Settings). x.capacity) p ∙ sym e in
    let ok-c : Ok c cap = record { sized = g.sized; settings = ap settings_known g.settings ∙ o.settings; state = ap state_known g.state ∙ o.state } in
    let q : unpacked c ≡ record { settings = settings_in b; stash = t; state = state_of (part b 29 63) } = unpacks b cap c t g p k in
    sym (packed_unpacked c y (subst (Ok c) (sym k) ok-c)) ∙ ap packed q

base_ok : (b : List ℕ) → ok b ≡ true → ok_in b (settings_in b).capacity ≡ true
unfolding ok
base_ok b e = e

emptied_is : (b : List ℕ) → record { settings = settings_in b; stash = empty_at (get_or b 27 0); state = state_of (part b 29 63) } ≡ emptied (unpacked b)
unfolding emptied unpacked stash_in
emptied_is b = refl

-- what a call finds in bytes that are a record
module _ (b : List ℕ) (r : Opened) (e : Some r ≡ opened_of b) where
  is_found : Found b r
  is_found = found b r e

  is_ok : ok b ≡ true
  is_ok = is_found.ok

  settings_is : r.settings ≡ settings_in b
  settings_is = ap (λ (x : Opened). x.settings) is_found.is

  state_is : r.state ≡ state_of (part b 29 63)
  state_is = ap (λ (x : Opened). x.state) is_found.is

  known_is : ok_in b r.settings.capacity ≡ true
  unfolding ok
  known_is = ap (λ (x : Settings). ok_in b x.capacity) settings_is ∙ is_ok

  pub sized_is : Sized b r.settings.capacity
  sized_is = (of_ok_in b r.settings.capacity known_is).sized

  -- the association in them
  abbrev held : Association
  held = record { settings = r.settings; stash = stash_in b r.settings.capacity; state = r.state }

  held_is : held ≡ unpacked b
  unfolding unpacked
  held_is = λ i. record { settings = settings_is i; stash = stash_in b (settings_is i).capacity; state = state_is i }

  module _ (y : Bytes b) (out left : List ℕ) (leaves : left ≡ buffer_of held out) where
    calls : save_call b out ≡ save_packed (handed_of (unpacked b) out)
    unfolding save_call
    calls = let k = is_ok in rw k

    left_is : left ≡ buffer_of (unpacked b) out
    left_is = leaves ∙ ap (λ (a : Association). buffer_of a out) held_is

    pub unsaved : (x : SaveRefusal) → Err x ≡ (save_of held (length out)).answer → gave (Err x) b left ≡ save_call b out
    unsaved x f =
        let p = refused_keeps (unpacked b) (length out) x (f ∙ ap (λ (a : Association). (save_of a (length out)).answer) held_is) in
        let kept : b ≡ packed (unpacked b) = sym (packed_unpacked b y (of_ok_in b (settings_in b).capacity (base_ok b is_ok))) in
        ap (λ (c : List ℕ). gave (Err x) c left) kept ∙ (λ i. save_packed (handed (p i) (left_is i))) ∙ sym calls

    pub told : (n : ℕ) → prelude.Ok n ≡ (save_of held (length out)).answer → (c : List ℕ) → Bytes c →
        Becomes r.settings.capacity b c (empty_at (get_or b 27 0)) → gave (prelude.Ok n) c left ≡ save_call b out
    told n f c z g =
        let p = written_empties (unpacked b) (length out) n (f ∙ ap (λ (a : Association). (save_of a (length out)).answer) held_is) in
        let q = becomes_packed b r.settings.capacity (of_ok_in b r.settings.capacity known_is) (ap (λ (x : Settings). x.capacity) settings_is)
        c (empty_at (get_or b 27 0)) g z in
        ap (λ (d : List ℕ). gave (prelude.Ok n) d left) (q ∙ ap packed (emptied_is b)) ∙ (λ i. save_packed (handed (p i) (left_is i))) ∙ sym calls

module _ (b out : List ℕ) where
  pub refused : None ≡ opened_of b → gave (Err NotWhole) b out ≡ save_call b out
  unfolding save_call
  refused e = let f = none_found b e in sym (rw f)
