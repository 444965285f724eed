-- The parts of acceptance on lent bytes do what the definition says.
-- Assumes nothing.
use Prim.Native.Nat.{ℕ}
use mathlib.Core.Path.{◌≡◌, sym, subst, ◌∙◌}
use mathlib.Core.Bool.{true}
use mathlib.Core.List.{List}
use Rattle.words.proofs.Tests.{when, unless}
use Rattle.cookiestash.specs.declared.Seen.{Seen}
use Rattle.association_accept.specs.declared.Bloom.{Bloom}
use Rattle.association_accept.specs.declared.AcceptRefusal.{AcceptRefusal}
use Rattle.association_accept.specs.declared.AcceptRefusal.TheVariants.{NotWhole}
use Rattle.association_accept.specs.Accept.{accept_seen, accept_of}
use Rattle.record_stash.specs.Slots.{seen_in}
use Rattle.record_stash.proofs.With.{of_sized, seen_is}
use Rattle.record_bytes.specs.declared.Opened.{Opened}
use Rattle.record_bytes.specs.Record.{settings_in, state_in, ok, unpacked, opened, opened_of}
use Rattle.record_bytes.proofs.Packed.{of_ok}
use Rattle.std.specs.Prelude.{Result, Err, Some, None}
use Rattle.record_bytes.proofs.Writes.{found, none_found}
use Rattle.record_calls.specs.Accept.{accept_call}

module _ (b : List ℕ) (stratum : ℕ) (local : List ℕ) (bloom : Bloom) where
  pub refused : None ≡ opened_of b → Err NotWhole ≡ accept_call b stratum local bloom
  unfolding accept_call
  refused e = sym (unless (accept_of (unpacked b) stratum local bloom) (Err NotWhole) (none_found b e))

  module _ (v : Seen) (x : Result (Unit {0}) AcceptRefusal) (o : ok b ≡ true) where
    abbrev Says : Opened → Type 0
    Says r = v ≡ seen_in b r.settings.capacity → x ≡ accept_seen r.settings r.state v stratum local bloom → x ≡ accept_call b stratum local bloom

    base : Says (opened b)
    unfolding accept_call unpacked
    base ev e =
        let cap = (settings_in b).capacity in
        let s = ev ∙ seen_is cap b (of_sized b cap (of_ok b o).sized) in
        e ∙ (λ i. accept_seen (settings_in b) (state_in b) (s i) stratum local bloom) ∙ sym (when (accept_of (unpacked b) stratum local bloom) (Err NotWhole) o)

  pub told : (r : Opened) → Some r ≡ opened_of b → (v : Seen) → v ≡ seen_in b r.settings.capacity → (x : Result (Unit {0}) AcceptRefusal) →
      x ≡ accept_seen r.settings r.state v stratum local bloom → x ≡ accept_call b stratum local bloom
  told r e v ev x ex = let f = found b r e in subst (Says v x f.ok) (sym f.is) (base v x f.ok) ev ex
