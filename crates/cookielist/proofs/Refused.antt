-- A list is no cookie list exactly where its reader comes to an entry that is refused with number 33 of RULES.
-- Assumes nothing.
use mathlib.Core.Path.{◌≡◌, refl, sym, ap, ◌∙◌}
use mathlib.Core.Bool.{false}
use mathlib.Core.List.{List}
use mathlib.Core.Logic.{◌↔◌}
use mathlib.Core.Option.{some}
use Prim.Native.Nat.{ℕ, zero, suc, ◌+◌, ◌-◌, ◌≤◌}
use native.Mathlib.Omega.{arith}
use lib.ListN.{length}
use Rattle.cookielist.specs.declared.Entry.{Entry}
use Rattle.cookielist.specs.declared.Entry.TheVariants.{Cookie, End, Broken}
use Rattle.cookielist.specs.List.{entry_at, refusal_of, Reached, here, past, ListRefused, is_whole, cookies_from, cookies_in}
use Rattle.cookielist.proofs.Reader.{placed, whole_cookie, whole_end, whole_broken}

module _ (l : List ℕ) where
  abbrev Fails : ℕ → Type 0
  Fails at = is_whole (cookies_from l at) ≡ false

  fails_at : (at : ℕ) (e : Entry) → entry_at l at ≡ e → refusal_of e ≡ some 33 → Fails at
  fails_at at (Cookie start end) e q = let z : ◌≡◌ {A = ℕ} 0 1 = cc in absurd (omega arith)
  fails_at at End e q = let z : ◌≡◌ {A = ℕ} 0 1 = cc in absurd (omega arith)
  fails_at at Broken e q = whole_broken l at e

  fails : {at to : ℕ} → Reached l at to → refusal_of (entry_at l to) ≡ some 33 → Fails at
  fails {at} here q = fails_at at (entry_at l at) refl q
  fails {at} (past e r) q = whole_cookie l at _ _ e ∙ fails r q

  on : (at : ℕ) → ((end : ℕ) → at + 4 ≤ end → end ≤ length l → Fails end → ListRefused l end) → (e : Entry) → entry_at l at ≡ e → Fails at → ListRefused l at
  on at later (Cookie start end) e f =
      let w = placed l at start end e in
      let r = later end (omega arith) w.within (sym (whole_cookie l at start end e) ∙ f) in
      record { place = r.place; reached = past e r.reached; number = r.number }
  on at later End e f = let g = sym (whole_end l at e) ∙ f in let z : ◌≡◌ {A = ℕ} 0 1 = cc in absurd (omega arith)
  on at later Broken e f = record { place = at; reached = here; number = ap refusal_of e }

  upto : (n at : ℕ) → length l - at ≤ n → Fails at → ListRefused l at
  upto zero at h = on at (λ end a b. absurd (omega arith)) (entry_at l at) refl
  upto (suc n) at h = on at (λ end a b. upto n end (omega arith)) (entry_at l at) refl

  -- promise: 3.12 (no cookie list exactly if an entry on the way is rejected with 33)
  pub list_refused : (is_whole (cookies_in l) ≡ false) ↔ ListRefused l 0
  unfolding cookies_in
  list_refused = (upto (length l) 0 (omega arith), λ r. fails r.reached r.number)
