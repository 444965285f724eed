-- Each number is given exactly under its rule (specs/Numbers.antt), with that rule's answer and record.
-- Assumes nothing.
use mathlib.Core.Path.{◌≡◌, refl, sym, ap, subst, ◌∙◌}
use mathlib.Core.Bool.{Bool, true, false, cond}
use mathlib.Core.Logic.{◌↔◌}
use Prim.Native.Nat.{ℕ, ◌≤◌, ◌<◌}
use native.Mathlib.Omega.{arith}
use lib.Dec.{eqb, ltb}
use borrow.Author.Tests.{ltb-true, ltb-false, eqb-true, eqb-false, lt-ltb, le-ltb, eq-eqb, ne_eqb}
use Rattle.std.specs.Option.{is_some}
use Rattle.words.proofs.Tests.{both, either}
use Rattle.cookiestash.specs.declared.Taken.{Taken}
use Rattle.cookiestash.specs.Stash.{in_range, get_of, is_found}
use Rattle.cookiestash.specs.Whole as stash
use Rattle.association.specs.declared.Association.{Association}
use Rattle.association.specs.Settings.{settings_valid}
use Rattle.association.specs.Record.{whole_seen, whole_of}
use Rattle.timer_rules.specs.declared.Decision.{Decision}
use Rattle.timer_rules.specs.declared.TimerInput.{TimerInput}
use Rattle.timer_rules.specs.Answer.{number_of}
use Rattle.timer_rules.specs.Poll.{short_buffer, startup_over, tried_of}
use Rattle.timer_rules.specs.Decide.{asked_with, decide_nts, decide_of}
use Rattle.timer_rules.proofs.Count.{found_is}
use Rattle.timer.specs.declared.TimerOut.{TimerOut}
use Rattle.timer.specs.Timer.{decided, timer_of}
use Rattle.timer.specs.Numbers as N
use Rattle.timer.specs.Numbers.{Given, not_whole, short_buffer_lem, demobilize, reset, no_cookie_lem, too_large, sent, sent_nts}

-- ---- in a whole record a cookie is found where one is held

found_by : (t : Bool) (x y : Taken) → is_found x ≡ true → is_found y ≡ false → is_found (cond t x y) ≡ t
found_by true x y p q = p
found_by false x y p q = q

stash_whole : (a : Association) → whole_of a ≡ true → stash.whole_of a.settings.capacity a.stash ≡ true
unfolding whole_of whole_seen
stash_whole a w = (both (stash.whole_of a.settings.capacity a.stash) _ (both (settings_valid a.settings) _ w).1).0

pub in_range_lem : (a : Association) → whole_of a ≡ true → in_range a.settings.capacity a.stash ≡ true
unfolding stash.whole_of
in_range_lem a w = (both (in_range a.settings.capacity a.stash) _ (stash_whole a w)).0

taken_is : (a : Association) → whole_of a ≡ true → is_found (get_of a.settings.capacity a.stash) ≡ ltb 0 a.stash.held
unfolding get_of
taken_is a w = rw (in_range_lem a w) (found_by (ltb 0 a.stash.held) _ _ refl refl)

seen_is : (a : Association) → whole_of a ≡ true → is_some (stash.seen_of a.settings.capacity a.stash).oldest ≡ ltb 0 a.stash.held
seen_is a w = found_is a.settings.capacity a.stash ∙ taken_is a w

positive : (n : ℕ) → (n ≡ 0 → ⊥) → 0 < n
positive n h = omega arith

not_zero : (n : ℕ) → 0 < n → n ≡ 0 → ⊥
not_zero n h e = omega arith

module _ (a : Association) (i : TimerInput) (room : ℕ) where
  -- an answer is given under the rule of its own number
  abbrev Told : Decision → Type 0
  Told d = Given a i room (number_of d.answer) (decided a d)

  nts_told : N.Tried a i room → a.settings.nts ≡ true →
      Told (decide_nts a.settings (tried_of a.state) (stash.seen_of a.settings.capacity a.stash) i)
  unfolding decide_nts
  nts_told t n =
      let f = seen_is a t.accepted.whole in
      either Told (is_some (stash.seen_of a.settings.capacity a.stash).oldest)
      (λ e. let k : N.Taken a i room = record { tried = t; nts = n; some = ltb-true _ _ (sym f ∙ e) } in
      either Told (eqb (asked_with (stash.seen_of a.settings.capacity a.stash)) 0) (λ z. too_large k (eqb-true _ _ z))
      (λ z. sent_nts k (positive _ (eqb-false _ _ z))))
      (λ e. let l : a.stash.held ≤ 0 = ltb-false _ _ (sym f ∙ e) in no_cookie_lem t n (omega arith))

  -- promise: 10.1, no8.6 (at 32)
  pub given : Given a i room (number_of (timer_of a i room).answer) (timer_of a i room)
  unfolding timer_of decide_of whole_of
  given =
      either Told (whole_of a)
      (λ w. either Told (short_buffer a.settings room) (short_buffer_lem w)
      (λ s. let c : N.Accepted a i room = record { whole = w; roomy = s } in
      either Told (startup_over a.settings a.state)
      (λ o. either Told a.state.source.denial (demobilize c o) (reset c o))
      (λ o. let t : N.Tried a i room = record { accepted = c; going = o } in
      either Told a.settings.nts (nts_told t) (sent t))))
      not_whole

  -- and no other is given
  -- promise: 10.1, no8.6 (at 32)
  pub only : {n : ℕ} {o : TimerOut} → Given a i room n o → timer_of a i room ≡ o
  unfolding timer_of decide_of decide_nts whole_of
  only (not_whole w) = rw w
  only (short_buffer_lem w s) = rw (w, s)
  only (demobilize c o d) = rw (c.whole, c.roomy, o, d)
  only (reset c o d) = rw (c.whole, c.roomy, o, d)
  only (no_cookie_lem t n h) =
      let c = t.accepted in
      rw (c.whole, c.roomy, t.going, n, seen_is a c.whole ∙ le-ltb 0 a.stash.held (omega arith))
  only (too_large k z) =
      let t = k.tried in
      let c = t.accepted in
      rw (c.whole, c.roomy, t.going, k.nts, seen_is a c.whole ∙ lt-ltb _ _ k.some, eq-eqb _ _ z)
  only (sent t n) =
      let c = t.accepted in
      rw (c.whole, c.roomy, t.going, n)
  only (sent_nts k z) =
      let t = k.tried in
      let c = t.accepted in
      rw (c.whole, c.roomy, t.going, k.nts, seen_is a c.whole ∙ lt-ltb _ _ k.some, ne_eqb _ _ (not_zero _ z))

  numbered : {n : ℕ} {o : TimerOut} → Given a i room n o → number_of o.answer ≡ n
  numbered (not_whole w) = refl
  numbered (short_buffer_lem w s) = refl
  numbered (demobilize c o d) = refl
  numbered (reset c o d) = refl
  numbered (no_cookie_lem t n h) = refl
  numbered (too_large k z) = refl
  numbered (sent t n) = refl
  numbered (sent_nts k z) = refl

  -- promise: 10.1, 10.2 (at 21 and 22), 10.4 (at 23 and 24)
  pub number : (n : ℕ) → (number_of (timer_of a i room).answer ≡ n) ↔ ((o : TimerOut) × Given a i room n o)
  number n = (
    (λ e. (timer_of a i room, subst (λ (k : ℕ). Given a i room k (timer_of a i room)) e given)),
    (λ (o, g). ap (λ (x : TimerOut). number_of x.answer) (only g) ∙ numbered g),
  )
