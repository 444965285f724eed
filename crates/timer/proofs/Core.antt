-- The parts of the core do what the definitions say: the record, and each byte of the buffer.
-- Assumes nothing.
use Prim.Native.Nat.{ℕ, ◌<◌, min}
use mathlib.Core.Path.{◌≡◌, refl, sym, ◌∙◌, ap}
use mathlib.Core.Bool.{true, cond}
use mathlib.Core.List.{List}
use native.Mathlib.Decide.{dec_le}
use native.Mathlib.Omega.{arith}
use borrow.Author.Tests.{eqb-true, eqb-false, ltb-false, lt-leb}
use lib.Dec.{eqb}
use lib.ListN.{length}
use Rattle.std.specs.Option.{is_some}
use Rattle.words.proofs.Tests.{passes, either}
use Rattle.cookiestash.specs.declared.Seen.{Seen}
use Rattle.cookiestash.specs.Stash.{stored}
use Rattle.cookiestash.specs.Whole.{seen_of}
use Rattle.cookiestash.proofs.Lengths.{found_gap}
use Rattle.cookiestash.specs.Handed.{wrote, handed_of}
use Rattle.cookiestash.proofs.Handed.{handed_none, handed_all}
use Rattle.association.specs.declared.Association.{Association}
use Rattle.association.specs.Record.{whole_seen}
use Rattle.timer_rules.specs.declared.Decision.{Decision}
use Rattle.timer_rules.specs.declared.TimerInput.{TimerInput}
use Rattle.timer_rules.specs.Poll.{short_buffer, startup_over}
use Rattle.timer_rules.specs.Decide.{oldest_len, asked_with, decide_nts, decide_of}
use Rattle.timer_rules.proofs.Count.{oldest_is, found_is, asked_some, asked_short}
use Rattle.timer.specs.declared.TimerOut.{TimerOut}
use Rattle.timer.specs.Timer.{oldest, decided, handed, timer_of, buffer_of, timed, timed_of}

-- of a longer cookie nothing is stored
none : (n : ℕ) → 724 < n → stored n ≡ 0
unfolding stored
none n h = simp (lt-leb n 724 h)

not_both : (n : ℕ) → n ≡ 0 → 0 < n → ⊥
not_both n e k = omega arith

module _ (a : Association) (i : TimerInput) (ys : List ℕ) where
  abbrev seen : Seen
  seen = seen_of a.settings.capacity a.stash

  -- what a take leaves in the buffer is what the answer hands out
  abbrev Same : Decision → Type 0
  Same d = cond d.takes (handed_of (oldest a) ys) ys ≡ wrote (oldest a).bytes (handed d.answer) ys

  -- 24: since the take leaves room, the cookie is longer than 724 bytes, and none of them is stored
  too_large : is_some seen.oldest ≡ true → asked_with seen ≡ 0 → handed_of (oldest a) ys ≡ ys
  too_large f z =
      let taken = sym (found_is a.settings.capacity a.stash) ∙ f in
      elim (dec_le (oldest_len seen) 724) [
        | yes l ↦ absurd (not_both (asked_with seen) z
            (asked_some (min seen.gap 8) (oldest_len seen) (omega (arith, found_gap a.settings.capacity a.stash taken)) l))
        | no n ↦ handed_none (oldest a) ys (none (oldest a).len (omega (arith, oldest_is a.settings.capacity a.stash)))
      ]

  same : Same (decide_of a.settings a.state seen i (length ys))
  unfolding decide_of decide_nts
  same =
      either Same (whole_seen a.settings seen a.state)
      (λ _. either Same (short_buffer a.settings (length ys)) (λ _. refl)
      (λ b. either Same (startup_over a.settings a.state) (λ _. either Same a.state.source.denial (λ _. refl) (λ _. refl))
      (λ _. either Same a.settings.nts
      (λ n. either Same (is_some seen.oldest)
      (λ f. either Same (eqb (asked_with seen) 0) (λ z. too_large f (eqb-true _ _ z))
      (λ z.
      let long = oldest_is a.settings.capacity a.stash in
      let short = asked_short (min seen.gap 8) (oldest_len seen) (eqb-false _ _ z) in
      let roomy = ltb-false (length ys) 724 (sym (passes _ n) ∙ b) in
      handed_all (oldest a) ys (omega (arith, long, short)) (omega (arith, long, short, roomy))
      ∙ ap (λ (len : ℕ). wrote (oldest a).bytes len ys) (sym long)))
      (λ _. refl))
      (λ _. refl))))
      (λ _. refl)

  -- what was seen, decided and done
  pub told : (rs : Seen) (d : Decision) (o : TimerOut) (zs : List ℕ) → rs ≡ seen → d ≡ decide_of a.settings a.state rs i (length ys)
      → o ≡ decided a d → zs ≡ cond d.takes (handed_of (oldest a) ys) ys → timed o zs ≡ timed_of a i ys
  unfolding timer_of buffer_of
  told rs d o zs es ed eo ez =
      let k : d ≡ decide_of a.settings a.state seen i (length ys) = ed ∙ ap (λ (v : Seen). decide_of a.settings a.state v i (length ys)) es in
      (λ j. timed (eo j) (ez j))
      ∙ ap (λ (e : Decision). timed (decided a e) (cond e.takes (handed_of (oldest a) ys) ys)) k
      ∙ ap (timed (decided a (decide_of a.settings a.state seen i (length ys)))) same
