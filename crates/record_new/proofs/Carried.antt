-- What is made in lent bytes is what the definition says.
-- Assumes nothing.
use Prim.Native.Nat.{ℕ}
use mathlib.Core.Path.{◌≡◌, refl, sym, ap, subst, ◌∙◌}
use mathlib.Core.Bool.{Bool, true, false, cond}
use mathlib.Core.List.{List}
use borrow.Author.Tests.{eqb-true}
use lib.Dec.{eqb}
use lib.ListN.{length, replicate}
use Rattle.cookiestash.specs.declared.CookieStash.{CookieStash}
use Rattle.cookiestash.specs.declared.Dropped.{Dropped}
use Rattle.cookiestash.specs.Stash as Stash
use Rattle.cookiestash.specs.StoreList.{store_list_of}
use Rattle.cookiestash.specs.Falling.{none_dropped, dropped_of}
use Rattle.association.specs.declared.Settings.{Settings}
use Rattle.association.specs.declared.State.{State}
use Rattle.association.specs.declared.Association.{Association}
use Rattle.association.specs.declared.NewOut.{NewOut}
use Rattle.association.specs.Record.{fresh_of, with_stash}
use Rattle.association.specs.New.{number_of, made_of, first_dropped, new_of}
use Rattle.association.proofs.Numbers.{is_made}
use Rattle.association_metered.specs.Profile as Profile
use Rattle.association_metered.proofs.Plain.{plain_made, same_record, same_dropped}
use Rattle.record_stash.specs.Rows.{Sized}
use Rattle.record_stash.specs.Slots.{Refilled, refilled, refilled_in}
use Rattle.record_bytes.specs.State.{StateFit}
use Rattle.record_bytes.specs.Record.{packed, headed}
use Rattle.record_bytes.proofs.Lies.{Lies, empty_from, headed_lies, refills}
use Rattle.std.specs.Prelude.{Result, Err}
use Rattle.answers.specs.Answers.{number_in}
use Rattle.answers.proofs.Numbers.{number_in_is}
use Rattle.association.specs.declared.NewRefusal.{NewRefusal}
use Rattle.association_metered.specs.declared.ProfileRefusal.{ProfileRefusal}
use Rattle.record_new.specs.declared.InBytes.{InBytes}
use Rattle.record_new.specs.declared.InBytes.TheVariants.{WrongSize}
use Rattle.record_new.specs.New.{Call, in_bytes, made_in, new_call, metered_call}

-- ---- the association where it is to lie

module _ (s : Settings) where
  fresh_stash : empty_from 0 ≡ (fresh_of s).stash
  unfolding fresh_of Stash.new_of
  fresh_stash = refl

  -- with the first cookies, or without
  by_nts : (t : Bool) (x : CookieStash) → record { settings = s; stash = cond t x (fresh_of s).stash; state = (fresh_of s).state }
      ≡ cond t (with_stash (fresh_of s) x) (fresh_of s)
  unfolding fresh_of
  by_nts true x = refl
  by_nts false x = refl

  module _ (list b : List ℕ) (z : Sized b s.capacity) (q : State) (f : StateFit q) (eq : q ≡ (fresh_of s).state) where
    abbrev filled : CookieStash → Refilled
    filled x =
        refilled (cond s.nts (dropped_of s.capacity x list) none_dropped)
        (packed (record { settings = s; stash = cond s.nts (store_list_of s.capacity x list) x; state = (fresh_of s).state }))

    filled_is : filled (fresh_of s).stash ≡ refilled (first_dropped s list) (packed (made_of s list))
    unfolding first_dropped made_of
    filled_is = ap (λ (a : Association). refilled (first_dropped s list) (packed a)) (by_nts s.nts (store_list_of s.capacity (fresh_of s).stash list))

    pub make_is : (c h : List ℕ) → c ≡ replicate (length b) 0 → h ≡ headed c s 0 q → (x : Refilled) → x ≡ refilled_in s.capacity s.nts list h →
        x ≡ refilled (first_dropped s list) (packed (made_of s list))
    make_is c h ec eh x ex =
        let a : Association = record { settings = s; stash = empty_from 0; state = q } in
        let l : Lies a h = subst (Lies a) (sym (eh ∙ ap (λ (y : List ℕ). headed y s 0 q) ec))
        (headed_lies s 0 q f.request.uid (length b) z.long z.most) in
        ex
        ∙ refills a h l s.nts list
        ∙ (λ i. refilled (cond s.nts (dropped_of s.capacity (empty_from 0) list) none_dropped)
        (packed (record { settings = s; stash = cond s.nts (store_list_of s.capacity (empty_from 0) list) (empty_from 0); state = eq i })))
        ∙ ap filled fresh_stash
        ∙ filled_is

-- ---- the calls, by what was tested

module _ (s : Settings) (list : List ℕ) where
  -- what is made where the number is 0: what fell out, and the association
  abbrev Makes : ℕ → Dropped → Association → Type 0
  Makes n d a = n ≡ 0 → (d ≡ first_dropped s list) × (a ≡ made_of s list)

  made_parts : Makes (number_of (new_of s list).answer) (new_of s list).dropped (new_of s list).association
  made_parts e = (ap (λ (o : NewOut). o.dropped) (is_made s list e), ap (λ (o : NewOut). o.association) (is_made s list e))

  module _ (b : List ℕ) where
    -- what the code gives, of an answer that is numbered so
    abbrev carried : {E : Type 0} → (Result (Unit {0}) E → ℕ) → Result (Unit {0}) E → Call (Result (Unit {0}) (InBytes E))
    carried number is = made_in b s.capacity (number is) (in_bytes is) (Err WrongSize) (first_dropped s list) (made_of s list)

    -- it is what the call by value gives: where the number is 0, both make the same
    told : {E : Type 0} (number : Result (Unit {0}) E → ℕ) (is : Result (Unit {0}) E) (d : Dropped) (a : Association) → Makes (number is) d a →
        carried number is ≡ made_in b s.capacity (number is) (in_bytes is) (Err WrongSize) d a
    told number is d a m = by (eqb (number is) 0) refl
      where
        by : (t : Bool) → eqb (number is) 0 ≡ t → carried number is ≡ made_in b s.capacity (number is) (in_bytes is) (Err WrongSize) d a
        by true e = let p = m (eqb-true (number is) 0 e) in rw (p.0, p.1)
        by false e = rw e

    abbrev pub new_carried : Result (Unit {0}) NewRefusal → Call (Result (Unit {0}) (InBytes NewRefusal))
    new_carried = carried (number_in (λ refusal. number_of (Err refusal)))

    pub new_told : new_carried (new_of s list).answer ≡ new_call s list b
    unfolding new_call
    new_told =
        let o = new_of s list in
        ap (λ (n : ℕ). made_in b s.capacity n (in_bytes o.answer) (Err WrongSize) (first_dropped s list) (made_of s list))
        (number_in_is number_of (λ made. refl) o.answer)
        ∙ told number_of o.answer o.dropped o.association made_parts

    abbrev pub metered_carried : Result (Unit {0}) ProfileRefusal → Call (Result (Unit {0}) (InBytes ProfileRefusal))
    metered_carried = carried (number_in (λ refusal. Profile.number_of (Err refusal)))

    pub metered_told : metered_carried (Profile.profile_of s list) ≡ metered_call s list b
    unfolding metered_call Profile.metered_of
    metered_told =
        let o = Profile.metered_of s list in
        ap (λ (n : ℕ). made_in b s.capacity n (in_bytes o.answer) (Err WrongSize) (first_dropped s list) (made_of s list))
        (number_in_is Profile.number_of (λ met. refl) o.answer)
        ∙ told Profile.number_of o.answer o.dropped o.association
        (λ e. let p = made_parts (plain_made s list e) in (same_dropped s list e ∙ p.0, same_record s list e ∙ p.1))
