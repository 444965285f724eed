-- The order of the cookies from a loaded association (RULES, No. 14): what is handed out is some of what the file held and of what was stored since, in order.
-- Assumes nothing.
use mathlib.Core.Path.{◌≡◌, refl, sym, ap, ◌∙◌}
use mathlib.Core.Bool.{Bool, true, false, cond}
use mathlib.Core.List.{List, [], ◌∷◌, ◌++◌, map}
use Prim.Native.Nat.{ℕ}
use native.Mathlib.Omega.{arith}
use lib.Dec.{leb}
use lib.ListN.{length, take, replicate, length-replicate}
use lib.Seq.{take_all}
use Rattle.words.proofs.Bytes.{Bytes}
use Rattle.words.proofs.Tests.{when, unless}
use Rattle.cookiestash.specs.Stash.{stored}
use Rattle.cookiestash.specs.Queue.{Cookie, cookie_of, cookies}
use Rattle.association.specs.declared.Association.{Association}
use Rattle.handover_file.specs.Answers.{load_number, load_of}
use Rattle.handover_file.proofs.Again.{loads}
use Rattle.handover_file.proofs.Cookies.{Keeps, AllKeep, cookies_keep}
use Rattle.laws_log.specs.Machine as M
use Rattle.laws.specs.Association.{rule, machine}
use Rattle.laws.proofs.Bridge.{Ran, ran_is_run}
use Rattle.laws.specs.Some.{SomeOf, Placed}
use Rattle.laws.specs.Cookies.{stored_in, handed_out}
use Rattle.laws.proofs.Some.{placed}
use Rattle.laws.proofs.Stash.{Holds}
use Rattle.laws.proofs.Order.{handed_some}

-- ---- the cookies that a whole record holds, by their bytes; of one over 724 bytes only the length is kept, and any bytes of that length name it

cookie_same : {c : Cookie} {n : ℕ} {bytes : List ℕ} → n ≡ c.len → bytes ≡ c.bytes → ◌≡◌ {A = Cookie} (record { len = n; bytes = bytes }) c
cookie_same p q = λ i. record { len = p i; bytes = q i }

abbrev pub named : Cookie → List ℕ
named c = cond (leb c.len 724) c.bytes (replicate c.len 0)

none : (l : List ℕ) → length l ≡ 0 → [] ≡ l
none [] e = refl
none (x ∷ l) e = absurd (omega arith)

named_is : (c : Cookie) → Keeps c → cookie_of (named c) ≡ c
unfolding cookie_of stored
named_is c k = by (leb c.len 724) refl
  where
    by : (t : Bool) → leb c.len 724 ≡ t → cookie_of (cond t c.bytes (replicate c.len 0)) ≡ c
    by true e =
        let n : length c.bytes ≡ c.len = k.sized ∙ when _ _ e in
        cookie_same n (ap (λ (m : ℕ). take (cond (leb m 724) m 0) c.bytes) n ∙ ap (λ (m : ℕ). take m c.bytes) (when _ _ e)
        ∙ take_all c.len c.bytes (omega arith))
    by false e =
        let n : length {A = ℕ} (replicate c.len 0) ≡ c.len = length-replicate c.len 0 in
        let z : length c.bytes ≡ 0 = k.sized ∙ unless _ _ e in
        cookie_same n (ap (λ (m : ℕ). take {A = ℕ} (cond (leb m 724) m 0) (replicate c.len 0)) n
        ∙ ap (λ (m : ℕ). take {A = ℕ} m (replicate c.len 0)) (unless _ _ e) ∙ none c.bytes z)

all_named : (cs : List Cookie) → AllKeep cs → cs ≡ map cookie_of (map named cs)
all_named [] k = refl
all_named (c ∷ cs) k = λ i. sym (named_is c k.0) i ∷ all_named cs k.1 i

-- ---- what a file held

-- the loaded association, and its cookies, oldest first
abbrev pub box : List ℕ → Association
box f = (load_of f).association

abbrev pub kept : List ℕ → List (List ℕ)
kept f = map named (cookies (box f).settings.capacity (box f).stash)

module _ (f : List ℕ) (y : Bytes f) (e : load_number (load_of f).answer ≡ 0) where
  pub box_holds : Holds (box f).settings.capacity (box f).stash (kept f)
  box_holds =
      let w = (loads f y e).whole.stash in
      record { held = all_named _ (cookies_keep (box f).settings.capacity (box f).stash w); room = w.room }

  -- promise: no14.9
  pub loaded_cookie_order : (calls : List (M.Call rule)) → let done = M.run machine (box f) calls in
      SomeOf (handed_out done) (kept f ++ stored_in (box f).settings.nts done)
  loaded_cookie_order calls = handed_some calls (box f) (kept f) box_holds

  -- promise: no14.9
  pub loaded_cookie_places : (calls : List (M.Call rule)) → let done = M.run machine (box f) calls in
      Placed [] (handed_out done) (kept f ++ stored_in (box f).settings.nts done)
  loaded_cookie_places calls = placed [] (loaded_cookie_order calls)

  -- and over any run of the code's calls
  -- promise: no14.9
  pub code_loaded_cookie_order : {b : Association} {calls : List (M.Call rule)} {done : List (M.Done machine)} → Ran (box f) calls done b →
      SomeOf (handed_out done) (kept f ++ stored_in (box f).settings.nts done)
  code_loaded_cookie_order {calls} r = rw (ran_is_run r).0 (loaded_cookie_order calls)
