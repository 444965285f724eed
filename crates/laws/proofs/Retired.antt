-- The retired kind along any log (RULES, No. 14): from a whole record no call leads back to it, and no upgrade request is sent.
-- Assumes nothing.
use mathlib.Core.Path.{◌≡◌, sym}
use mathlib.Core.Bool.{Bool, true, false, false≢true}
use mathlib.Core.List.{List, [], ◌∷◌}
use Prim.Native.Nat.{ℕ}
use native.Mathlib.Omega.{arith}
use lib.ListN.{length}
use Rattle.version.specs.declared.ProtocolVersion.{ProtocolVersion}
use Rattle.version.specs.declared.ProtocolVersion.TheVariants.{V4, Upgrading, Upgraded, V5}
use Rattle.version.specs.declared.SendKind.TheVariants.{V4Upgrade}
use Rattle.version.specs.Upgrade.{upgrading, fallen_back}
use Rattle.version.specs.Send.{kind_of}
use Rattle.version.proofs.Retired.{fallen_stays}
use Rattle.association.specs.declared.Association.{Association}
use Rattle.association.specs.Whole.{Whole, Current}
use Rattle.association.proofs.Whole.{none_retired}
use Rattle.timer_rules.specs.declared.TimerInput.{TimerInput}
use Rattle.timer_rules.specs.Poll.{tried_of}
use Rattle.timer.specs.declared.TimerOut.{TimerOut}
use Rattle.timer.specs.Numbers as T
use Rattle.timer.proofs.Numbers as timer-numbers
use Rattle.laws_log.specs.Machine as M
use Rattle.laws.specs.Association.{rule, machine}
use Rattle.laws.proofs.Bridge.{Ran, ran_is_run}
use Rattle.laws.specs.Retired.{Plain, AllPlain}
use Rattle.laws.proofs.Unanswered.{call_whole, whole_along}

-- along any log from a whole record neither its start version nor its version is of the retired kind
-- promise: no14.6
pub never_back : (a : Association) → Whole a → (calls : List (M.Call rule)) → Current (M.after machine a calls)
never_back a w calls = none_retired (M.after machine a calls) (whole_along a w calls)

-- and of any run of the code's calls
-- promise: no14.6 (of any run of the code's calls)
pub code_never_back : {a b : Association} {calls : List (M.Call rule)} {done : List (M.Done machine)} → Whole a → Ran a calls done b → Current b
code_never_back {a} {calls} w r = rw (ran_is_run r).1 (never_back a w calls)

-- ---- what is sent

plain_kind : (k : ProtocolVersion) (nts : Bool) → upgrading k ≡ false → kind_of k nts ≡ V4Upgrade → ⊥
plain_kind V4 true u e = let z : ◌≡◌ {A = ℕ} 0 1 = cc in omega arith
plain_kind V4 false u e = let z : ◌≡◌ {A = ℕ} 0 1 = cc in omega arith
plain_kind (Upgrading tries) nts u e = false≢true (sym u)
plain_kind Upgraded true u e = let z : ◌≡◌ {A = ℕ} 0 1 = cc in omega arith
plain_kind Upgraded false u e = let z : ◌≡◌ {A = ℕ} 0 1 = cc in omega arith
plain_kind V5 true u e = let z : ◌≡◌ {A = ℕ} 0 1 = cc in omega arith
plain_kind V5 false u e = let z : ◌≡◌ {A = ℕ} 0 1 = cc in omega arith

module _ (a : Association) (w : Whole a) (i : TimerInput) (room : ℕ) where
  tried_plain : kind_of (tried_of a.state).version.kind a.settings.nts ≡ V4Upgrade → ⊥
  unfolding tried_of
  tried_plain =
      let k = a.state.version.kind in
      let n = a.state.effort.unanswered in
      plain_kind (fallen_back k n) a.settings.nts (fallen_stays k n (none_retired a w).1)

  plain : {n : ℕ} {o : TimerOut} → T.Given a i room n o → Plain o.answer
  plain (T.not_whole e) = tt
  plain (T.short_buffer_lem e s) = tt
  plain (T.demobilize c o d) = tt
  plain (T.reset c o d) = tt
  plain (T.no_cookie_lem t n h) = tt
  plain (T.too_large k z) = tt
  plain (T.sent t n) = tried_plain
  plain (T.sent_nts k z) = tried_plain

-- no poll of any log from a whole record is an upgrade request
-- promise: no14.6
pub no_upgrade_request : (calls : List (M.Call rule)) (a : Association) → Whole a → AllPlain (M.run machine a calls)
no_upgrade_request [] a w = tt
no_upgrade_request (M.timer t ∷ cs) a w =
    let room = length t.buffer in
    (plain a w t.poll room (timer-numbers.given a t.poll room), no_upgrade_request cs (M.step machine a (M.timer t)) (call_whole a (M.timer t) w))
no_upgrade_request (M.reply r ∷ cs) a w = no_upgrade_request cs (M.step machine a (M.reply r)) (call_whole a (M.reply r) w)
