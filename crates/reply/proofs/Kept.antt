-- A reply leaves a whole record whole.
-- Assumes nothing.
use mathlib.Core.Path.{◌≡◌, refl, sym, ◌∙◌}
use mathlib.Core.Bool.{Bool, true, false, cond}
use mathlib.Core.List.{List}
use Prim.Native.Nat.{ℕ}
use lib.Dec.{eqb}
use Rattle.std.specs.Prelude.{Option}
use Rattle.words.proofs.Zeros.{of_zeros}
use Rattle.words.proofs.Tests.{passes, both}
use Rattle.reach.proofs.Unanswered.{answered_unanswered}
use Rattle.cookiestash.specs.declared.CookieStash.{CookieStash}
use Rattle.cookiestash.specs.StoreList.{store_list_of}
use Rattle.cookiestash.specs.Whole as stash
use Rattle.cookiestash.proofs.StoreList.{store_list_whole}
use Rattle.version.specs.Upgrade.{stepped_of}
use Rattle.version.proofs.Retired.{stepped_stays}
use Rattle.association.specs.declared.Association.{Association}
use Rattle.association.specs.declared.State.{State}
use Rattle.association.specs.Record.{no_pending, with_state, versions_valid, pending_valid, idle_valid}
use Rattle.association.specs.Whole.{Whole}
use Rattle.association.proofs.Whole.{versions_kept}
use Rattle.wire_incoming.specs.declared.Reply.{Reply}
use Rattle.reply_clauses.specs.After.{Arrival, stepped, after_rate_kiss, after_denial, after_measured}
use Rattle.reply.specs.declared.ReplyOut.{ReplyOut}
use Rattle.reply.specs.Reply.{replied_of}
use Rattle.reply.specs.Numbers.{
  Given,
  not_whole,
  undecodable,
  broken_list,
  unexpected_version,
  never_sent_lem,
  already_measured_lem,
  late,
  no_match,
  rate,
  denied,
  denied_nts,
  ntsn,
  other_kiss,
  bad_stratum,
  not_server,
  measured,
}
use Rattle.reply.proofs.Numbers.{given}

-- with NTS the cookies are stored, and without it read and held stay zero
module _ (cap : ℕ) (s : CookieStash) (list : List ℕ) where
  abbrev stored : Bool → CookieStash
  stored nts = cond nts (store_list_of cap s list) s

  stored_whole : (nts : Bool) → stash.Whole cap s → stash.Whole cap (stored nts)
  stored_whole true w = store_list_whole cap s w list
  stored_whole false w = w

  stored_idle : (nts : Bool) (uid : List ℕ) → idle_valid nts s.read s.held uid ≡ true →
      idle_valid nts (stored nts).read (stored nts).held (no_pending true).uid ≡ true
  unfolding idle_valid no_pending
  stored_idle true uid e = refl
  stored_idle false uid e =
      let first = both (eqb s.read 0) _ e in
      passes _ first.0 ∙ passes _ (both (eqb s.held 0) _ first.1).0 ∙ of_zeros 32

-- whichever number is given
module _ (a : Association) (read : Option Reply) (t : Arrival) (w : Whole a) where
  -- the upgrade step leads to no retired kind
  stepped_on : versions_valid a.settings.start (stepped_of a.state.version false) ≡ true
  stepped_on = versions_kept a.settings.start a.state.version (stepped_of a.state.version false) (stepped_stays a.state.version.kind false)
      w.versions

  -- a matching reply that is not measured leaves effort and request
  matched_whole : (s : State) → s.version ≡ stepped_of a.state.version false → s.effort ≡ a.state.effort → s.request ≡ a.state.request →
      Whole (with_state a s)
  matched_whole s v f q =
      record {
        settings = w.settings;
        stash = w.stash;
        counted = rw f w.counted;
        versions = rw v stepped_on;
        request = rw q w.request;
        idle = rw q w.idle;
      }

  given_whole : {n : ℕ} {o : ReplyOut} → Given a read t n o → Whole o.association
  unfolding stepped after_rate_kiss after_denial after_measured no_pending pending_valid
  given_whole (not_whole e) = w
  given_whole (undecodable v e) = w
  given_whole (broken_list d e) = w
  given_whole (unexpected_version l e) = w
  given_whole (never_sent_lem x e) = w
  given_whole (already_measured_lem x e) = w
  given_whole (late x e) = w
  given_whole (no_match i e) = w
  given_whole (rate m e) = matched_whole _ refl refl refl
  given_whole (denied u e f) = matched_whole _ refl refl refl
  given_whole (denied_nts u e f) = matched_whole _ refl refl refl
  given_whole (ntsn v e) = matched_whole _ refl refl refl
  given_whole (other_kiss k e) = matched_whole _ refl refl refl
  given_whole (bad_stratum k e) = matched_whole _ refl refl refl
  given_whole (not_server s e) = matched_whole _ refl refl refl
  given_whole (measured s e) =
      record {
        settings = w.settings;
        stash = stored_whole a.settings.capacity a.stash t.list a.settings.nts w.stash;
        counted = sym (answered_unanswered a.state.effort.reach);
        versions = stepped_on;
        request = of_zeros 32;
        idle = stored_idle a.settings.capacity a.stash t.list a.settings.nts a.state.request.uid w.idle;
      }

  -- promise: whole.3, no8.1, no12.3
  pub reply_whole : Whole (replied_of a read t).association
  reply_whole = given_whole (given a read t)
