-- The test for a whole record is right: of a record that the types allow it says true exactly where the record is whole.
-- Assumes nothing.
use mathlib.Core.Path.{◌≡◌, ap, ◌∙◌}
use mathlib.Core.Bool.{true, false, not}
use borrow.Author.Tests.{eqb-true, eq-eqb, not-true}
use Rattle.words.proofs.Tests.{passes, both}
use Rattle.reach.specs.Register.{unanswered_of}
use Rattle.cookiestash.specs.Whole.{Typed}
use Rattle.cookiestash.proofs.Whole as stash
use Rattle.version.specs.declared.Version.{Version}
use Rattle.version.specs.Upgrade.{upgrading}
use Rattle.association.specs.declared.Effort.{Effort}
use Rattle.association.specs.declared.Association.{Association}
use Rattle.association.specs.Record.{effort_valid, versions_valid, whole_seen, whole_of}
use Rattle.association.specs.Whole.{Whole, Current}

-- the test of the unanswered polls
pub count_of : (e : Effort) → effort_valid e ≡ true → e.unanswered ≡ unanswered_of e.reach
unfolding effort_valid
count_of e t = eqb-true _ _ t

pub of_count : (e : Effort) → e.unanswered ≡ unanswered_of e.reach → effort_valid e ≡ true
unfolding effort_valid
of_count e t = eq-eqb _ _ t

-- promise: whole.2, no8.6, no12.3, no14.3
pub whole_of_lem : (a : Association) → Typed a.stash → whole_of a ≡ true → Whole a
unfolding whole_of whole_seen
whole_of_lem a t e =
    let first = both _ _ e in
    let second = both _ _ first.1 in
    let third = both _ _ second.1 in
    let fourth = both _ _ third.1 in
    let fifth = both _ _ fourth.1 in
    record {
      settings = first.0;
      stash = stash.whole_of_lem a.settings.capacity a.stash t second.0;
      counted = count_of a.state.effort third.0;
      versions = fourth.0;
      request = fifth.0;
      idle = fifth.1;
    }

-- promise: whole.2, no8.6, no12.3, no14.3
pub of_whole : (a : Association) → Whole a → whole_of a ≡ true
unfolding whole_of whole_seen
of_whole a w =
    passes _ w.settings
    ∙ passes _ (stash.of_whole a.settings.capacity a.stash w.stash)
    ∙ passes _ (of_count a.state.effort w.counted)
    ∙ passes _ w.versions
    ∙ passes _ w.request
    ∙ w.idle

-- a version that is not of the retired kind takes the place of another
-- promise: no14.3
pub versions_kept : (start v w : Version) → (upgrading v.kind ≡ false → upgrading w.kind ≡ false) → versions_valid start v ≡ true →
    versions_valid start w ≡ true
unfolding versions_valid
versions_kept start v w k e =
    let p = both (not (upgrading start.kind)) (not (upgrading v.kind)) e in
    passes _ p.0 ∙ ap not (k (not-true (upgrading v.kind) p.1))

-- a whole record has neither as its start version nor as its version the retired kind
-- promise: no14.3
pub none_retired : (a : Association) → Whole a → Current a
unfolding versions_valid
none_retired a w =
    let p = both (not (upgrading a.settings.start.kind)) (not (upgrading a.state.version.kind)) w.versions in
    (not-true _ p.0, not-true _ p.1)
