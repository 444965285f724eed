-- Every record that the machine holds fits its file: the types alone give it.
-- Assumes nothing.
use mathlib.Core.Path.{◌≡◌}
use mathlib.Core.List.{List}
use borrow.Author.Rules.{rules}
use denote.Laws.{Is}
use lib.ListN.{length}
use mir.Val.{Val}
use Rattle.cookiestash.specs.declared.CookieStash.{CookieStash}
use Rattle.cookiestash.specs.contracts.CookieStash as CookieStash·
use Rattle.cookiestash.proofs.Scan.{length_mapped}
use Rattle.association.specs.declared.Association.{Association}
use Rattle.association.specs.contracts.Association.{the_row}
use Rattle.handover_groups.proofs.Fit.{settings_fit, polls_fit, source_fit}
use Rattle.handover_file.proofs.File.{Fit}

pub stash_fit : (s : CookieStash) (vs : List Val) → Is CookieStash·.the_row s vs → length s.slots ≡ 8
stash_fit s vs is = search (rules, length_mapped)

pub types_fit : (a : Association) (vs : List Val) → Is the_row a vs → Fit a
types_fit a vs is =
    let state = is.1.1.1.1.0 in
    record {
      settings = settings_fit a.settings _ is.1.1.0;
      eight = stash_fit a.stash _ is.1.1.1.0;
      polls = polls_fit a.state.polls _ state.1.1.1.1.0;
      refid = source_fit a.state.source _ state.1.1.1.1.1.0;
    }
