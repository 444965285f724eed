-- `CookieStash::all_padded` meets its contract. Assumes nothing.
use Rattle.std.proofs.Common.{rules, ◌∙◌}
use Rattle.std.proofs.lemmas.Iterator.{YieldsList-from_slice}
use Rattle.std.proofs.lemmas.Iterator.Search.{all_from_yields_List}
use Rattle.cookiestash.specs.Whole.{padded}
use Rattle.cookiestash.proofs.Scan.{each_padded}
use Rattle.cookiestash.proofs.CookieStash.all_padded.Goals as goal

pub returns : goal.returns
returns c =
    let slots = c.args.self.now.slots in
    all_from_yields_List padded _ _ _ c.all.ensures.ran (YieldsList-from_slice slots cc) (λ x b q k. search rules) ∙ each_padded slots
