-- `unused` meets its contract. Assumes nothing.
use Rattle.std.proofs.Common.{ℕ, Bool, ◌==◌, rules, ◌∙◌}
use Rattle.std.proofs.lemmas.Iterator.{YieldsList-from_slice}
use Rattle.std.proofs.lemmas.Iterator.Search.{all_from_yields_List}
use Rattle.cookiestash.proofs.Scan.{all_zero}
use Rattle.cookiestash.proofs.unused.Goals as goal

pub returns : goal.returns
returns c =
    let test : ℕ → Bool = λ x. x == 0 in
    all_from_yields_List test _ _ _ c.all.ensures.ran (YieldsList-from_slice c.args.lens.now cc) (λ x b q k. search rules) ∙ all_zero c.args.lens.now
