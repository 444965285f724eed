-- `has_long_cookie` meets its contract: the list is whole, so the cookies that the iterator gives are the list's.
-- Assumes nothing.
use mathlib.Core.Path.{ap, ◌∙◌}
use mathlib.Core.Bool.{Bool}
use mathlib.Core.List.{List}
use Prim.Native.Nat.{ℕ}
use lib.Dec.{ltb}
use lib.ListN.{length}
use borrow.Author.Rules.{rules}
use borrow.Author.Tests.{not-false}
use Rattle.std.specs.List.{list_any}
use Rattle.std.proofs.lemmas.Iterator.Search.{any_from_yields_List}
use Rattle.cookielist.proofs.Given.{gives_all}
use Rattle.association_metered.proofs.Longer.{any_longer_is}
use Rattle.association_metered.proofs.has_long_cookie.Goals as goal

pub returns-then-nts : goal.returns-then-nts
returns-then-nts c =
    let test : List ℕ → Bool = λ cookie. ltb 100 (length cookie) in
    let any = any_from_yields_List test _ _ _ c.any.ensures.ran (gives_all c.new.result) (λ x b q k. search rules) in
    let whole = not-false _ (rw c.if-nts.true at c.requires) in
    rw c.if-nts.true (any ∙ ap (list_any test) c.new.ensures.cookies ∙ any_longer_is 100 c.args.list.now whole)
