-- `Cookies::next` meets its contract: it gives the cookie at its place, and moves to where that ends.
-- Assumes nothing.
use mathlib.Core.Path.{◌≡◌, sym, ap, ◌∙◌}
use mathlib.Core.List.{[]}
use native.Mathlib.Omega.{arith}
use borrow.Author.Rules.{rules}
use lib.ListN.{length}
use Rattle.words.specs.Bytes.{part}
use Rattle.handover_file.specs.declared.cut.Held.TheVariants.{One}
use Rattle.handover_file.specs.Steps.{held_at}
use Rattle.handover_file.specs.Given.{cookies_left}
use Rattle.handover_file.proofs.Turn.{one_within}
use Rattle.handover_file.proofs.Given.{given_one, none_given}
use Rattle.handover_file.proofs.cut.CookiesIterator.next.Goals as goal
use Rattle.handover_file.proofs.cut.CookiesIterator.next.Goals.{In-One}

-- the cookie that was read
cookie_at : (c : In-One) → let it = c.args.self.now in held_at it.body.now it.at ≡ One c.in-One.len c.in-One.start c.in-One.end
cookie_at c = sym c.held_at.ensures ∙ c.in-One.is

pub returns-in_default : goal.returns-in_default
unfolding cookies_left
returns-in_default c =
    let it = c.args.self.now in
    let none : cookies_left it ≡ [] = none_given it.body.now it.at (λ l s e p. c.in_default.not-One l s e (c.held_at.ensures ∙ p)) in
    record { steps = (none, none); goes = search rules }

pub slice_bounds-result-count : goal.slice_bounds-result-count
slice_bounds-result-count c = let w = one_within _ _ _ _ _ (cookie_at (goal.at.slice_bounds-result-count c).In-One) in omega arith

pub slice_bounds-result-start : goal.slice_bounds-result-start
slice_bounds-result-start c = let w = one_within _ _ _ _ _ (cookie_at (goal.at.slice_bounds-result-start c).In-One) in omega arith

pub slice_bounds-result-end : goal.slice_bounds-result-end
slice_bounds-result-end c = let w = one_within _ _ _ _ _ (cookie_at (goal.at.slice_bounds-result-end c).In-One) in omega arith

pub returns-clause-steps : goal.returns-clause-steps
unfolding cookies_left part
returns-clause-steps c =
    let it = c.args.self.now in
    given_one it.body.now it.at _ _ _ (cookie_at (goal.at.returns-clause-steps c).In-One)

pub returns-clause-goes : goal.returns-clause-goes
unfolding cookies_left
returns-clause-goes c =
    let it = c.args.self.now in
    let shorter = ap length (given_one it.body.now it.at _ _ _ (cookie_at (goal.at.returns-clause-goes c).In-One)) in
    search rules
