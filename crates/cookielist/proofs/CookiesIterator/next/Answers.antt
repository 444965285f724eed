-- `Cookies::next` meets its contract: it gives the cookie at its place, and moves to where that ends. Assumes nothing.
use mathlib.Core.Path.{◌≡◌, refl, sym, ap, ◌∙◌}
use mathlib.Core.List.{[]}
use native.Mathlib.Omega.{arith}
use borrow.Author.Rules.{rules}
use lib.ListN.{length}
use Rattle.words.specs.Bytes.{part}
use Rattle.cookielist.specs.declared.Entry.TheVariants.{Cookie}
use Rattle.cookielist.specs.List.{entry_at}
use Rattle.cookielist.specs.Cookies.{cookies_left, ends_whole}
use Rattle.cookielist.proofs.Reader.{placed, whole_cookie}
use Rattle.cookielist.proofs.Given.{given_cookie, none_given}
use Rattle.cookielist.proofs.CookiesIterator.next.Goals as goal
use Rattle.cookielist.proofs.CookiesIterator.next.Goals.{In-Cookie}

-- the entry that was read
cookie_at : (c : In-Cookie) → let it = c.args.self.now in entry_at it.list.now it.at ≡ Cookie c.in-Cookie.start c.in-Cookie.end
cookie_at c = sym c.entry_at.ensures ∙ c.in-Cookie.is

pub returns-in_default : goal.returns-in_default
unfolding cookies_left
returns-in_default c =
    let it = c.args.self.now in
    let none : cookies_left it ≡ [] = none_given it.list.now it.at (λ s e p. c.in_default.not-Cookie s e (c.entry_at.ensures ∙ p)) in
    record { steps = ((none, none), refl); goes = search rules }

pub slice_bounds-result-count : goal.slice_bounds-result-count
slice_bounds-result-count c = let w = placed _ _ _ _ (cookie_at (goal.at.slice_bounds-result-count c).In-Cookie) in omega arith

pub slice_bounds-result-start : goal.slice_bounds-result-start
slice_bounds-result-start c = let w = placed _ _ _ _ (cookie_at (goal.at.slice_bounds-result-start c).In-Cookie) in omega arith

pub slice_bounds-result-end : goal.slice_bounds-result-end
slice_bounds-result-end c = let w = placed _ _ _ _ (cookie_at (goal.at.slice_bounds-result-end c).In-Cookie) in omega arith

pub returns-clause-steps : goal.returns-clause-steps
unfolding cookies_left ends_whole part
returns-clause-steps c =
    let it = c.args.self.now in
    let e = cookie_at (goal.at.returns-clause-steps c).In-Cookie in
    (given_cookie it.list.now it.at _ _ e, sym (whole_cookie it.list.now it.at _ _ e))

pub returns-clause-goes : goal.returns-clause-goes
unfolding cookies_left
returns-clause-goes c =
    let it = c.args.self.now in
    let shorter = ap length (given_cookie it.list.now it.at _ _ (cookie_at (goal.at.returns-clause-goes c).In-Cookie)) in
    search rules
