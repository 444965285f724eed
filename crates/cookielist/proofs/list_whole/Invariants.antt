-- `list_whole` meets its contract. The loop's invariant: what is left to be read decides. Assumes nothing.
use mathlib.Core.Path.{◌≡◌}
use lib.ListN.{length}
use Rattle.cookielist.specs.List.{is_whole, cookies_in}
use Rattle.cookielist.specs.Cookies.{cookies_left, ends_whole}
use Rattle.cookielist.proofs.list_whole.Given as goal

abbrev pub invariant-loop : goal.invariant-loop
invariant-loop l = ends_whole l.cookies ≡ is_whole (cookies_in l.list)

abbrev pub decreases-loop : goal.decreases-loop
decreases-loop l = length (cookies_left l.cookies)
