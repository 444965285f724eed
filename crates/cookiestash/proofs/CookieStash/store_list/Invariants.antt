-- `CookieStash::store_list` meets its contract. The loop's invariant: with the cookies that are left stored, the stash and the sums are what they are to be.
-- Assumes nothing.
use Rattle.cookielist.specs.Cookies.{cookies_left}
use Rattle.cookiestash.proofs.StoreList.{Along}
use Rattle.cookiestash.proofs.CookieStash.store_list.Given as goal

abbrev pub invariant-loop-cookie : goal.invariant-loop-cookie
invariant-loop-cookie l = Along l.capacity l.initial.self l.list l.self (cookies_left l.cookie-iterator) l.dropped
