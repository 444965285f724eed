-- A cookie list that is stored (RULES, parts 3 and 11): its cookies in order; a broken list changes nothing.
-- Assumes nothing.
use Rattle.std.specs.Prelude.{ℕ, List}
use Rattle.cookielist.specs.List.{Listed, whole, broken, cookies_in}
use Rattle.cookiestash.specs.declared.CookieStash.{CookieStash}
use Rattle.cookiestash.specs.Queue.{store_all}

-- the cookies of a whole list in order; a broken list changes nothing
abbrev pub store_listed : ℕ → CookieStash → Listed → CookieStash
store_listed cap s (whole cs) = store_all cap s cs
store_listed cap s broken = s

-- promise: 3.13, no5.6
unfoldable pub store_list_of : ℕ → CookieStash → List ℕ → CookieStash
store_list_of cap s l = store_listed cap s (cookies_in l)
