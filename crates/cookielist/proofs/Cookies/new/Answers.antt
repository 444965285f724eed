-- `Cookies::new` meets its contract. Assumes nothing.
use mathlib.Core.Path.{refl}
use Rattle.cookielist.specs.List.{cookies_in}
use Rattle.cookielist.specs.Cookies.{cookies_given, cookies_left, ends_whole}
use Rattle.cookielist.proofs.Cookies.new.Goals as goal

pub returns-clause-cookies : goal.returns-clause-cookies
unfolding cookies_given cookies_left
returns-clause-cookies c = refl

pub returns-clause-whole : goal.returns-clause-whole
unfolding cookies_in ends_whole
returns-clause-whole c = refl
