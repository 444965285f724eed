-- Each public function's contract determines its result: any two that it allows are equal.
-- Assumes nothing.
use mathlib.Core.Bool.{Bool}
use mathlib.Core.List.{List}
use mathlib.Core.Path.{◌∙◌, sym}
use Prim.Native.Nat.{ℕ}
use Rattle.words.specs.Determined.{Determined, DeterminedContents}
use Rattle.cookielist.specs.declared.Cookies.{Cookies}
use Rattle.cookielist.specs.Cookies.{cookies_left, ends_whole}
use Rattle.cookielist.proofs.Cookies.new.Reads as new
use Rattle.cookielist.proofs.entry_at.Reads as entry_at
use Rattle.cookielist.proofs.list_whole.Reads as list_whole
use Rattle.cookielist.proofs.list_broken.Reads as list-broken

pub entry_at_determined : Determined entry_at.Post
entry_at_determined κs a y z e f p q = p ∙ sym q

pub list_whole_determined : Determined list_whole.Post
list_whole_determined κs a y z e f p q = p ∙ sym q

pub list_broken_determined : Determined list-broken.Post
list_broken_determined κs a y z e f p q = p ∙ sym q

-- what an iterator is to its reader: the cookies to come, and whether the list ends behind them
abbrev pub read : Cookies → (List (List ℕ)) × Bool
read it = (cookies_left it, ends_whole it)

pub new_determined : DeterminedContents new.Post (λ κs it. read it)
new_determined κs a y z e f p q = λ i. ((p.0 ∙ sym q.0) i, (p.1 ∙ sym q.1) i)
