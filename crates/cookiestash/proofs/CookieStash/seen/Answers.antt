-- `CookieStash::seen` meets its contract. Assumes nothing.
use Rattle.cookiestash.proofs.Lengths.{seen_from_lem}
use Rattle.cookiestash.proofs.CookieStash.seen.Goals as goal

pub returns : goal.returns
returns c = let a = c.args in rw (c.seen_from.ensures, c.all_padded.ensures, c.lengths.ensures) (seen_from_lem a.capacity a.self)
