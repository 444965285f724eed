-- `Cookies::is_done` meets its contract. Assumes nothing.
use Rattle.cookielist.specs.Cookies.{cookies_left, ends_whole}
use Rattle.cookielist.proofs.Given.{done}
use Rattle.cookielist.proofs.Cookies.is_done.Goals as goal

pub returns : goal.returns
unfolding cookies_left ends_whole
returns c = done c.args.self.now.list.now c.args.self.now.at
