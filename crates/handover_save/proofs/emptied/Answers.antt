-- `emptied` meets its contract.
-- Assumes nothing.
use mathlib.Core.Path.{ap}
use Rattle.cookiestash.specs.declared.CookieStash.{CookieStash}
use Rattle.cookiestash.specs.Stash.{new_of}
use Rattle.handover_file.specs.Cookies.{empty_at}
use Rattle.handover_save.proofs.emptied.Goals as goal

pub returns : goal.returns
unfolding empty_at new_of
returns c = ap (λ (s : CookieStash). record { slots = s.slots; read = c.args.read; held = s.held }) c.new.ensures
