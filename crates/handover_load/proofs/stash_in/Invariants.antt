-- `stash_in` meets its contract. The loop's invariant: the cookies that are left, laid behind those that are there, make the stash.
-- Assumes nothing.
use Rattle.handover_file.specs.Cookies.{stash_of}
use Rattle.handover_file.specs.Given.{cookies_left}
use Rattle.handover_load.proofs.Reading.{Laying}
use Rattle.handover_load.proofs.stash_in.Given as goal

abbrev pub invariant-loop-cookie : goal.invariant-loop-cookie
invariant-loop-cookie l = Laying l.found.settings.capacity (cookies_left l.cookie-iterator) l.stash (stash_of l.found.settings.capacity l.found.stash.now)
