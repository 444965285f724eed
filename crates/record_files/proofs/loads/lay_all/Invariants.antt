-- `lay_all` meets its contract. The loop's invariant: the cookies that are left, laid behind those in the rows, make the stash.
-- Assumes nothing.
use Rattle.handover_file.specs.Cookies.{stash_of}
use Rattle.handover_file.specs.Given.{cookies_left}
use Rattle.record_files.proofs.Laid.{Along}
use Rattle.record_files.proofs.loads.lay_all.Given as goal

abbrev pub invariant-loop-cookie : goal.invariant-loop-cookie
invariant-loop-cookie l =
    Along l.found.settings.capacity (cookies_left l.cookie-iterator) (stash_of l.found.settings.capacity l.found.stash.now) l.initial.b l.b
