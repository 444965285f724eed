-- `check` meets its contract: the tests in order.
-- Assumes nothing.
use Rattle.std.proofs.Common.{arith}
use Rattle.std.proofs.lemmas.Grind.{common_steps}
use mathlib.Core.Path.{sym, ◌∙◌}
use borrow.Author.Tests.{leb-false}
use Rattle.calendar.specs.Calendar.{check_of}
use Rattle.calendar.proofs.Search.{nothing}
use Rattle.calendar.proofs.Repeats.{zero_at, good}
use Rattle.calendar.proofs.Checking.{counted}
use Rattle.calendar.proofs.check.Goals as goal

pub add_all-requires : goal.add_all-requires
add_all-requires c =
    let bad = nothing _ _ (sym c.bad_repeat.ensures ∙ c.in_default.is) in
    let late = nothing _ _ (sym c.late_start.ensures ∙ c.in_default-late_start.is) in
    (c.if-n-gt-MOST_ENTRIES.false, zero_at 1440, λ k l. leb-false _ _ (late k l), λ k l. (good _ (bad k l)).1)

pub returns-in-Some-over_cap : goal.returns-in-Some-over_cap
unfolding check_of
returns-in-Some-over_cap c =
    let same = counted c.args.cap c.args.starts.now c.args.repeats.now c.add_all.new.loads c.entries-n.result c.add_all.ensures in
    grind (arith, common_steps)

pub returns-in-None : goal.returns-in-None
unfolding check_of
returns-in-None c =
    let same = counted c.args.cap c.args.starts.now c.args.repeats.now c.add_all.new.loads c.entries-n.result c.add_all.ensures in
    grind (arith, common_steps)
