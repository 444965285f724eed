-- `handover_file::cut::stash_fits` meets its contract. The loop's invariant: what is read from `at` on decides.
-- Assumes nothing.
use mathlib.Core.Path.{◌≡◌, sym, ◌∙◌}
use native.Mathlib.Omega.{arith}
use Rattle.handover_file.specs.declared.cut.Held.TheVariants.{One}
use Rattle.handover_file.specs.Steps.{held_at}
use Rattle.handover_file.specs.Cookies.{stash_fits}
use Rattle.handover_file.proofs.Turn.{one_within, fits_one, fits_rest}
use Rattle.handover_file.proofs.cut.stash_fits.Goals as goal
use Rattle.handover_file.proofs.cut.stash_fits.Goals.{In-One}

-- the cookie that was read
cookie_at : (c : In-One) →
    held_at c.args.b.now c.loop-end.at ≡ One c.in-One.len c.in-One.start c.in-One.end
cookie_at c = sym c.held_at.ensures ∙ c.in-One.is

pub returns-then-is_empty : goal.returns-then-is_empty
unfolding stash_fits
returns-then-is_empty c = grind arith

pub loop-end-init : goal.loop-end-init
unfolding stash_fits
loop-end-init c = grind arith

pub loop-end-smaller : goal.loop-end-smaller
loop-end-smaller c = let w = one_within _ _ _ _ _ (cookie_at (goal.at.loop-end-smaller c).In-One) in omega arith

pub loop-end-preserved : goal.loop-end-preserved
loop-end-preserved c =
    let e = cookie_at (goal.at.loop-end-preserved c).In-One in
    let i = c.loop-end.invariant in
    ((one_within _ _ _ _ _ e).3, sym (fits_one _ _ i.0 _ _ _ e) ∙ i.1)

pub returns : goal.returns
returns c =
    let i = c.loop-end.invariant in
    sym (fits_rest _ _ i.0 (λ len start stop e. c.in_default.not-One len start stop (c.held_at.ensures ∙ e))) ∙ i.1
