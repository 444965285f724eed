-- `put_list` meets its contract: the groups, one behind the other.
-- Assumes nothing.
use native.Mathlib.Omega.{arith}
use Rattle.handover_compare.proofs.Listing.{groups_long, groups_put}
use Rattle.handover_compare.proofs.put_list.Goals as goal

pub put_eight-to-requires : goal.put_eight-to-requires
put_eight-to-requires c =
    omega (arith, c.requires, groups_long c.args.g)

pub put_field-to-requires : goal.put_field-to-requires
put_field-to-requires c =
    omega (
      arith,
      c.requires,
      groups_long
          c.args.g,
      c.put_eight-to.ensures.ends,
      c.put_eight-to.auto.out,
    )

pub put_field-to-requires-2 : goal.put_field-to-requires-2
put_field-to-requires-2 c =
    omega (
      arith,
      c.requires,
      groups_long
          c.args.g,
      c.put_eight-to.ensures.ends,
      c.put_eight-to.auto.out,
      c.put_field-to.ensures.ends,
      c.put_field-to.auto.out,
    )

pub put_eight-to-requires-2 : goal.put_eight-to-requires-2
put_eight-to-requires-2 c =
    omega (
      arith,
      c.requires,
      groups_long
          c.args.g,
      c.put_eight-to.ensures.ends,
      c.put_eight-to.auto.out,
      c.put_field-to.ensures.ends,
      c.put_field-to.auto.out,
      c.put_field-to-2.ensures.ends,
      c.put_field-to-2.auto.out,
    )

pub put_eight-requires : goal.put_eight-requires
put_eight-requires c =
    omega (
      arith,
      c.requires,
      groups_long
          c.args.g,
      c.put_eight-to.ensures.ends,
      c.put_eight-to.auto.out,
      c.put_field-to.ensures.ends,
      c.put_field-to.auto.out,
      c.put_field-to-2.ensures.ends,
      c.put_field-to-2.auto.out,
      c.put_eight-to-2.ensures.ends,
      c.put_eight-to-2.auto.out,
    )

pub returns : goal.returns
returns c =
    groups_put c.args.g c.requires
    c.put_eight-to.ensures
    c.put_field-to.ensures
    c.put_field-to-2.ensures
    c.put_eight-to-2.ensures
    c.put_eight.ensures
