-- `put_stash` meets its contract: the head, the reading place, the cookies.
-- Assumes nothing.
use Prim.Native.Nat.{ℕ}
use mathlib.Core.Path.{ap, ◌∙◌}
use mathlib.Core.List.{[], ◌∷◌, ◌++◌}
use Rattle.words.specs.Bytes.{to_be}
use native.Mathlib.Omega.{arith}
use Rattle.words.proofs.Put.{laid_put}
use Rattle.handover_save.proofs.Writing.{stash_long, stash_put}
use Rattle.handover_save.proofs.put_stash.Goals as goal

pub put_cookies-requires : goal.put_cookies-requires
put_cookies-requires g c =
    let a = g.S.Savable.association c.args.a.now.of.now in
    let p = c.requires in
    let l = stash_long a.settings.capacity a.stash in
    let head = laid_put _ _ _ c.lay-to.ensures (omega (arith, p.2)) in
    let place = laid_put _ _ _ c.lay-to-2.ensures (omega (arith, l, p.0, p.2, head.ends, c.lay-to.auto.out)) in
    (omega (arith, l, p.0, p.2, head.ends, c.lay-to.auto.out, place.ends, c.lay-to-2.auto.out))

pub returns : goal.returns
returns g c =
    let a = g.S.Savable.association c.args.a.now.of.now in
    let p = c.requires in
    let l = stash_long a.settings.capacity a.stash in
    let head = laid_put _ _ _ c.lay-to.ensures (omega (arith, p.2)) in
    let place = laid_put _ _ _ c.lay-to-2.ensures (omega (arith, l, p.0, p.2, head.ends, c.lay-to.auto.out)) in
    let cookies = c.put_cookies.ensures in (
      omega (arith, p.0, l, head.ends, place.ends, cookies.ends),
      stash_put a.settings.capacity a.stash (c.be16_pair.ensures ∙ ap (λ (m : ℕ). to_be 2 m ++ to_be 2 c.args.len) c.mark.ensures) p.0
          (ap (λ (r : ℕ). r ∷ []) c.read.ensures) head place cookies (omega (arith, p.0, p.2, l)),
    )
