-- `put_file` meets its contract: the records, one behind the other.
-- Assumes nothing.
use native.Mathlib.Omega.{arith}
use Rattle.words.proofs.Put.{laid_put}
use Rattle.handover_save.proofs.Writing.{settings_record_long, settings_laid, state_laid, file_put}
use Rattle.handover_save.proofs.put_file.Goals as goal

pub put_stash-to-requires : goal.put_stash-to-requires
put_stash-to-requires g c =
    let p = c.requires in
    let l = settings_record_long c.settings.result in
    let first = laid_put _ _ _ c.lay_settings-to.ensures (omega (arith, l, p.2)) in
    (p.0, p.1, omega (arith, l, p.2, first.ends, c.lay_settings-to.auto.out))

pub returns : goal.returns
returns g c =
    let a = g.S.Savable.association c.args.a.now.of.now in
    let p = c.requires in
    file_put a.settings a.stash a.state (settings_laid _ _ c.settings.ensures c.lay_settings-to.ensures) c.put_stash-to.ensures.1
    (state_laid _ _ c.state.ensures c.lay_state.ensures) (omega (arith, p.0, p.2))
