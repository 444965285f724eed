use mathlib.Core.Path.{sym, ap, subst, ◌∙◌}
use mathlib.Core.List.{List}
use Prim.Native.Nat.{ℕ}
use lib.ListN.{length, get_or}
use Rattle.record_bytes.specs.Record.{headed}
use Rattle.record_stash.specs.Rows.{Sized, stash_in}
use Rattle.record_stash.specs.Slots.{Becomes}
use Rattle.handover_file.specs.Cookies.{stash_of}
use Rattle.record_files.proofs.Writes.{head_sized, head_stash, written}
use borrow.Author.Rules.{rules}
use Rattle.record_files.proofs.loads.write.Goals as goal

pub lay_all-requires : goal.lay_all-requires
lay_all-requires c =
    let a = c.args in
    let p = c.requires in
    let g = c.store_head.ensures.2 in
    let n = length a.b.now in
    let cap = a.found.settings.capacity in
    let e = c.store_head.ensures.0
    ∙ (λ i. headed (c.clear.ensures i) a.found.settings (c.place_of-read.ensures i) a.found.state) in (
      subst (λ (x : List ℕ). Sized x cap) (sym e) (head_sized a.found.settings (get_or a.found.stash.now 0 0) n p.long p.most a.found.state g),
      ap
          (λ (x : List ℕ). stash_in x cap) e ∙ head_stash a.found.settings (get_or a.found.stash.now 0 0) n p.long p.most a.found.state g,
    )

pub returns : goal.returns
returns c =
    let a = c.args in
    let p = c.requires in
    let g = c.store_head.ensures.2 in
    let n = length a.b.now in
    let cap = a.found.settings.capacity in
    let e = c.store_head.ensures.0 ∙ (λ i. headed (c.clear.ensures i) a.found.settings (c.place_of-read.ensures i)
    a.found.state) in
    written a.found.settings (get_or a.found.stash.now 0 0) n p.long p.most a.found.state g c.lay_all.new.b (stash_of cap a.found.stash.now)
    (search rules)
    (subst (λ (x : List ℕ). Becomes cap x c.lay_all.new.b (stash_of cap a.found.stash.now)) e c.lay_all.ensures)
