-- `accept` meets its contract: what is found in the bytes, or none.
-- Assumes nothing.
use mathlib.Core.Path.{◌≡◌, sym, ◌∙◌}
use borrow.Author.Rules.{rules}
use Rattle.std.specs.Prelude.{Err, Some, None}
use Rattle.association_accept.specs.declared.AcceptRefusal.TheVariants.{NotWhole}
use Rattle.record_bytes.specs.Record.{opened_of}
use Rattle.record_calls.proofs.AcceptTold.{refused, told}
use Rattle.record_calls.proofs.accepts.accept.Goals as goal

pub returns-in_err-found : goal.returns-in_err-found
returns-in_err-found c =
    let r : c.from_residual.result ≡ Err NotWhole = search rules in
    let n : None ≡ opened_of c.args.b.now = sym c.in_err-found.ensures.ok_part ∙ c.open_record.ensures in
    r ∙ refused c.args.b.now c.args.stratum c.args.local.now c.args.bloom n

pub returns : goal.returns
returns c =
    let args = c.args in
    let s : Some c.in_ok-found.found ≡ opened_of args.b.now = sym c.in_ok-found.ensures.ok_part ∙ c.open_record.ensures in
    told args.b.now args.stratum args.local.now args.bloom c.in_ok-found.found s c.see-seen.result c.see-seen.ensures _ c.accept_seen.ensures
