-- `write_plain` meets its contract.
-- Assumes nothing.
use Rattle.std.proofs.Common.{◌≡◌, ap, List, ◌++◌, length, drop, length-take, ℕ, arith, rules}
use Rattle.wire_request.proofs.Fitting.{fits}
use Rattle.wire_request.proofs.write_plain.Goals as goal

pub copy_from_slice-requires : goal.copy_from_slice-requires
copy_from_slice-requires c =
    let long : length c.args.front ≡ 48 = search rules in
    omega (arith, length-take {A = ℕ})

pub returns : goal.returns
returns c =
    let a = c.args in
    let long : length a.front ≡ 48 = search rules in
    fits a.front a.out.now 48 long c.if-out-lt-HEADER_BYTES.false _ (ap (λ (x : List ℕ). x ++ drop 48 a.out.now) c.copy_from_slice.ensures.after)
