-- `CookieStash::lengths` meets its contract. Assumes nothing.
use Rattle.std.proofs.Common.{◌≡◌, length, sym, ◌∙◌, arith, rules}
use lib.ListN.{length-map}
use lib.Seq.{ext_get_or}
use Rattle.cookiestash.specs.Stash.{slot_at}
use Rattle.cookiestash.specs.Whole.{lens_of}
use Rattle.cookiestash.proofs.Scan.{length_mapped, made}
use Rattle.cookiestash.proofs.Lengths.{len_at}
use Rattle.cookiestash.proofs.CookieStash.lengths.Goals as goal

pub returns : goal.returns
unfolding lens_of
returns c =
    let s = c.args.self.now in
    let items = c.from_fn.ensures.items in
    let e : length s.slots ≡ 8 = search (rules, length_mapped) in
    ext_get_or 0 c.from_fn.result (lens_of s) (items.long ∙ sym (length-map s.slots (λ x. x.len) ∙ e))
    (λ k h. made _ _ (λ i. (slot_at s.slots i).len) (λ i y q k. search rules) c.from_fn.result 8 items k (omega arith) ∙ sym (len_at s.slots k))
