-- With capacity 8 the reply is what it was before there was a capacity (RULES, No. 12): the stash is looked at, and a list stored, as in one of eight.
-- Assumes nothing.
use mathlib.Core.Path.{◌≡◌, ap, ◌∙◌}
use mathlib.Core.Bool.{cond}
use mathlib.Core.List.{List}
use Prim.Native.Nat.{ℕ}
use Rattle.std.specs.Prelude.{Option}
use Rattle.cookiestash.specs.StoreList.{store_list_of}
use Rattle.cookiestash.specs.Falling.{none_dropped, dropped_of}
use Rattle.cookiestash.specs.Whole.{seen_of}
use Rattle.association.specs.declared.Association.{Association}
use Rattle.wire_incoming.specs.declared.Reply.{Reply}
use Rattle.reply_clauses.specs.After.{Arrival}
use Rattle.reply_rules.specs.declared.Verdict.{Verdict}
use Rattle.reply_rules.specs.Judge.{verdict_of}
use Rattle.reply.specs.declared.ReplyOut.{ReplyOut}
use Rattle.reply.specs.Reply.{told, judged, replied_of}

-- what is judged, stored in a record whose stash is one of a capacity
abbrev judged_in : ℕ → Association → List ℕ → Verdict → ReplyOut
judged_in c a list v =
    told v.answer (cond v.stores (dropped_of c a.stash list) none_dropped)
    (record { settings = a.settings; stash = cond v.stores (store_list_of c a.stash list) a.stash; state = v.state })

-- promise: no12.4
pub reply_8 : (a : Association) → a.settings.capacity ≡ 8 → (read : Option Reply) (t : Arrival) →
    replied_of a read t ≡ judged_in 8 a t.list (verdict_of a.settings a.state (seen_of 8 a.stash) read t)
unfolding replied_of
reply_8 a e read t =
    ap (λ (c : ℕ). judged a t.list (verdict_of a.settings a.state (seen_of c a.stash) read t)) e
    ∙ ap (λ (c : ℕ). judged_in c a t.list (verdict_of a.settings a.state (seen_of 8 a.stash) read t)) e
