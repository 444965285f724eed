-- Whether a reply that is no NTSN kiss answers a request does not depend on its untrusted group (RULES, part 8).
-- Assumes nothing.
use mathlib.Core.Path.{◌≡◌, ap}
use mathlib.Core.Bool.{Bool, false, not, ◌&&◌, ◌||◌}
use Prim.Native.Nat.{ℕ}
use lib.Dec.{eqb}
use Rattle.wire_groups.specs.declared.Uid.{Uid}
use Rattle.wire_groups.proofs.Untrusted.{untrusted_idle}
use Rattle.wire_incoming.specs.declared.Reply.{Reply}
use Rattle.reply_clauses.specs.After.{answers}

-- the same reply, with another untrusted group
abbrev pub with_untrusted : Reply → Uid → Reply
with_untrusted r u = record r { untrusted = u }

pub answers_same : (r : Reply) (u : Uid) → r.kisses.ntsn ≡ false → (nts : Bool) (id : ℕ) → answers nts id (with_untrusted r u) ≡ answers nts id r
answers_same r u plain nts id =
    ap (λ (m : Bool). eqb r.origin id && (not nts || m))
    (rw plain (untrusted_idle r.authenticated r.encrypted u r.untrusted))
