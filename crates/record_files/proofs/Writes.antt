-- What is written into lent bytes is the loaded record, packed: its head before zeros, and then the cookies.
-- Assumes nothing.
use Prim.Native.Nat.{ℕ, ◌+◌, ◌*◌, ◌≤◌}
use mathlib.Core.Path.{◌≡◌, ◌∙◌}
use mathlib.Core.List.{List}
use lib.ListN.{replicate}
use Rattle.words.proofs.Bytes.{Bytes}
use Rattle.cookiestash.specs.declared.CookieStash.{CookieStash}
use Rattle.association.specs.declared.Settings.{Settings}
use Rattle.association.specs.declared.State.{State}
use Rattle.association.specs.declared.Association.{Association}
use Rattle.handover_file.specs.Cookies.{empty_at}
use Rattle.record_stash.specs.Rows.{stash_in, Sized}
use Rattle.record_stash.specs.Slots.{Becomes}
use Rattle.record_stash.proofs.With.{of_becomes}
use Rattle.record_bytes.specs.State.{StateFit}
use Rattle.record_bytes.specs.Record.{packed, headed}
use Rattle.record_bytes.proofs.Lies.{Lies, empty_from, headed_lies, put}

module _ (s : Settings) (r n : ℕ) (is : n ≡ 92 + s.capacity * 726) (most : s.capacity ≤ 8) (q : State) (g : StateFit q) where
  abbrev empty : Association
  empty = record { settings = s; stash = empty_from r; state = q }

  abbrev head : List ℕ
  head = headed (replicate n 0) s r q

  lies : Lies empty head
  lies = headed_lies s r q g.request.uid n is most

  pub head_sized : Sized head s.capacity
  head_sized = lies.sized

  pub head_stash : stash_in head s.capacity ≡ empty_at r
  unfolding empty_at
  head_stash = lies.own

  pub written : (c : List ℕ) (t : CookieStash) → Bytes c → Becomes s.capacity head c t → c ≡ packed (record { settings = s; stash = t; state = q })
  written c t y e = of_becomes s.capacity head c t y e ∙ put empty head lies t
