-- The walk over a damaged cookie list (RULES, No. 9): each position is tried in turn.
-- Assumes nothing.
use Rattle.std.specs.Prelude.{ℕ, zero, suc, ◌+◌, ◌-◌, List, [], ◌∷◌, Bool, ◌&&◌, ◌||◌, cond, length, ltb, leb, eqb, Option, Some, None}
use Rattle.cookielist.specs.List.{record_mark_at, entry_at}
use Rattle.cookielist.specs.declared.Entry.{Entry}
use Rattle.cookielist.specs.declared.Entry.TheVariants.{Cookie, End, Broken}
use Rattle.salvage.specs.declared.Step.{Step}
use Rattle.salvage.specs.declared.Step.TheVariants.{Kept, Skipped}

-- a mark: its two bytes are there, and are C0 0E
-- promise no9.1: Salvage tries each position in turn. If a mark, a length and that many bytes fit, followed by the end or another mark, the record is kept
--     and reading continues after it. Otherwise one byte is skipped.
--     edit: salvage/two_bytes_are_skipped
-- promise: no9.1 (both bytes of a mark)
unfoldable pub mark_at : List ℕ → ℕ → Bool
mark_at l at = leb (at + 2) (length l) && eqb (record_mark_at l at) 0xC00E

-- followed by the end or another mark
-- promise: no9.1
unfoldable pub followed : List ℕ → ℕ → Bool
followed l end = eqb end (length l) || mark_at l end

-- the record is kept if a mark, a length and that many bytes fit (the cookie list's own entry) and it is followed as above
abbrev pub on_entry : List ℕ → Entry → Option ℕ
on_entry l (Cookie start end) = cond (followed l end) (Some end) None
on_entry l End = None
on_entry l Broken = None

-- promise: no9.1 (over the list's own `entry_at`)
unfoldable pub record_at : List ℕ → ℕ → Option ℕ
record_at l at = on_entry l (entry_at l at)

-- a step: a record kept, from its first byte and before its end; or a byte skipped. Reading continues after the record, or after the byte
abbrev pub on_found : (ℕ → List Step) → ℕ → Option ℕ → List Step
on_found rest at (Some end) = Kept at end ∷ rest end
on_found rest at None = Skipped at ∷ rest (at + 1)

-- with at most n steps
abbrev pub walk_n : ℕ → List ℕ → ℕ → List Step
walk_n zero l at = []
walk_n (suc n) l at = cond (ltb at (length l)) (on_found (walk_n n l) at (record_at l at)) []

-- the walk from an offset on; there are no more steps than bytes, so that the bound n has no effect (`walk_turn` in proofs/Walks.antt)
-- promise: no9.1
unfoldable pub walk_from : List ℕ → ℕ → List Step
walk_from l at = walk_n (length l - at) l at

-- promise: no9.1 (a list of steps, `Kept START END` or `Skipped PLACE`)
abbrev pub walk_of : List ℕ → List Step
walk_of l = walk_from l 0
