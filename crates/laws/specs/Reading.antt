-- Statements on what the walk of `wire_fields` reads from fields that were written; the theorems of proofs/Reading.antt prove them.
-- Assumes nothing.
use Rattle.std.specs.Prelude.{ℕ, ◌+◌, ◌-◌, ◌%◌, ◌≤◌, ◌<◌, ◌≡◌, List, [], ◌∷◌, length}
use Rattle.wire_fields.specs.Walk.{Found, Walk, field}
use Rattle.wire_request.specs.Extension.{Extension}

-- a field that a packet's walk accepts: type and length fit two bytes each; the length covers head and body, is a multiple of four and at least 16
pub record Legible (e : Extension) : Type 0 where
  pub kind : e.kind < 65536
  pub covers : length e.body + 4 ≤ e.len
  pub least : 16 ≤ e.len
  pub fours : e.len % 4 ≡ 0
  pub short : e.len < 65536

-- the field of a walk for a field that is written at an offset
abbrev pub found_at : ℕ → Extension → Found
found_at at e = record { at = at; kind = e.kind; start = at + 4; len = e.len - 4 }

-- the walk over fields that are written one after another from an offset on, and then another walk
abbrev pub walked_by : ℕ → List Extension → Walk → Walk
walked_by at [] behind = behind
walked_by at (e ∷ es) behind = field (found_at at e) (walked_by (at + e.len) es behind)
