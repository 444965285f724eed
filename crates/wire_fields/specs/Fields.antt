-- What the iterator over a walk gives: the walk's fields, each with its start, its type and its body.
-- Assumes nothing.
use Rattle.std.specs.Prelude.{ℕ, List, map, Option, ◌≡◌}
use Rattle.std.specs.Iterator.{YieldsFirstBy}
use Rattle.words.specs.Bytes.{part}
use Rattle.wire_fields.specs.declared.Field.{Field}
use Rattle.wire_fields.specs.declared.Fields.{Fields}
use Rattle.wire_fields.specs.Walk.{Found, Walk, walk_of, walked_of, fields_of}

-- a field as it is read: where it starts, its type and its body
pub record Told : Type 0 where
  pub at : ℕ
  pub kind : ℕ
  pub body : List ℕ

abbrev pub told : List ℕ → Found → Told
told p f = record { at = f.at; kind = f.kind; body = part p f.start f.len }

abbrev pub shown : Field → Told
shown f = record { at = f.at; kind = f.kind; body = f.body.now }

-- the fields of a walk over bytes; of a broken walk those before the place where it is broken
abbrev pub fields_in : List ℕ → Walk → List Told
fields_in p w = map (told p) (fields_of w)

-- the walk that is still to come, and its fields
unfoldable pub walk_left : Fields → Walk
walk_left it = walk_of it.bytes.now it.at it.form.least it.form.tail

unfoldable pub fields_left : Fields → List Told
fields_left it = fields_in it.bytes.now (walk_left it)

-- a call gives the first field that is left, or none if none is left; where the walk ends stays as it was
abbrev pub GivesField : Fields → Option Field → Fields → Type 0
GivesField old given new = YieldsFirstBy shown fields_left old given new × (walked_of (walk_left new) ≡ walked_of (walk_left old))
