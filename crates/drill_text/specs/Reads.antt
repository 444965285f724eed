-- What reading gives: a value or a fault, where memory may run out on the way (docs/DRILL.md, "The language").
-- Assumes nothing.
use Rattle.std.specs.Prelude.{ℕ, ◌≡◌, ◌⊎◌, ◌<◌, ◌≤◌, ◌/◌, false, ◌&&◌, cond, eqb, leb, ltb, List, [], length, Option, Some, None, ok_or, Result, Ok, Err, Any}
use Rattle.std.specs.Prelude.{option_copied, MatchBool, Vec, vec_items}
use Rattle.std.specs.List.{slice_split, AllZip}
use Rattle.std.specs.Borrow.{Bor}
use Rattle.drill_text.specs.declared.fault.Fault.{Fault}
use Rattle.drill_text.specs.declared.fault.Fault.TheVariants.{Missing, Bad, OutOfMemory}
use Rattle.drill_text.specs.declared.keys.Pairs.{Pairs}
use Rattle.drill_text.specs.Lines.{value_in, fault_in}
use Rattle.drill_text.specs.Pairs.{value_at}
use Rattle.drill_text.specs.Values.{bytes_of, is_none_sign}

-- a read that allocates ends as it should, or memory ran out
-- promise: drill.3
abbrev pub EndsAs : {T U : Type 0} → (T → U) → Result U Fault → Result T Fault → Type 0
EndsAs shows should (Ok x) = should ≡ Ok (shows x)
EndsAs shows should (Err fault) = (fault ≡ OutOfMemory) ⊎ (should ≡ Err fault)

-- the pairs of a line have the values of its words, or there is a first fault
-- promise: drill.6
abbrev pub IsRead : List (Bor (List ℕ)) → List (List ℕ) → Result Pairs Fault → Type 0
IsRead keys words (Ok pairs) = (fault_in keys [] words ≡ None) × ((key : List ℕ) → option_copied (value_at pairs key) ≡ value_in words key)
IsRead keys words (Err fault) = (fault ≡ OutOfMemory) ⊎ (fault_in keys [] words ≡ Some fault)

-- what a parser that gives such values makes of a value, which may be missing or bad
-- promise drill.7: A value is that of its key in the line, or the default. Where there is neither it is missing; what its parser does not take is bad.
--     edit: drill_text/a_value_is_never_there, drill_text/the_default_stands_for_every_value, drill_text/a_missing_value_is_bad,
--     drill_text/a_bad_value_is_missing
abbrev pub IsParsed : {T : Type 0} → (List ℕ → Option T → Type 0) → Bor (List ℕ) → Option (Bor (List ℕ)) → Result T Fault → Type 0
IsParsed gives key None r = r ≡ Err (Missing key)
IsParsed {T} gives key (Some text) r = (o : Option T) × gives text.now o × (r ≡ ok_or o (Bad key))

-- bytes: two digits each, one byte at least and `most` at most, or '-' for none
-- promise drill.3: Bytes are two digits each, one byte at least and as many as are asked for at most; `-` is no bytes.
--     edit: drill_text/twice_as_many_bytes_are_taken
abbrev pub bytes_up_to : ℕ → List ℕ → Option (List ℕ)
bytes_up_to most text = cond (ltb 0 (length text) && leb (length text / 2) most) (bytes_of text) None

-- promise: drill.3
abbrev pub bytes_read : Bor (List ℕ) → ℕ → Option (Bor (List ℕ)) → Result (List ℕ) Fault
bytes_read key most None = Err (Missing key)
bytes_read key most (Some text) = cond (is_none_sign text.now) (Ok []) (ok_or (bytes_up_to most text.now) (Bad key))

-- the parts of a list, with commas between them
-- promise: drill.4
abbrev pub parts_of : List ℕ → List (List ℕ)
parts_of text = slice_split (λ b. eqb b 44) text

-- a list: at most `most` parts, of each what the parser gives, or '-' for none
-- promise drill.4: A list is parts with commas between them, as many as are asked for at most, each read by a parser; `-` is none.
--     edit: drill_text/a_list_may_have_one_item_more, drill_text/a_whole_text_is_left_over
abbrev pub IsList : {T Z : Type 0} → (List ℕ → Option T → Type 0) → Bor (List ℕ) → ℕ → Option (Bor (List ℕ)) → Result (Vec T Z) Fault → Type 0
IsList gives key most None r = r ≡ Err (Missing key)
IsList gives key most (Some text) (Ok items) = MatchBool (is_none_sign text.now) (vec_items items ≡ [])
    ((length (parts_of text.now) ≤ most) × AllZip (λ part item. gives part (Some item)) (parts_of text.now) (vec_items items))
IsList gives key most (Some text) (Err fault) = (fault ≡ OutOfMemory)
    ⊎ ((fault ≡ Bad key) × (is_none_sign text.now ≡ false) × ((most < length (parts_of text.now)) ⊎ Any (λ part. gives part None) (parts_of text.now)))
