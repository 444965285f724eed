-- An association that is made in lent bytes (RULES, "Settings and a whole record", No. 5, No. 11, No. 12 and No. 14), and the blank record.
-- If the number of bytes does not fit the capacity: 31, after every other test, and they do not change. With every other rejection all of them become zero.
-- Assumes nothing.
use Rattle.std.specs.Prelude.{cond, List, ℕ, eqb, length, replicate, Result, Ok, Err}
use Rattle.answers.specs.Answers.{number_in}
use Rattle.cookiestash.specs.declared.Dropped.{Dropped}
use Rattle.cookiestash.specs.Falling.{none_dropped}
use Rattle.association.specs.declared.Settings.{Settings}
use Rattle.association.specs.declared.Association.{Association}
use Rattle.association.specs.New as New
use Rattle.association_metered.specs.Profile as Profile
use Rattle.record_stash.specs.Rows.{sized_in}
use Rattle.record_bytes.specs.Record.{packed}
use Rattle.association.specs.declared.NewRefusal.{NewRefusal}
use Rattle.association_metered.specs.declared.ProfileRefusal.{ProfileRefusal}
use Rattle.record_new.specs.declared.InBytes.{InBytes}
use Rattle.record_new.specs.declared.InBytes.TheVariants.{Said, WrongSize}

-- ---- the numbers: those of the call by value, and 31

abbrev pub in_bytes_number : {E : Type 0} → (E → ℕ) → InBytes E → ℕ
in_bytes_number of (Said refusal) = of refusal
in_bytes_number of WrongSize = 31

abbrev pub new_number : Result (Unit {0}) (InBytes NewRefusal) → ℕ
new_number = number_in (in_bytes_number (λ refusal. New.number_of (Err refusal)))

abbrev pub metered_number : Result (Unit {0}) (InBytes ProfileRefusal) → ℕ
metered_number = number_in (in_bytes_number (λ refusal. Profile.number_of (Err refusal)))

-- what the call by value says, said of bytes
abbrev pub in_bytes : {E : Type 0} → Result (Unit {0}) E → Result (Unit {0}) (InBytes E)
in_bytes (Ok made) = Ok made
in_bytes (Err refusal) = Err (Said refusal)

-- ---- the calls

-- the answer, what fell out while the first list was stored, and the bytes after the call
pub record Call (A : Type 0) : Type 0 where
  pub answer : A
  pub dropped : Dropped
  pub bytes : List ℕ

abbrev pub gave : {A : Type 0} → A → Dropped → List ℕ → Call A
gave r d b = record { answer = r; dropped = d; bytes = b }

-- number 0: the association goes into the bytes, if their number fits its capacity; any other: all are zero
-- promise exports.4: `new`, `metered` and `load` answer 31 if the number of bytes is not that of the capacity, after every other rejection; the bytes stay.
--     Every other rejection leaves the bytes zero.
--     edit: record_new/bytes_of_a_wrong_size_are_cleared, record_new/a_wrong_size_is_answered_as_settings,
--     record_files/a_wrong_size_is_no_association
abbrev pub made_in : {A : Type 0} → List ℕ → ℕ → ℕ → A → A → Dropped → Association → Call A
made_in b cap number said wrong d a =
    cond (eqb number 0)
    (cond (sized_in b cap) (gave said d (packed a)) (gave wrong none_dropped b))
    (gave said none_dropped (replicate (length b) 0))

-- promise: exports.3
unfoldable pub new_call : Settings → List ℕ → List ℕ → Call (Result (Unit {0}) (InBytes NewRefusal))
new_call s list b =
    let o = New.new_of s list in made_in b s.capacity (New.number_of o.answer) (in_bytes o.answer) (Err WrongSize) o.dropped o.association

-- promise: exports.3
unfoldable pub metered_call : Settings → List ℕ → List ℕ → Call (Result (Unit {0}) (InBytes ProfileRefusal))
metered_call s list b =
    let o = Profile.metered_of s list in made_in b s.capacity (Profile.number_of o.answer) (in_bytes o.answer) (Err WrongSize) o.dropped o.association

-- the blank record
abbrev pub blanked : List ℕ → List ℕ
blanked b = replicate (length b) 0
