-- The reader's steps, as the code makes them (RULES, No. 6): record by record, and in the stash's body at an offset.
-- Assumes nothing.
use Rattle.std.specs.Prelude.{ℕ, ◌+◌, ◌-◌, Bool, cond, List, [], ltb, eqb, length, drop, Result, Ok, Err}
use Rattle.words.specs.Bytes.{be, part}
use Rattle.cookiestash.specs.Stash.{stored}
use Rattle.cookiestash.specs.Queue.{Cookie}
use Rattle.handover_file.specs.Sections.{Shape, Cut, bodies, misplaced, missized}
use Rattle.handover_file.specs.Cookies.{Run, whole, broken, ahead, run_of, stash_fits}
use Rattle.handover_file.specs.File.{settings_fits}
use Rattle.handover_file.specs.declared.cut.Section.{Section}
use Rattle.handover_file.specs.declared.cut.Section.TheVariants.{Settings, Stash, Effort, Version, Polls, Source}
use Rattle.handover_file.specs.declared.cut.Held.{Held}
use Rattle.handover_file.specs.declared.cut.Held.TheVariants.{One, End, Broken}
use Rattle.handover_file.specs.declared.cut.Fault.{Fault}
use Rattle.handover_file.specs.declared.cut.Fault.TheVariants.{Misplaced, Missized}

-- ---- the six records

-- S E, S T, R E, V E, P O, S O
abbrev pub mark_of : Section → ℕ
mark_of Settings = 0x5345
mark_of Stash = 0x5354
mark_of Effort = 0x5245
mark_of Version = 0x5645
mark_of Polls = 0x504F
mark_of Source = 0x534F

abbrev pub fits_of : Section → List ℕ → Bool
fits_of Settings b = settings_fits b
fits_of Stash b = stash_fits b
fits_of Effort b = eqb (length b) 2
fits_of Version b = eqb (length b) 2
fits_of Polls b = eqb (length b) 2
fits_of Source b = eqb (length b) 6

abbrev pub shape_of : Section → Shape
shape_of s = record { mark = mark_of s; fits = λ b. fits_of s b }

-- how the reading of the records ended
abbrev pub fault_of : Fault → Cut
fault_of Misplaced = misplaced
fault_of Missized = missized

abbrev pub stop_of : Cut → Result (Unit {0}) Fault
stop_of (bodies bs) = Ok tt
stop_of misplaced = Err Misplaced
stop_of missized = Err Missized

-- ---- a cookie at an offset of the stash's body

unfoldable pub word_at : List ℕ → ℕ → ℕ
word_at b at = be (part b at 2)

unfoldable pub held_at : List ℕ → ℕ → Held
held_at b at =
    cond (ltb (length b) at) Broken
    (cond (eqb (length b - at) 0) End
    (cond (ltb (length b - at) 2) Broken
    (cond (ltb (length b - at - 2) (stored (word_at b at))) Broken
    (One (word_at b at) (at + 2) (at + 2 + stored (word_at b at))))))

abbrev pub cookie : ℕ → List ℕ → Cookie
cookie len bytes = record { len = len; bytes = bytes }

-- the cookies from there on
abbrev pub on_held : List ℕ → Held → Run
on_held b (One len start end) = ahead (cookie len (part b start (end - start))) (run_of (drop end b))
on_held b End = whole []
on_held b Broken = broken
