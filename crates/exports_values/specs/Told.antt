-- The answers of the tools (RULES, No. 9, No. 10 and No. 13) as numbers.
-- Assumes nothing.
use Rattle.std.specs.Prelude.{ℕ, min, replicate, Result, Ok, Err}
use Rattle.salvage.specs.declared.Salvaged.{Salvaged}
use Rattle.salvage.specs.declared.SalvageRefusal.{SalvageRefusal}
use Rattle.salvage.specs.declared.SalvageRefusal.TheVariants as S
use Rattle.calendar.specs.declared.CheckRefusal.{CheckRefusal}
use Rattle.calendar.specs.declared.CheckRefusal.TheVariants as C
use Rattle.calendar.specs.declared.PlanRefusal.{PlanRefusal}
use Rattle.calendar.specs.declared.PlanRefusal.TheVariants as P
use Rattle.handover_compare.specs.declared.Side.{Side}
use Rattle.handover_compare.specs.declared.Side.TheVariants.{Left, Right}
use Rattle.handover_compare.specs.declared.CompareRefusal.{CompareRefusal}
use Rattle.handover_compare.specs.declared.CompareRefusal.TheVariants.{WrongMark, WrongLength, NoAssociation, ShortBuffer}
use Rattle.exports_values.specs.declared.tools.CSalvaged.{CSalvaged}
use Rattle.exports_values.specs.declared.tools.CCalendarAnswer.{CCalendarAnswer}
use Rattle.exports_values.specs.declared.tools.CCompared.{CCompared}

-- how many gaps have their places reported: up to 32
abbrev pub told_of : ℕ → ℕ
told_of gaps = min gaps 32

-- the report of a salvage, field by field; a refusal's is its number, and all else zero
-- promise exports.11: The tools, which have no record, are the calls that they wrap: the number, all that is reported or named, every lent byte.
--     edit: exports_values/the_kept_are_told_as_gaps, exports_values/too_many_entries_name_entry_0, exports_values/a_plan_without_room_names_entry_0,
--     exports_values/each_refused_file_has_a_wrong_length
abbrev pub salvaged_as : Result Salvaged SalvageRefusal → CSalvaged
salvaged_as (Ok s) =
    record { number = 0; told = told_of s.gaps; kept = s.kept; skipped = s.skipped; gaps = s.gaps; length = s.len; places = s.places }
salvaged_as (Err S.ShortBuffer) =
    record { number = 70; told = 0; kept = 0; skipped = 0; gaps = 0; length = 0; places = replicate 32 0 }

-- a number that names an entry or a minute; or names none
abbrev pub named : ℕ → ℕ → CCalendarAnswer
named number place = record { number = number; named = 1; place = place }

abbrev pub unnamed : ℕ → CCalendarAnswer
unnamed number = record { number = number; named = 0; place = 0 }

-- promise: exports.11
abbrev pub checked_as : Result (Unit {0}) CheckRefusal → CCalendarAnswer
checked_as (Ok _) = unnamed 0
checked_as (Err C.TooMany) = unnamed 80
checked_as (Err (C.BadRepeat k)) = named 81 k
checked_as (Err (C.LateStart k)) = named 82 k
checked_as (Err (C.OverCap m)) = named 83 m

-- 31: there is a plan, and the lent buffer has no room for it
-- promise: exports.11
abbrev pub planned_as : Result (Unit {0}) PlanRefusal → CCalendarAnswer
planned_as (Ok _) = unnamed 0
planned_as (Err P.TooMany) = unnamed 80
planned_as (Err (P.BadRepeat k)) = named 81 k
planned_as (Err (P.NoFit k)) = named 84 k
planned_as (Err P.NoRoom) = unnamed 31

-- the comparison: 1 the left file, 2 the right one
abbrev pub side_code : Side → ℕ
side_code Left = 1
side_code Right = 2

abbrev pub refused : ℕ → Side → CCompared
refused number side = record { number = number; side = side_code side; entries = 0 }

-- promise: exports.11
abbrev pub compared_as : Result ℕ CompareRefusal → CCompared
compared_as (Ok n) = record { number = 0; side = 0; entries = n }
compared_as (Err (WrongMark s)) = refused 61 s
compared_as (Err (WrongLength s)) = refused 62 s
compared_as (Err (NoAssociation s)) = refused 63 s
compared_as (Err ShortBuffer) = record { number = 71; side = 0; entries = 0 }
