-- What salvaging reports and writes (RULES, No. 9), all of it from the walk.
-- Assumes nothing.
use Rattle.std.specs.Prelude.{ℕ, suc, ◌+◌, ◌-◌, List, [], ◌∷◌, ◌++◌, Bool, true, false, cond, length, take, drop, replicate, ltb, Result, Ok, Err}
use Rattle.words.specs.Bytes.{part}
use Rattle.salvage.specs.declared.Step.{Step}
use Rattle.salvage.specs.declared.Step.TheVariants.{Kept, Skipped}
use Rattle.salvage.specs.Walk.{walk_of}
use Rattle.salvage.specs.declared.Salvaged.{Salvaged}
use Rattle.salvage.specs.declared.SalvageRefusal.{SalvageRefusal}
use Rattle.salvage.specs.declared.SalvageRefusal.TheVariants.{ShortBuffer}

-- kept records
-- promise no9.2: The report of salvage has the kept records, the skipped bytes and the places of the first 32 gaps; further gaps are only counted. Each is a
--     function of the walk.
--     edit: salvage/the_33rd_place_is_written, salvage/every_byte_is_a_gap
abbrev pub kept_in : List Step → ℕ
kept_in [] = 0
kept_in (Kept start end ∷ w) = suc (kept_in w)
kept_in (Skipped at ∷ w) = kept_in w

-- lengths kept: of each cookie, and of its head of four bytes
-- promise no9.5: The lengths kept, with their four-byte heads, and the bytes skipped add up to the input.
abbrev pub lengths_in : List Step → ℕ
lengths_in [] = 0
lengths_in (Kept start end ∷ w) = 4 + (end - (start + 4)) + lengths_in w
lengths_in (Skipped at ∷ w) = lengths_in w

-- skipped bytes
-- promise: no9.2, no9.5
abbrev pub skipped_in : List Step → ℕ
skipped_in [] = 0
skipped_in (Kept start end ∷ w) = skipped_in w
skipped_in (Skipped at ∷ w) = suc (skipped_in w)

-- the place of each gap, which is where a run of skipped bytes starts; true: the byte before was skipped
abbrev pub gaps_from : Bool → List Step → List ℕ
gaps_from inGap [] = []
gaps_from inGap (Kept start end ∷ w) = gaps_from false w
gaps_from inGap (Skipped at ∷ w) = cond inGap (gaps_from true w) (at ∷ gaps_from true w)

-- promise: no9.2
abbrev pub gaps_in : List Step → List ℕ
gaps_in w = gaps_from false w

-- the places that are reported: those of the first 32 gaps, and zeros
-- promise: no9.2
unfoldable pub places_of : List ℕ → List ℕ
places_of gaps = take 32 gaps ++ drop (length gaps) (replicate 32 0)

-- the records kept, in order, byte for byte
-- promise no9.3: Salvage writes a clean list.
abbrev pub records_in : List ℕ → List Step → List ℕ
records_in l [] = []
records_in l (Kept start end ∷ w) = part l start (end - start) ++ records_in l w
records_in l (Skipped at ∷ w) = records_in l w

-- their cookies, each after its head
-- promise: no9.3
abbrev pub cookies_kept : List ℕ → List Step → List (List ℕ)
cookies_kept l [] = []
cookies_kept l (Kept start end ∷ w) = part l (start + 4) (end - (start + 4)) ∷ cookies_kept l w
cookies_kept l (Skipped at ∷ w) = cookies_kept l w

-- the clean list of a damaged one
-- promise: no9.3
unfoldable pub clean_of : List ℕ → List ℕ
clean_of l = records_in l (walk_of l)

-- what a walk is reported as
-- promise: no9.2
abbrev pub report_of : List ℕ → List Step → Salvaged
report_of l w =
    record { kept = kept_in w; skipped = skipped_in w; gaps = length (gaps_in w); places = places_of (gaps_in w); len = length (records_in l w) }

-- 70: the buffer is shorter than the input
-- promise no9.7: Salvage answers 70 if the output buffer is shorter than the input, and then writes nothing. Otherwise the bytes past the clean list stay.
--     edit: salvage/a_short_buffer_is_answered_as_71
unfoldable pub salvage_of : List ℕ → ℕ → Result Salvaged SalvageRefusal
salvage_of l room = cond (ltb room (length l)) (Err ShortBuffer) (Ok (report_of l (walk_of l)))

-- promise: no9.7
abbrev pub number_of : Result Salvaged SalvageRefusal → ℕ
number_of (Ok _) = 0
number_of (Err ShortBuffer) = 70

-- then nothing is written; otherwise the clean list at the start, and the bytes past it unchanged
-- promise: no9.7
unfoldable pub buffer_of : List ℕ → List ℕ → List ℕ
buffer_of l out = cond (ltb (length out) (length l)) out (clean_of l ++ drop (length (clean_of l)) out)
