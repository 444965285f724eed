-- What a hand-over file is read as in place (RULES, No. 6, No. 12 and No. 14): the answer of loading it and, for a file that loads, the settings, the state,
-- and the stash's body, which stands between two offsets.
-- Assumes nothing.
use Rattle.std.specs.Prelude.{Bool, true, cond, ◌&&◌, List, ℕ, ◌+◌, ◌-◌, length, get_or, None, Result, Ok, Err}
use Rattle.words.specs.Bytes.{part}
use Rattle.cookiestash.specs.declared.Seen.{Seen}
use Rattle.association.specs.declared.Settings.{Settings}
use Rattle.association.specs.declared.State.{State}
use Rattle.association.specs.Record.{whole_of}
use Rattle.handover_file.specs.declared.LoadRefusal.{LoadRefusal}
use Rattle.handover_file.specs.declared.LoadRefusal.TheVariants.{WrongMark, WrongLength, NoAssociation}
use Rattle.handover_file.specs.Sections.{Cut, bodies, misplaced, missized, body_length, cut_as}
use Rattle.handover_file.specs.Cookies.{held_in}
use Rattle.handover_file.specs.File.{shapes, known, record_in, retired, settled}
use Rattle.handover_load.specs.declared.FileRead.{FileRead}

-- what the test of a whole record reads of the stash in a body
abbrev pub counted_of : List ℕ → Seen
counted_of st = record { whole = true; oldest = None; gap = 0; read = get_or st 0 0; held = length (held_in st) }

-- what is read of a file that loads
pub record Contents : Type 0 where
  pub retired : Bool
  pub settings : Settings
  pub state : State
  pub stash : List ℕ

-- as the code holds it: the stash's body is bytes of the file
abbrev pub contents_of : FileRead → Contents
contents_of r = record { retired = r.retired; settings = r.settings; state = r.state; stash = r.stash.now }

abbrev pub contents_in : {E : Type 0} → Result FileRead E → Result Contents E
contents_in (Ok r) = Ok (contents_of r)
contents_in (Err e) = Err e

-- a file whose six records are there, if their bodies are an association: its settings, its state, and the stash's body, from start to before end
unfoldable pub found_as : List (List ℕ) → List ℕ → ℕ → ℕ → Result Contents LoadRefusal
found_as bs f start end =
    cond (known bs && whole_of (settled (record_in bs)))
    (Ok (record {
      retired = retired (record_in bs).settings (record_in bs).state;
      settings = (settled (record_in bs)).settings;
      state = (settled (record_in bs)).state;
      stash = part f start (end - start);
    }))
    (Err NoAssociation)

-- the settings' record says how long it is, and everything after the stash's body has a fixed length
abbrev pub on_cut : List ℕ → Cut → Result Contents LoadRefusal
on_cut f (bodies bs) = found_as bs f (8 + body_length f) (length f - 28)
on_cut f misplaced = Err WrongMark
on_cut f missized = Err WrongLength

-- promise no6.8: A file that is read in place has the answer of loading it. Its association is the settings, the state and the stash's body that are found.
--     edit: handover_load/the_stash_is_found_at_its_length
unfoldable pub read_of : List ℕ → Result Contents LoadRefusal
read_of f = on_cut f (cut_as shapes f)
