-- The settings' record of the hand-over file (RULES, No. 6 and No. 12): 27 bytes, each field at its offset; numbers are big-endian, signed ones two's
-- complement.
-- A file from before No. 12 has 26, without the capacity, and reads as capacity 8.
-- Assumes nothing.
use Rattle.std.specs.Prelude.{ℕ, ◌^◌, Bool, ◌&&◌, List, [], ◌∷◌, ◌++◌, get_or}
use Rattle.words.specs.Bytes.{be, part, to_be}
use Rattle.words.specs.Signed.{signed, unsigned}
use Rattle.identifiers.specs.Names.{named}
use Rattle.time_types.specs.Poll.{interval}
use Rattle.version.specs.Upgrade.{version}
use Rattle.association.specs.declared.Settings.{Settings}
use Rattle.handover_groups.specs.Codes.{yes_code, yes_of, yes_known, kind_code, tries_code, kind_of, kind_known}

-- min 1, max 1, startup 1, window 8, upgrade mark 8, start version 2 (kind, tries), nts 1, source identifier 4, capacity 1
-- promise no6.1: A hand-over file has six records in one fixed order, each a mark, a length and a body. The stash's body has the reading place, then the
--     cookies, oldest first.
--     edit: handover_groups/the_tries_byte_is_ignored, handover_groups/a_fifth_kind_is_known, handover_save/the_reading_place_in_the_file_is_halved,
--     handover_groups/upgraded_is_written_as_upgrading, handover_groups/the_tries_are_not_written, handover_groups/tries_beside_v4_are_known,
--     handover_save/the_newest_cookie_is_not_written
-- promise no12.5: The settings of the hand-over file have one byte more, and an old file reads as 8.
unfoldable pub settings_bytes : Settings → List ℕ
settings_bytes s =
    unsigned (2 ^ 7) s.min.0
    ∷ unsigned (2 ^ 7) s.max.0
    ∷ s.startup
    ∷ (to_be 8 s.window
    ++ (to_be 8 s.upgrademark
    ++ (kind_code s.start.kind
    ∷ tries_code s.start.kind
    ∷ yes_code s.nts
    ∷ (to_be 4 s.source.0
    ++ (s.capacity ∷ [])))))

-- promise: no12.5
unfoldable pub settings_of : List ℕ → Settings
settings_of b =
    record {
      min = interval (signed (2 ^ 7) (get_or b 0 0));
      max = interval (signed (2 ^ 7) (get_or b 1 0));
      startup = get_or b 2 0;
      window = be (part b 3 8);
      upgrademark = be (part b 11 8);
      start = version (kind_of (get_or b 19 0) (get_or b 20 0));
      nts = yes_of (get_or b 21 0);
      source = named (be (part b 22 4));
      capacity = get_or b 26 8;
    }

unfoldable pub settings_known : List ℕ → Bool
settings_known b = kind_known (get_or b 19 0) (get_or b 20 0) && yes_known (get_or b 21 0)
