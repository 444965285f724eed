-- Two whole records differ in every field: a list may have 26 entries.
-- Assumes nothing.
use mathlib.Core.Path.{◌≡◌, refl}
use mathlib.Core.Bool.{true, false}
use mathlib.Core.List.{[]}
use native.Mathlib.Omega.{arith}
use lib.IntN.{pos}
use lib.ListN.{length, replicate, get_or-replicate}
use Rattle.words.proofs.Zeros.{of_zeros}
use Rattle.identifiers.specs.Names.{named}
use Rattle.time_types.specs.Poll.{interval}
use Rattle.version.specs.declared.ProtocolVersion.TheVariants.{V4, V5}
use Rattle.reach.specs.Register.{trailing}
use Rattle.version.specs.Upgrade.{version}
use Rattle.cookiestash.specs.declared.CookieStash.{CookieStash}
use Rattle.cookiestash.specs.Stash.{stored, empty_slot, new_of, wrap, in_range}
use Rattle.cookiestash.specs.Queue.{queue, seen, cookies}
use Rattle.cookiestash.specs.Whole as stash
use Rattle.cookiestash.proofs.Kept.{empty_whole, new_whole}
use Rattle.association.specs.declared.Association.{Association}
use Rattle.association.specs.Settings.{settings_valid}
use Rattle.association.specs.Record.{no_pending, versions_valid, idle_valid}
use Rattle.association.specs.Whole.{Whole}
use Rattle.handover_file.proofs.File.{none_valid}
use Rattle.handover_compare.specs.Readings.{version_number, settings_numbers, state_numbers, held_of, aged_of}
use Rattle.handover_compare.specs.Fields.{same_reading, field_of, fields_of, list_of}

-- eight cookies of no bytes
full_stash : CookieStash
full_stash = record { slots = replicate 8 empty_slot; read = 1; held = 8 }

full_whole : stash.Whole 8 full_stash
unfolding full_stash
full_whole =
    record {
      reads = omega arith;
      counts = omega arith;
      most = omega arith;
      room = omega arith;
      each = λ k h. rw (get_or-replicate 8 k empty_slot (record { bytes = []; len = 0 }) h) empty_whole;
      free = λ k l m. absurd (omega arith);
      past = λ k l m. absurd (omega arith);
    }

-- a box with NTS
one : Association
one =
    record {
      settings = record {
        min = interval (pos 4);
        max = interval
            (pos 10);
        startup = 3;
        window = 1;
        upgrademark = 0;
        start = version V4;
        nts = true;
        source = named 0;
        capacity = 8;
      };
      stash = full_stash;
      state =
          record {
            effort = record { reach = record { 0 = 0 }; tries = 0; unanswered = 8 };
            version = version V4;
            polls = record { last = interval (pos 4); remote = interval (pos 4) };
            source = record { stratum = 16; refid = named 0; denial = false };
            request = no_pending false;
          };
    }

-- and one without
other : Association
other =
    record {
      settings = record {
        min = interval (pos 5);
        max = interval
            (pos 11);
        startup = 4;
        window = 2;
        upgrademark = 1;
        start = version V5;
        nts = false;
        source = named 1;
        capacity = 7;
      };
      stash = new_of;
      state =
          record {
            effort = record { reach = record { 0 = 1 }; tries = 1; unanswered = 0 };
            version = version V5;
            polls = record { last = interval (pos 5); remote = interval (pos 5) };
            source = record { stratum = 1; refid = named 1; denial = true };
            request = no_pending false;
          };
    }

one_whole : Whole one
unfolding one full_stash settings_valid versions_valid idle_valid trailing
one_whole = record { settings = refl; stash = full_whole; counted = refl; versions = refl; request = none_valid; idle = refl }

other_whole : Whole other
unfolding other new_of settings_valid versions_valid idle_valid no_pending trailing
other_whole =
    record { settings = refl; stash = new_whole 7 (omega arith) (omega arith); counted = refl; versions = refl; request = none_valid; idle = of_zeros 32 }

all_differ : length (list_of one other) ≡ 26
unfolding list_of fields_of field_of same_reading settings_numbers state_numbers version_number aged_of held_of in_range cookies queue seen stored wrap
    one other
    full_stash new_of empty_slot
all_differ = refl

-- promise: no10.6 (two whole records differ in every field)
pub longest_there : (a : Association) × (b : Association) × Whole a × Whole b × (length (list_of a b) ≡ 26)
longest_there = (one, other, one_whole, other_whole, all_differ)
