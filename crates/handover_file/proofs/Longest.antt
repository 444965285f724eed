-- One whole record has a file of 5,872 bytes: eight cookies that fill their slots.
-- Assumes nothing.
use mathlib.Core.Path.{◌≡◌, refl, sym}
use mathlib.Core.Bool.{true}
use mathlib.Core.List.{[]}
use native.Mathlib.Omega.{arith}
use lib.IntN.{pos}
use lib.ListN.{length, replicate, get_or-replicate}
use Rattle.identifiers.specs.Names.{named}
use Rattle.time_types.specs.Poll.{interval}
use Rattle.version.specs.declared.ProtocolVersion.TheVariants.{V4}
use Rattle.version.specs.Upgrade.{version}
use Rattle.reach.proofs.Unanswered.{never_unanswered}
use Rattle.cookiestash.specs.declared.Slot.{Slot}
use Rattle.cookiestash.specs.declared.CookieStash.{CookieStash}
use Rattle.cookiestash.specs.Stash.{stored, wrap}
use Rattle.cookiestash.specs.Queue.{queue, seen, cookies}
use Rattle.cookiestash.specs.Whole as stash
use Rattle.association.specs.declared.Association.{Association}
use Rattle.association.specs.declared.Settings.{Settings}
use Rattle.association.specs.Settings.{settings_valid}
use Rattle.association.specs.Record.{fresh_of, versions_valid, idle_valid, with_stash}
use Rattle.association.specs.Whole.{Whole}
use Rattle.handover_file.specs.File.{file_of}
use Rattle.handover_file.proofs.Cookies.{AllFill}
use Rattle.handover_file.proofs.File.{none_valid, file_as_long}

-- a cookie of 724 zeros, and eight of them
full_slot : Slot
full_slot = record { bytes = replicate 724 0; len = 724 }

full_stash : CookieStash
full_stash = record { slots = replicate 8 full_slot; read = 0; held = 8 }

nts_settings : Settings
nts_settings =
    record {
      min = interval (pos 4);
      max = interval (pos 10);
      startup = 3;
      window = 1;
      upgrademark = 0;
      start = version V4;
      nts = true;
      source = named 0;
      capacity = 8;
    }

longest : Association
longest = with_stash (fresh_of nts_settings) full_stash

slot_whole : stash.WholeSlot full_slot
unfolding full_slot stored
slot_whole = record { short = omega arith; sized = refl; padded = refl }

stash_whole : stash.Whole 8 full_stash
unfolding full_stash
stash_whole =
    record {
      reads = omega arith;
      counts = omega arith;
      most = omega arith;
      room = omega arith;
      each = λ k h. rw (get_or-replicate 8 k full_slot (record { bytes = []; len = 0 }) h) slot_whole;
      free = λ k l m. absurd (omega arith);
      past = λ k l m. absurd (omega arith);
    }

longest_whole : Whole longest
unfolding longest full_stash fresh_of nts_settings settings_valid versions_valid idle_valid
longest_whole = record { settings = refl; stash = stash_whole; counted = sym never_unanswered; versions = refl; request = none_valid; idle = refl }

all_filled : AllFill (cookies longest.settings.capacity longest.stash)
unfolding longest fresh_of nts_settings full_stash full_slot cookies queue seen stored wrap
all_filled = (refl, (refl, (refl, (refl, (refl, (refl, (refl, (refl, tt))))))))

eight_held : longest.stash.held ≡ longest.settings.capacity
unfolding longest fresh_of nts_settings full_stash
eight_held = refl

its_length : length (file_of longest) ≡ 5872
unfolding longest fresh_of nts_settings
its_length = file_as_long longest longest_whole eight_held all_filled

-- promise: no6.9 (one is as long)
pub longest_there : (a : Association) × Whole a × (length (file_of a) ≡ 5872)
longest_there = (longest, longest_whole, its_length)
