-- Every claim of the tables of specs/Written.antt holds, row by row: each is computed from the definitions.
-- Assumes nothing.
use mathlib.Core.Path.{refl}
use Rattle.words.specs.Bytes.{be, part, zeros}
use Rattle.words.specs.Put.{record_of}
use Rattle.reach.specs.Register.{trailing}
use Rattle.wire_header.specs.Header.{bytes_of}
use Rattle.wire_request.specs.Extension.{filled, field_length, extension_bytes}
use Rattle.wire_request.specs.Request.{header_for, fields_for, with_fields, packet_of}
use Rattle.wire_request.specs.Answer.{request_of}
use Rattle.cookielist.specs.List.{record_mark_at, length_at, entry_at}
use Rattle.cookiestash.specs.Stash.{stored, empty_slot, wrap, full, in_range, put_of, rest_of, get_of, gap_of}
use Rattle.cookiestash.specs.Queue.{queue, seen, cookies}
use Rattle.cookiestash.specs.Whole as stash
use Rattle.association.specs.Settings.{settings_valid}
use Rattle.association.specs.Record.{no_pending, effort_valid, versions_valid, pending_valid, idle_valid, whole_seen, whole_of}
use Rattle.handover_groups.specs.Settings.{settings_bytes, settings_of, settings_known}
use Rattle.handover_groups.specs.State.{effort_bytes, effort_of, version_bytes, version_of, version_known, polls_bytes, polls_of}
use Rattle.handover_groups.specs.State.{source_bytes, source_of, source_known}
use Rattle.handover_file.specs.Sections.{body_length, found}
use Rattle.handover_file.specs.Cookies.{cookie_bytes, stash_bytes, len_of, first_of, run_of, stash_fits, held_in, stash_known, slot_for, empty_at, stash_of}
use Rattle.handover_file.specs.File.{file_of, known, record_in, retired, settled_settings, settled_state, settled}
use Rattle.handover_file.specs.Answers.{load_in, load_of}
use Rattle.salvage.specs.Walk.{mark_at, followed, record_at, walk_from}
use Rattle.salvage.specs.Salvage.{places_of, clean_of, salvage_of}
use Rattle.handover_compare.specs.Readings.{version_number, settings_numbers, state_numbers, held_of, aged_of}
use Rattle.handover_compare.specs.Fields.{same_reading, field_of, fields_of, list_of, entry_bytes}
use Rattle.laws_cases.specs.All.{All, end, ◌&◌}
use Rattle.laws_cases.specs.Written.{Right, requests, salvaged, handed, compared}

pub requests_hold : All Right requests
unfolding bytes_of filled field_length extension_bytes header_for fields_for with_fields packet_of request_of
requests_hold =
    refl
    & refl
    & refl
    & refl
    & refl
    & refl
    & refl
    & refl
    & refl
    & refl
    & refl
    & refl
    & refl
    & end

pub salvaged_hold : All Right salvaged
unfolding be part record_mark_at length_at entry_at mark_at followed record_at walk_from places_of clean_of salvage_of
salvaged_hold =
    refl
    & refl
    & refl
    & refl
    & refl
    & refl
    & refl
    & end

pub compared_hold : All Right compared
unfolding version_number settings_numbers state_numbers held_of aged_of same_reading field_of fields_of list_of entry_bytes
    stored in_range wrap queue seen cookies
compared_hold =
    refl
    & refl
    & refl
    & end

pub handed_hold : All Right handed
unfolding be part zeros trailing stored empty_slot wrap full in_range put_of rest_of get_of gap_of queue seen cookies
    stash.padded stash.free_slots stash.whole_of settings_valid no_pending effort_valid versions_valid pending_valid idle_valid
    whole_seen whole_of settings_bytes settings_of settings_known effort_bytes effort_of version_bytes version_of version_known
    polls_bytes polls_of source_bytes source_of source_known record_of body_length found cookie_bytes stash_bytes len_of first_of
    run_of stash_fits held_in stash_known slot_for empty_at stash_of file_of known record_in retired settled_settings settled_state
    settled load_in load_of
handed_hold =
    refl
    & refl
    & refl
    & refl
    & end
