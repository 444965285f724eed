-- Cases of what is written and read, byte by byte: the three requests of docs/REQUESTS.md and what the writer rejects, the file of docs/HANDOVER.md, damaged
-- cookie lists (No. 9), and a comparison in which every field differs (No. 10). The bytes are copied from the papers; no definition makes them.
-- Assumes nothing.
use Rattle.std.specs.Prelude.{◌≡◌, true, false, List, [], ◌∷◌, ◌++◌, ℕ, ◌-◌, ◌^◌, ℤ, pos, negsuc, length, replicate, Ok}
use Rattle.identifiers.specs.Names.{named}
use Rattle.time_types.specs.Poll.{interval}
use Rattle.cookiestash.specs.declared.Slot.{Slot}
use Rattle.version.specs.declared.ProtocolVersion.TheVariants.{V4, Upgraded, V5}
use Rattle.version.specs.declared.SendKind.{SendKind}
use Rattle.version.specs.declared.SendKind.TheVariants as send
use Rattle.version.specs.Upgrade.{version}
use Rattle.association.specs.declared.Association.{Association}
use Rattle.association.specs.declared.Pending.{Pending}
use Rattle.wire_request.specs.Request.{packet_of}
use Rattle.wire_request.specs.Answer as request
use Rattle.handover_file.specs.File.{file_of}
use Rattle.handover_file.specs.Answers.{told, loaded, load_of}
use Rattle.salvage.specs.Salvage.{salvage_of, clean_of}
use Rattle.handover_compare.specs.declared.fields.Field.{Field}
use Rattle.handover_compare.specs.Fields.{list_of, entry_bytes}

-- ---- the requests of docs/REQUESTS.md

abbrev pub uid : List ℕ
uid =
    0xa0 ∷ 0xa1 ∷ 0xa2 ∷ 0xa3 ∷ 0xa4 ∷ 0xa5 ∷ 0xa6 ∷ 0xa7 ∷ 0xa8 ∷ 0xa9 ∷ 0xaa ∷ 0xab ∷ 0xac ∷ 0xad ∷ 0xae ∷ 0xaf
    ∷ 0xb0 ∷ 0xb1 ∷ 0xb2 ∷ 0xb3 ∷ 0xb4 ∷ 0xb5 ∷ 0xb6 ∷ 0xb7 ∷ 0xb8 ∷ 0xb9 ∷ 0xba ∷ 0xbb ∷ 0xbc ∷ 0xbd ∷ 0xbe ∷ 0xbf
    ∷ []

abbrev pub cookie : List ℕ
cookie =
    0x01 ∷ 0x02 ∷ 0x03 ∷ 0x04 ∷ 0x05 ∷ 0x06 ∷ 0x07 ∷ 0x08 ∷ 0x09 ∷ 0x0a ∷ 0x0b ∷ 0x0c ∷ 0x0d ∷ 0x0e ∷ 0x0f ∷ 0x10
    ∷ 0x11 ∷ 0x12 ∷ 0x13 ∷ 0x14
    ∷ []

abbrev pub v4_packet : List ℕ
v4_packet =
    0x23 ∷ 0x00 ∷ 0x06 ∷ 0x00 ∷ 0x00 ∷ 0x00 ∷ 0x00 ∷ 0x00 ∷ 0x00 ∷ 0x00 ∷ 0x00 ∷ 0x00 ∷ 0x00 ∷ 0x00 ∷ 0x00 ∷ 0x00
    ∷ 0x00 ∷ 0x00 ∷ 0x00 ∷ 0x00 ∷ 0x00 ∷ 0x00 ∷ 0x00 ∷ 0x00 ∷ 0x00 ∷ 0x00 ∷ 0x00 ∷ 0x00 ∷ 0x00 ∷ 0x00 ∷ 0x00 ∷ 0x00
    ∷ 0x00 ∷ 0x00 ∷ 0x00 ∷ 0x00 ∷ 0x00 ∷ 0x00 ∷ 0x00 ∷ 0x00 ∷ 0x01 ∷ 0x02 ∷ 0x03 ∷ 0x04 ∷ 0x05 ∷ 0x06 ∷ 0x07 ∷ 0x08
    ∷ []

abbrev pub upgrade_packet : List ℕ
upgrade_packet =
    0x23 ∷ 0x00 ∷ 0x06 ∷ 0x00 ∷ 0x00 ∷ 0x00 ∷ 0x00 ∷ 0x00 ∷ 0x00 ∷ 0x00 ∷ 0x00 ∷ 0x00 ∷ 0x00 ∷ 0x00 ∷ 0x00 ∷ 0x00
    ∷ 0x4e ∷ 0x54 ∷ 0x50 ∷ 0x35 ∷ 0x44 ∷ 0x52 ∷ 0x46 ∷ 0x54 ∷ 0x00 ∷ 0x00 ∷ 0x00 ∷ 0x00 ∷ 0x00 ∷ 0x00 ∷ 0x00 ∷ 0x00
    ∷ 0x00 ∷ 0x00 ∷ 0x00 ∷ 0x00 ∷ 0x00 ∷ 0x00 ∷ 0x00 ∷ 0x00 ∷ 0x01 ∷ 0x02 ∷ 0x03 ∷ 0x04 ∷ 0x05 ∷ 0x06 ∷ 0x07 ∷ 0x08
    ∷ []

abbrev pub nts_packet : List ℕ
nts_packet =
    0x23 ∷ 0x00 ∷ 0x06 ∷ 0x00 ∷ 0x00 ∷ 0x00 ∷ 0x00 ∷ 0x00 ∷ 0x00 ∷ 0x00 ∷ 0x00 ∷ 0x00 ∷ 0x00 ∷ 0x00 ∷ 0x00 ∷ 0x00
    ∷ 0x00 ∷ 0x00 ∷ 0x00 ∷ 0x00 ∷ 0x00 ∷ 0x00 ∷ 0x00 ∷ 0x00 ∷ 0x00 ∷ 0x00 ∷ 0x00 ∷ 0x00 ∷ 0x00 ∷ 0x00 ∷ 0x00 ∷ 0x00
    ∷ 0x00 ∷ 0x00 ∷ 0x00 ∷ 0x00 ∷ 0x00 ∷ 0x00 ∷ 0x00 ∷ 0x00 ∷ 0x01 ∷ 0x02 ∷ 0x03 ∷ 0x04 ∷ 0x05 ∷ 0x06 ∷ 0x07 ∷ 0x08
    ∷ 0x01 ∷ 0x04 ∷ 0x00 ∷ 0x24 ∷ 0xa0 ∷ 0xa1 ∷ 0xa2 ∷ 0xa3 ∷ 0xa4 ∷ 0xa5 ∷ 0xa6 ∷ 0xa7 ∷ 0xa8 ∷ 0xa9 ∷ 0xaa ∷ 0xab
    ∷ 0xac ∷ 0xad ∷ 0xae ∷ 0xaf ∷ 0xb0 ∷ 0xb1 ∷ 0xb2 ∷ 0xb3 ∷ 0xb4 ∷ 0xb5 ∷ 0xb6 ∷ 0xb7 ∷ 0xb8 ∷ 0xb9 ∷ 0xba ∷ 0xbb
    ∷ 0xbc ∷ 0xbd ∷ 0xbe ∷ 0xbf ∷ 0x02 ∷ 0x04 ∷ 0x00 ∷ 0x18 ∷ 0x01 ∷ 0x02 ∷ 0x03 ∷ 0x04 ∷ 0x05 ∷ 0x06 ∷ 0x07 ∷ 0x08
    ∷ 0x09 ∷ 0x0a ∷ 0x0b ∷ 0x0c ∷ 0x0d ∷ 0x0e ∷ 0x0f ∷ 0x10 ∷ 0x11 ∷ 0x12 ∷ 0x13 ∷ 0x14 ∷ 0x03 ∷ 0x04 ∷ 0x00 ∷ 0x18
    ∷ 0x00 ∷ 0x00 ∷ 0x00 ∷ 0x00 ∷ 0x00 ∷ 0x00 ∷ 0x00 ∷ 0x00 ∷ 0x00 ∷ 0x00 ∷ 0x00 ∷ 0x00 ∷ 0x00 ∷ 0x00 ∷ 0x00 ∷ 0x00
    ∷ 0x00 ∷ 0x00 ∷ 0x00 ∷ 0x00 ∷ 0x03 ∷ 0x04 ∷ 0x00 ∷ 0x18 ∷ 0x00 ∷ 0x00 ∷ 0x00 ∷ 0x00 ∷ 0x00 ∷ 0x00 ∷ 0x00 ∷ 0x00
    ∷ 0x00 ∷ 0x00 ∷ 0x00 ∷ 0x00 ∷ 0x00 ∷ 0x00 ∷ 0x00 ∷ 0x00 ∷ 0x00 ∷ 0x00 ∷ 0x00 ∷ 0x00
    ∷ []

-- ---- the file of docs/HANDOVER.md

abbrev pub file : List ℕ
file =
    0x53 ∷ 0x45 ∷ 0x00 ∷ 0x1b ∷ 0x04 ∷ 0x0a ∷ 0x05 ∷ 0x00 ∷ 0x00 ∷ 0x00 ∷ 0x01 ∷ 0x2a ∷ 0x05 ∷ 0xf2 ∷ 0x00 ∷ 0x4e
    ∷ 0x54 ∷ 0x50 ∷ 0x35 ∷ 0x44 ∷ 0x52 ∷ 0x46 ∷ 0x54 ∷ 0x00 ∷ 0x00 ∷ 0x01 ∷ 0xc0 ∷ 0x00 ∷ 0x02 ∷ 0x01 ∷ 0x08 ∷ 0x53
    ∷ 0x54 ∷ 0x00 ∷ 0x21 ∷ 0x03 ∷ 0x00 ∷ 0x00 ∷ 0x02 ∷ 0xd5 ∷ 0x00 ∷ 0x10 ∷ 0xc1 ∷ 0xc1 ∷ 0xc1 ∷ 0xc1 ∷ 0xc1 ∷ 0xc1
    ∷ 0xc1 ∷ 0xc1 ∷ 0xc1 ∷ 0xc1 ∷ 0xc1 ∷ 0xc1 ∷ 0xc1 ∷ 0xc1 ∷ 0xc1 ∷ 0xc1 ∷ 0x00 ∷ 0x08 ∷ 0xc2 ∷ 0xc2 ∷ 0xc2 ∷ 0xc2
    ∷ 0xc2 ∷ 0x00 ∷ 0x00 ∷ 0x00 ∷ 0x52 ∷ 0x45 ∷ 0x00 ∷ 0x02 ∷ 0x02 ∷ 0x03 ∷ 0x56 ∷ 0x45 ∷ 0x00 ∷ 0x02 ∷ 0x00 ∷ 0x00
    ∷ 0x50 ∷ 0x4f ∷ 0x00 ∷ 0x02 ∷ 0x06 ∷ 0x04 ∷ 0x53 ∷ 0x4f ∷ 0x00 ∷ 0x06 ∷ 0x02 ∷ 0xc6 ∷ 0x33 ∷ 0x64 ∷ 0x07 ∷ 0x00
    ∷ []

abbrev pub no_request : Pending
no_request = record { present = false; id = 0; uid = replicate 32 0; deadline = 0; answered = false }

-- a slot that holds a cookie, followed by zeros
abbrev pub holding : List ℕ → Slot
holding c = record { bytes = c ++ replicate (724 - length c) 0; len = length c }

abbrev pub no_cookie : Slot
no_cookie = record { bytes = replicate 724 0; len = 0 }

-- the record that the file is read as
abbrev pub box : Association
box =
    record {
      settings =
          record {
            min = interval (pos 4);
            max = interval (pos 10);
            startup = 5;
            window = 5000000000;
            upgrademark = 0x4e54503544524654;
            start = version V4;
            nts = true;
            source = named 0xc0000201;
            capacity = 8;
          };
      stash =
          record {
            slots =
                no_cookie
                ∷ no_cookie
                ∷ no_cookie
                ∷ no_cookie
                ∷ record { bytes = replicate 724 0; len = 725 }
                ∷ holding (replicate 16 0xc1)
                ∷ holding (0xc2 ∷ 0xc2 ∷ 0xc2 ∷ 0xc2 ∷ 0xc2 ∷ 0 ∷ 0 ∷ 0 ∷ [])
                ∷ no_cookie
                ∷ [];
            read = 3;
            held = 4;
          };
      state =
          record {
            effort = record { reach = record { 0 = 2 }; tries = 3; unanswered = 1 };
            version = version V4;
            polls = record { last = interval (pos 6); remote = interval (pos 4) };
            source = record { stratum = 2; refid = named 0xc6336407; denial = false };
            request = no_request;
          };
    }

-- another file: upgraded from the start and V5 now, a stash of seven that wraps, a remote minimum below zero, a denial; no two fields of a length are equal
abbrev pub other_file : List ℕ
other_file =
    0x53 ∷ 0x45 ∷ 0x00 ∷ 0x1b ∷ 0x05 ∷ 0x0b ∷ 0x03 ∷ 0x00 ∷ 0x00 ∷ 0x00 ∷ 0x01 ∷ 0x65 ∷ 0xa0 ∷ 0xbc ∷ 0x00 ∷ 0x01
    ∷ 0x02 ∷ 0x03 ∷ 0x04 ∷ 0x05 ∷ 0x06 ∷ 0x07 ∷ 0x08 ∷ 0x02 ∷ 0x00 ∷ 0x01 ∷ 0x0a ∷ 0x0b ∷ 0x0c ∷ 0x0d ∷ 0x07 ∷ 0x53
    ∷ 0x54 ∷ 0x00 ∷ 0x09 ∷ 0x06 ∷ 0x00 ∷ 0x03 ∷ 0x01 ∷ 0x02 ∷ 0x03 ∷ 0x00 ∷ 0x01 ∷ 0x04 ∷ 0x52 ∷ 0x45 ∷ 0x00 ∷ 0x02
    ∷ 0x14 ∷ 0x09 ∷ 0x56 ∷ 0x45 ∷ 0x00 ∷ 0x02 ∷ 0x03 ∷ 0x00 ∷ 0x50 ∷ 0x4f ∷ 0x00 ∷ 0x02 ∷ 0x07 ∷ 0xff ∷ 0x53 ∷ 0x4f
    ∷ 0x00 ∷ 0x06 ∷ 0x0f ∷ 0x11 ∷ 0x12 ∷ 0x13 ∷ 0x14 ∷ 0x01
    ∷ []

abbrev pub other_box : Association
other_box =
    record {
      settings =
          record {
            min = interval (pos 5);
            max = interval (pos 11);
            startup = 3;
            window = 6000000000;
            upgrademark = 0x0102030405060708;
            start = version Upgraded;
            nts = true;
            source = named 0x0a0b0c0d;
            capacity = 7;
          };
      stash =
          record {
            slots =
                holding (4 ∷ [])
                ∷ no_cookie
                ∷ no_cookie
                ∷ no_cookie
                ∷ no_cookie
                ∷ no_cookie
                ∷ holding (1 ∷ 2 ∷ 3 ∷ [])
                ∷ no_cookie
                ∷ [];
            read = 6;
            held = 2;
          };
      state =
          record {
            effort = record { reach = record { 0 = 20 }; tries = 9; unanswered = 2 };
            version = version V5;
            polls = record { last = interval (pos 7); remote = interval (negsuc 0) };
            source = record { stratum = 15; refid = named 0x11121314; denial = true };
            request = no_request;
          };
    }

-- another, which differs in every field
abbrev pub other : Association
other =
    record {
      settings =
          record {
            min = interval (pos 5);
            max = interval (pos 11);
            startup = 3;
            window = 6000000000;
            upgrademark = 7;
            start = version V5;
            nts = false;
            source = named 9;
            capacity = 7;
          };
      stash =
          record {
            slots =
                holding (5 ∷ 5 ∷ [])
                ∷ holding (6 ∷ 6 ∷ 6 ∷ [])
                ∷ holding (1 ∷ [])
                ∷ holding (2 ∷ [])
                ∷ holding (0xc1 ∷ 0xc1 ∷ 3 ∷ [])
                ∷ holding (0xc2 ∷ 0xc2 ∷ 0xc2 ∷ 0xc2 ∷ 0xc2 ∷ 0 ∷ 0 ∷ 1 ∷ [])
                ∷ holding (4 ∷ [])
                ∷ no_cookie
                ∷ [];
            read = 2;
            held = 7;
          };
      state =
          record {
            effort = record { reach = record { 0 = 1 }; tries = 5; unanswered = 0 };
            version = version Upgraded;
            polls = record { last = interval (pos 7); remote = interval (negsuc 0) };
            source = record { stratum = 3; refid = named 10; denial = true };
            request = no_request;
          };
    }

abbrev pub entry : (code left right place : ℕ) → Field
entry code left right place = record { code = code; left = left; right = right; place = place; same = false }

pub data Case : Type 0 where
  -- what is asked for, and the packet (No. 1)
  packet : (kind : SendKind) (poll : ℤ) (id mark : ℕ) (uid cookie : List ℕ) (asked : ℕ) (bytes : List ℕ) → Case
  -- what is asked for, the buffer's length, and the writer's number
  writes : (kind : SendKind) (cookie asked room number : ℕ) → Case
  -- a file and the record that it is read as; a record and its file (No. 6)
  loads : (bytes : List ℕ) (a : Association) → Case
  saves : (a : Association) (bytes : List ℕ) → Case
  -- a damaged list: records kept, bytes skipped, the places of the gaps, and the clean list's length; and the clean list (No. 9)
  salvages : (bytes : List ℕ) (kept skipped : ℕ) (places : List ℕ) (len : ℕ) → Case
  cleans : (bytes clean : List ℕ) → Case
  -- two records, and the list of what differs (No. 10)
  differ : (a b : Association) (fields : List Field) → Case
  -- an entry, and its 19 bytes
  enters : (field : Field) (bytes : List ℕ) → Case

abbrev pub Right : Case → Type 0
Right (packet kind poll id mark uid cookie asked bytes) = packet_of kind (interval poll) id mark uid cookie asked ≡ bytes
Right (writes kind c asked room n) = request.number_of (request.request_of kind (interval (pos 6)) 1 0 uid (replicate c 7) asked room) ≡ n
Right (loads bytes a) = load_of bytes ≡ loaded (told false) a
Right (saves a bytes) = file_of a ≡ bytes
Right (salvages bytes kept skipped places len) =
    salvage_of bytes (length bytes)
    ≡ Ok (record { kept = kept; skipped = skipped; gaps = length places; places = places ++ replicate (32 - length places) 0; len = len })
Right (cleans bytes clean) = clean_of bytes ≡ clean
Right (differ a b fields) = list_of a b ≡ fields
Right (enters field bytes) = entry_bytes field ≡ bytes

abbrev pub requests : List Case
requests =
    packet send.V4 (pos 6) 0x0102030405060708 0x4e54503544524654 [] [] 0 v4_packet
    ∷ packet send.V4Upgrade (pos 6) 0x0102030405060708 0x4e54503544524654 [] [] 0 upgrade_packet
    ∷ packet send.NtsV4 (pos 6) 0x0102030405060708 0x4e54503544524654 uid cookie 3 nts_packet
    ∷ writes send.V4 0 0 48 0
    ∷ writes send.V4 0 0 47 51
    ∷ writes send.V4Upgrade 0 0 48 0
    ∷ writes send.V5 0 0 48 50
    ∷ writes send.NtsV5 725 9 0 50
    ∷ writes send.NtsV4 724 8 5908 0
    ∷ writes send.NtsV4 724 8 5907 51
    ∷ writes send.NtsV4 725 8 0 52
    ∷ writes send.NtsV4 724 0 0 52
    ∷ writes send.NtsV4 724 9 0 52
    ∷ []

abbrev pub salvaged : List Case
salvaged =
    salvages [] 0 0 [] 0
    ∷ salvages (0xC0 ∷ 0x0E ∷ 0 ∷ 0 ∷ []) 1 0 [] 4
    -- neither the end nor a mark follows
    ∷ salvages (0xC0 ∷ 0x0E ∷ 0 ∷ 0 ∷ 0 ∷ []) 0 5 (0 ∷ []) 0
    ∷ salvages (0xC0 ∷ 0x0E ∷ 0 ∷ 0 ∷ 0xC0 ∷ []) 0 5 (0 ∷ []) 0
    -- a mark follows
    ∷ salvages (0xC0 ∷ 0x0E ∷ 0 ∷ 0 ∷ 0xC0 ∷ 0x0E ∷ []) 1 2 (4 ∷ []) 4
    -- two gaps, the first at the start
    ∷ salvages (7 ∷ 0xC0 ∷ 0x0E ∷ 0 ∷ 1 ∷ 9 ∷ 0xC0 ∷ 0x0E ∷ []) 1 3 (0 ∷ 6 ∷ []) 5
    ∷ cleans (7 ∷ 0xC0 ∷ 0x0E ∷ 0 ∷ 1 ∷ 9 ∷ 0xC0 ∷ 0x0E ∷ []) (0xC0 ∷ 0x0E ∷ 0 ∷ 1 ∷ 9 ∷ [])
    ∷ []

abbrev pub handed : List Case
handed = loads file box ∷ saves box file ∷ loads other_file other_box ∷ saves other_box other_file ∷ []

abbrev pub compared : List Case
compared =
    differ box box []
    ∷ differ box other
    (entry 1 4 5 0
    ∷ entry 2 10 11 0
    ∷ entry 3 5 3 0
    ∷ entry 4 5000000000 6000000000 0
    ∷ entry 5 0x4e54503544524654 7 0
    ∷ entry 6 0 0x300 0
    ∷ entry 7 1 0 0
    ∷ entry 8 0xc0000201 9 0
    ∷ entry 9 8 7 0
    ∷ entry 16 3 2 0
    ∷ entry 32 0 1 0
    ∷ entry 33 725 1 0
    ∷ entry 34 16 3 2
    ∷ entry 35 8 8 7
    ∷ entry 36 65536 1 0
    ∷ entry 37 65536 2 0
    ∷ entry 38 65536 3 0
    ∷ entry 48 2 1 0
    ∷ entry 49 3 5 0
    ∷ entry 50 0 0x200 0
    ∷ entry 51 6 7 0
    ∷ entry 52 4 (2 ^ 64 - 1) 0
    ∷ entry 53 2 3 0
    ∷ entry 54 0xc6336407 10 0
    ∷ entry 55 0 1 0
    ∷ [])
    ∷ enters (entry 34 0x0102030405060708 0x1112131415161718 0x0203)
    (34 ∷ 0x01 ∷ 0x02 ∷ 0x03 ∷ 0x04 ∷ 0x05 ∷ 0x06 ∷ 0x07 ∷ 0x08 ∷ 0x11 ∷ 0x12 ∷ 0x13 ∷ 0x14 ∷ 0x15 ∷ 0x16 ∷ 0x17 ∷ 0x18 ∷ 0x02 ∷ 0x03 ∷ [])
    ∷ []
