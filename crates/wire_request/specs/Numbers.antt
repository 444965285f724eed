-- When the request writer returns each number, and with which answer, in the order of the tests: 50, 52, 51 (RULES, No. 1).
-- Assumes nothing.
use Rattle.std.specs.Prelude.{◌≡◌, true, false, not, ◌&&◌, List, ℕ, ◌≤◌, ◌<◌, length, Result, Ok, Err}
use Rattle.time_types.specs.declared.PollInterval.{PollInterval}
use Rattle.version.specs.declared.SendKind.{SendKind}
use Rattle.wire_request.specs.Request.{is_v5, has_nts, ask_valid, packet_of}
use Rattle.wire_request.specs.declared.RequestRefusal.{RequestRefusal}
use Rattle.wire_request.specs.declared.RequestRefusal.TheVariants.{VersionFive, ShortBuffer, CookieOrCount}

module _ (kind : SendKind) (poll : PollInterval) (id mark : ℕ) (uid cookie : List ℕ) (asked room : ℕ) where
  -- what would be written
  abbrev pub packet : List ℕ
  packet = packet_of kind poll id mark uid cookie asked

  -- neither 50 nor 52
  pub record Writable : Type 0 where
    pub four : is_v5 kind ≡ false
    pub right : (has_nts kind && not (ask_valid (length cookie) asked)) ≡ false

  pub data Given : ℕ → Result ℕ RequestRefusal → Type 0 where
    version_five : is_v5 kind ≡ true → Given 50 (Err VersionFive)
    cookie_or_count : is_v5 kind ≡ false → has_nts kind ≡ true → ask_valid (length cookie) asked ≡ false → Given 52 (Err CookieOrCount)
    short_buffer_lem : Writable → room < length packet → Given 51 (Err ShortBuffer)
    written : Writable → length packet ≤ room → Given 0 (Ok (length packet))
