-- What the writer answers, and what it leaves in the lent buffer (RULES, No. 1).
-- Assumes nothing.
use Rattle.std.specs.Prelude.{ℕ, ◌&&◌, not, cond, List, ◌++◌, ltb, length, drop, Result, Ok, Err}
use Rattle.time_types.specs.declared.PollInterval.{PollInterval}
use Rattle.version.specs.declared.SendKind.{SendKind}
use Rattle.wire_request.specs.Request.{is_v5, has_nts, ask_valid, packet_of}
use Rattle.wire_request.specs.declared.RequestRefusal.{RequestRefusal}
use Rattle.wire_request.specs.declared.RequestRefusal.TheVariants.{VersionFive, ShortBuffer, CookieOrCount}

-- 50 a V5 kind; 51 a buffer shorter than the packet; 52 a cookie over 724 bytes, or a number of new cookies outside 1 to 8
-- promise: no1.5
abbrev pub number_of : Result ℕ RequestRefusal → ℕ
number_of (Ok n) = 0
number_of (Err VersionFive) = 50
number_of (Err ShortBuffer) = 51
number_of (Err CookieOrCount) = 52

-- whether a packet of a length fits a buffer
-- promise: no1.5
abbrev pub fitted : ℕ → ℕ → Result ℕ RequestRefusal
fitted long room = cond (ltb room long) (Err ShortBuffer) (Ok long)

-- 50, then with NTS 52, then 51; otherwise the length up to the authenticator's place
-- promise no1.4: On 0 the writer gives the length up to the authenticator's place. Bytes past it stay.
-- promise no1.5: The writer answers 50, then with NTS 52, then 51; on these nothing is written.
--     edit: wire_request/a_refusal_writes
unfoldable pub request_of : SendKind → PollInterval → ℕ → ℕ → List ℕ → List ℕ → ℕ → ℕ → Result ℕ RequestRefusal
request_of kind poll id upgrademark uid cookie asked room =
    cond (is_v5 kind) (Err VersionFive)
    (cond (has_nts kind && not (ask_valid (length cookie) asked)) (Err CookieOrCount)
    (fitted (length (packet_of kind poll id upgrademark uid cookie asked)) room))

-- the packet at the start and the bytes past it unchanged, or nothing written
-- promise: no1.4
abbrev pub left_in : List ℕ → List ℕ → Result ℕ RequestRefusal → List ℕ
left_in packet out (Ok n) = packet ++ drop n out
left_in packet out (Err refusal) = out

-- of a packet: what is answered, and what is left in the buffer
abbrev pub answer_for : List ℕ → List ℕ → Result ℕ RequestRefusal
answer_for packet out = fitted (length packet) (length out)

abbrev pub buffer_for : List ℕ → List ℕ → List ℕ
buffer_for packet out = left_in packet out (answer_for packet out)

-- promise: no1.4
unfoldable pub buffer_of : SendKind → PollInterval → ℕ → ℕ → List ℕ → List ℕ → ℕ → List ℕ → List ℕ
buffer_of kind poll id upgrademark uid cookie asked out =
    left_in (packet_of kind poll id upgrademark uid cookie asked) out (request_of kind poll id upgrademark uid cookie asked (length out))
