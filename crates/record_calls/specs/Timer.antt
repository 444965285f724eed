-- The timer on a record in lent bytes: the timer on what they unpack to, packed again. Bytes that are no record: 32, and nothing changes.
-- Assumes nothing.
use Rattle.std.specs.Prelude.{cond, List, ℕ}
use Rattle.timer_rules.specs.declared.TimerAnswer.{TimerAnswer}
use Rattle.timer_rules.specs.declared.TimerAnswer.TheVariants.{NotWhole}
use Rattle.timer_rules.specs.declared.TimerInput.{TimerInput}
use Rattle.timer.specs.Timer.{Timed, timed_of}
use Rattle.record_bytes.specs.Record.{ok, unpacked, packed}

pub record TimerCall : Type 0 where
  pub answer : TimerAnswer
  pub bytes : List ℕ
  pub left : List ℕ

abbrev pub gave : TimerAnswer → List ℕ → List ℕ → TimerCall
gave r b buffer = record { answer = r; bytes = b; left = buffer }

abbrev pub timer_packed : Timed → TimerCall
timer_packed t = gave t.gives.answer (packed t.gives.association) t.left

-- promise exports.3: Each call is the call by value on what the bytes hold, packed again. Bytes that are no record give 32 and stay. So a call on any bytes
--     has its answer.
--     edit: record_calls/the_state_stays_as_it_was, record_calls/cookies_of_every_reply_are_stored, record_calls/bytes_that_are_no_record_are_unreachable,
--       record_new/a_new_association_reads_from_place_1, record_files/one_cookie_is_still_counted,
--       record_files/the_length_is_read_from_the_cookie, record_files/the_reading_place_is_the_count, record_files/the_count_is_the_reading_place
unfoldable pub timer_call : List ℕ → TimerInput → List ℕ → TimerCall
timer_call b i buffer = cond (ok b) (timer_packed (timed_of (unpacked b) i buffer)) (gave NotWhole b buffer)
