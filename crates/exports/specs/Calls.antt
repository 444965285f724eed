-- What each exported call returns: the answer of the call that it makes, as numbers, and the lent bytes as that call leaves them.
-- Assumes nothing.
use Rattle.std.specs.Prelude.{cond, List, ℕ, replicate, Option, Some, None, Result, Err}
use Rattle.cookiestash.specs.Falling.{none_dropped}
use Rattle.association_metered.specs.Profile as metered
use Rattle.association.specs.declared.NewRefusal.{NewRefusal}
use Rattle.association_metered.specs.declared.ProfileRefusal.{ProfileRefusal}
use Rattle.record_bytes.specs.declared.Opened.{Opened}
use Rattle.record_bytes.specs.Record.{opened}
use Rattle.record_new.specs.declared.InBytes.{InBytes}
use Rattle.record_new.specs.New.{Call, in_bytes_number, new_number, metered_number, new_call, metered_call, blanked}
use Rattle.record_calls.specs.Timer.{TimerCall}
use Rattle.reply.specs.declared.Replied as reply
use Rattle.record_calls.specs.Reply.{ReplyCall}
use Rattle.record_files.specs.Save.{SaveCall}
use Rattle.handover_file.specs.Answers.{load_number}
use Rattle.record_files.specs.Load.{LoadCall}
use Rattle.exports_values.specs.declared.CSettings.{CSettings}
use Rattle.exports_values.specs.declared.CNewAnswer.{CNewAnswer}
use Rattle.exports_values.specs.declared.CTimerAnswer.{CTimerAnswer}
use Rattle.exports_values.specs.declared.CReplied.{CReplied}
use Rattle.exports_values.specs.declared.CWritten.{CWritten}
use Rattle.exports_values.specs.declared.CLoadAnswer.{CLoadAnswer}
use Rattle.exports_values.specs.Packed.{settings_ok, settings_in, pack_settings, pack_state}
use Rattle.exports_values.specs.Answers.{new_answer, timer_answer, reply_answer, saved_as, load_as}
use Rattle.exports.specs.declared.CView.{CView}

-- ---- new

pub record Made : Type 0 where
  pub answer : CNewAnswer
  pub bytes : List ℕ

abbrev pub made : CNewAnswer → List ℕ → Made
made r b = record { answer = r; bytes = b }

abbrev pub made_as : Call (Result (Unit {0}) (InBytes NewRefusal)) → Made
made_as t = made (new_answer (new_number t.answer) t.dropped) t.bytes

abbrev pub metered_as : Call (Result (Unit {0}) (InBytes ProfileRefusal)) → Made
metered_as t = made (new_answer (metered_number t.answer) t.dropped) t.bytes

-- settings with an unknown code: 30, and every byte zero
abbrev pub unmade : List ℕ → Made
unmade b = made (new_answer 30 none_dropped) (blanked b)

-- promise: exports.7
unfoldable pub made_by : CSettings → List ℕ → List ℕ → Made
made_by s list b = cond (settings_ok s) (made_as (new_call (settings_in s) list b)) (unmade b)

-- promise: exports.7
unfoldable pub metered_by : CSettings → List ℕ → List ℕ → Made
metered_by s list b = cond (settings_ok s) (metered_as (metered_call (settings_in s) list b)) (unmade b)

-- settings with an unknown code: 30
-- promise: exports.7
unfoldable pub profiled_of : CSettings → List ℕ → ℕ
profiled_of s list = cond (settings_ok s) (metered.number_of (metered.profile_of (settings_in s) list)) 30

-- ---- the timer

pub record Timed : Type 0 where
  pub answer : CTimerAnswer
  pub bytes : List ℕ
  pub left : List ℕ

abbrev pub timed : CTimerAnswer → List ℕ → List ℕ → Timed
timed r b buffer = record { answer = r; bytes = b; left = buffer }

-- promise: exports.7
abbrev pub timed_as : TimerCall → Timed
timed_as t = timed (timer_answer t.answer) t.bytes t.left

-- ---- the reply

pub record Replied : Type 0 where
  pub answer : CReplied
  pub bytes : List ℕ

abbrev pub replied : CReplied → List ℕ → Replied
replied r b = record { answer = r; bytes = b }

-- an answer, with what fell out of the stash (RULES, No. 5)
-- promise: exports.8
abbrev pub told_as : reply.Replied → CReplied
told_as r = record { answer = reply_answer r.answer; dropped = r.dropped }

-- promise: exports.7
abbrev pub replied_as : ReplyCall → Replied
replied_as t = replied (told_as t.replied) t.bytes

-- ---- save

pub record Saved : Type 0 where
  pub answer : CWritten
  pub bytes : List ℕ
  pub left : List ℕ

abbrev pub saved : CWritten → List ℕ → List ℕ → Saved
saved r b out = record { answer = r; bytes = b; left = out }

-- promise: exports.7
abbrev pub saved_by : SaveCall → Saved
saved_by t = saved (saved_as t.answer) t.bytes t.left

-- ---- load

pub record Loaded : Type 0 where
  pub answer : CLoadAnswer
  pub bytes : List ℕ

abbrev pub loaded : CLoadAnswer → List ℕ → Loaded
loaded r b = record { answer = r; bytes = b }

-- promise: exports.7
abbrev pub loaded_as : LoadCall → Loaded
loaded_as t = loaded (load_as (in_bytes_number (λ refusal. load_number (Err refusal))) t.told) t.bytes

-- ---- look

abbrev pub shown : Opened → ℕ → CView
shown o number = record { settings = pack_settings o.settings; state = pack_state o.state; number = number }

-- 0, or 32 if the bytes are no record: then settings and state are those of an all-zero record
-- promise exports.12: `look` shows the settings and the state of a record, and 32 with those of 92 zeros if the bytes are no record. `field_at` is the walk
--     of part 7.
--     edit: record_bytes/bytes_that_are_no_record_show_ones
abbrev pub view_of : Option Opened → CView
view_of (Some o) = shown o 0
view_of None = shown (opened (replicate 92 0)) 32
