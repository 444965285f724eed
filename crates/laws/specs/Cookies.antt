-- The cookies of a log from a new association (RULES, No. 14): those that are stored, and those that are handed out. Only inputs, numbers and buffers say
-- which; nothing here depends on a record.
-- Assumes nothing.
use Rattle.std.specs.Prelude.{Bool, ◌&&◌, cond, List, [], ◌∷◌, ◌++◌, ℕ, eqb, take}
use Rattle.cookielist.specs.List.{Listed, whole, broken, cookies_in}
use Rattle.association.specs.declared.Settings.{Settings}
use Rattle.association.specs.New as new
use Rattle.timer_rules.specs.declared.TimerAnswer.{TimerAnswer}
use Rattle.timer_rules.specs.declared.TimerAnswer.TheVariants.{Sent, Reset, Demobilize, NoCookie, CookieTooLarge, ShortBuffer, NotWhole}
use Rattle.wire_request.specs.Request.{has_nts}
use Rattle.reply_rules.specs.Answer.{number_of}
use Rattle.laws_log.specs.Machine.{Done, of_timer, of_reply}
use Rattle.laws.specs.Association.{arrival_of, machine}

-- ---- stored

-- the cookies of a list, in order; a broken one has none
abbrev pub cookies_of : Listed → List (List ℕ)
cookies_of (whole cs) = cs
cookies_of broken = []

-- a call that answers 0 stores its list's cookies with NTS: `new`, and a measured reply
abbrev pub stored_on : ℕ → Bool → List ℕ → List (List ℕ)
stored_on n nts list = cond (eqb n 0 && nts) (cookies_of (cookies_in list)) []

abbrev pub stored_by : Bool → Done machine → List (List ℕ)
stored_by nts (of_timer t x) = []
stored_by nts (of_reply r x) = stored_on (number_of x.answer) nts (arrival_of r).list

abbrev pub stored_in : Bool → List (Done machine) → List (List ℕ)
stored_in nts [] = []
stored_in nts (d ∷ ds) = stored_by nts d ++ stored_in nts ds

-- the order of storing: the first list, then those of the replies
-- promise no14.8: Cookies in order: over any log from a new association the cookies handed out are, in order, some of the cookies stored, each place used at
--     most once.
--     edit: laws/a_cookie_is_handed_out_twice
abbrev pub stored_from : Settings → List ℕ → List (Done machine) → List (List ℕ)
stored_from s list done = stored_on (new.number_of (new.new_of s list).answer) s.nts list ++ stored_in s.nts done

-- ---- handed out

-- with a poll of an NTS kind: as many bytes of the lent buffer, from its start, as the answer says
abbrev pub handed_with : TimerAnswer → List ℕ → List (List ℕ)
handed_with (Sent kind poll len asked) left = cond (has_nts kind) (take len left ∷ []) []
handed_with Reset left = []
handed_with Demobilize left = []
handed_with NoCookie left = []
handed_with CookieTooLarge left = []
handed_with ShortBuffer left = []
handed_with NotWhole left = []

abbrev pub handed_by : Done machine → List (List ℕ)
handed_by (of_timer t x) = handed_with x.0 x.1
handed_by (of_reply r x) = []

-- promise: no14.8 (inputs, numbers and buffers alone; no record)
abbrev pub handed_out : List (Done machine) → List (List ℕ)
handed_out [] = []
handed_out (d ∷ ds) = handed_by d ++ handed_out ds
