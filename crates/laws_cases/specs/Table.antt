-- RULES, "Either side of each edge": the starred cases as one table over the definitions. A case is a call of a definition with its expected result, and
-- `Right` says what the case claims. proofs/Holds.antt has the one theorem: every claim of the table holds.
-- Assumes nothing.
use Rattle.std.specs.Prelude.{◌≡◌, Bool, true, false, List, [], ◌∷◌, ℕ, ◌-◌, ◌^◌, ℤ, pos, negsuc, Some}
use Rattle.words.specs.Signed.{half_to_zero}
use Rattle.reach.specs.Register.{polled_of, unanswered_of}
use Rattle.cookiestash.specs.Stash.{slot_of, new_of, get_of}
use Rattle.cookielist.specs.List.{AllShort}
use Rattle.cookiestash.specs.Queue.{store_all}
use Rattle.version.specs.declared.ProtocolVersion.{ProtocolVersion}
use Rattle.version.specs.declared.ProtocolVersion.TheVariants.{V4, Upgrading}
use Rattle.version.specs.Upgrade.{expects_of, stepped}
use Rattle.cookielist.specs.List.{list_broken}
use Rattle.cookiestash.specs.declared.Seen.{Seen}
use Rattle.association.specs.declared.Settings.{Settings}
use Rattle.association.specs.declared.State.{State}
use Rattle.association.specs.Record.{no_pending, whole_seen}
use Rattle.wire_incoming.specs.declared.Reply.{Reply}
use Rattle.timer_rules.specs.declared.TimerAnswer.{TimerAnswer}
use Rattle.timer_rules.specs.declared.TimerAnswer.TheVariants.{Sent, Reset, Demobilize, NoCookie, CookieTooLarge, ShortBuffer, NotWhole}
use Rattle.timer_rules.specs.Answer as timer
use Rattle.timer_rules.specs.declared.TimerInput.{TimerInput}
use Rattle.timer_rules.specs.Poll.{short_buffer, startup_over, pending_of}
use Rattle.timer_rules.specs.Decide.{decide_of}
use Rattle.reply_rules.specs.Answer as reply
use Rattle.reply_clauses.specs.After.{Arrival, live}
use Rattle.reply_rules.specs.Judge.{judge_of}
use Rattle.time_types.specs.Time.{difference, delay_of, offset_of, local_time}
use Rattle.time_types.specs.Poll.{after_rate}

pub data Case : Type 0 where
  -- any nine cookies stored: the second comes out first
  -- promise: 3.3
  nine_stored : Case
  -- and in a stash of four the sixth (RULES, No. 12)
  -- promise: no12.2
  nine_in_four : Case
  -- a reach register and its count of unanswered polls
  -- promise: 2.3 (0 8; 128 7)
  counts : (reach count : ℕ) → Case
  -- a reach register, polled
  -- promise: 2.1 (128 0)
  polled : (reach next : ℕ) → Case
  -- the gap after the take and the cookie's length, the timer's number, and how many new cookies are asked for
  -- promise: 10.4
  asks : (gap length number asked : ℕ) → Case
  -- when a poll was sent and its window, and a time at which it is live
  -- promise: 11.2
  live_at : (sent window time : ℕ) → Case
  -- when a poll was sent and its window, and the number that a reply gets at a time
  late_at : (sent window time number : ℕ) → Case
  -- nothing is pending, a reply has been measured since the last sent poll or not, and the number that a reply gets (RULES, No. 3)
  unasked : (answered : Bool) (number : ℕ) → Case
  -- a version and a plain reply
  -- promise: 4.2 (with 2, 1, 0)
  plain_reply : (kind next : ProtocolVersion) → Case
  -- the remote minimum, the upper limit and the last poll, and the remote minimum after RATE
  -- promise: 11.4, no7.1 (both rows; remote 12, limit 10, last 4 gives 12)
  rated : (remote limit last next : ℤ) → Case
  -- T1 to T4, and delay, offset and local time
  -- promise: 5.5, 11.8
  measured : (t1 t2 t3 t4 : ℕ) (delay offset : ℤ) (local : ℕ) → Case
  -- the sum of an offset, halved
  -- promise: 5.4 (-3 -1)
  halved : (sum half : ℤ) → Case
  -- a difference of timestamps
  -- promise: 5.1
  differ : (a b : ℕ) (difference : ℤ) → Case

-- how many new cookies an answer asks for
abbrev pub asked_by : TimerAnswer → ℕ
asked_by (Sent kind poll len asked) = asked
asked_by Reset = 0
asked_by Demobilize = 0
asked_by NoCookie = 0
asked_by CookieTooLarge = 0
asked_by ShortBuffer = 0
asked_by NotWhole = 0

-- a timer with NTS that tries a poll, and takes the oldest cookie
pub record Taking (g : Settings) (s : State) (v : Seen) (room gap length : ℕ) : Type 0 where
  pub whole : whole_seen g v s ≡ true
  pub roomy : short_buffer g room ≡ false
  pub going : startup_over g s ≡ false
  pub nts : g.nts ≡ true
  pub gap_is : v.gap ≡ gap
  pub oldest_is : v.oldest ≡ Some length

-- a reply that was read, of a version that is expected and with a list that is not broken
pub record Heard (g : Settings) (s : State) (r : Reply) (t : Arrival) : Type 0 where
  pub listed : list_broken g.nts t.list ≡ false
  pub expected : expects_of s.version r.version ≡ true

abbrev pub Right : Case → Type 0
Right nine_stored =
    (a b c d e f g h i : List ℕ) →
    AllShort (a ∷ b ∷ c ∷ d ∷ e ∷ f ∷ g ∷ h ∷ i ∷ []) →
    (get_of 8 (store_all 8 new_of (a ∷ b ∷ c ∷ d ∷ e ∷ f ∷ g ∷ h ∷ i ∷ []))).cookie ≡ Some (slot_of b)
Right nine_in_four =
    (a b c d e f g h i : List ℕ) →
    AllShort (a ∷ b ∷ c ∷ d ∷ e ∷ f ∷ g ∷ h ∷ i ∷ []) →
    (get_of 4 (store_all 4 new_of (a ∷ b ∷ c ∷ d ∷ e ∷ f ∷ g ∷ h ∷ i ∷ []))).cookie ≡ Some (slot_of f)
Right (counts r n) = unanswered_of (record { 0 = r }) ≡ n
Right (polled r n) = polled_of (record { 0 = r }) ≡ record { 0 = n }
Right (asks gap len n k) =
    (g : Settings) (s : State) (v : Seen) (i : TimerInput) (room : ℕ) → Taking g s v room gap len →
    (timer.number_of (decide_of g s v i room).answer ≡ n) × (asked_by (decide_of g s v i room).answer ≡ k)
Right (live_at sent window time) = (nts : Bool) (i : TimerInput) → i.time ≡ sent → live (pending_of nts window i) time ≡ true
Right (late_at sent window time n) =
    (g : Settings) (s : State) (i : TimerInput) (r : Reply) (t : Arrival) → Heard g s r t →
    i.time ≡ sent → s.request ≡ pending_of g.nts window i → t.time ≡ time → reply.number_of (judge_of g s r t).answer ≡ n
Right (unasked answered n) =
    (g : Settings) (s : State) (r : Reply) (t : Arrival) → Heard g s r t → s.request ≡ no_pending answered → reply.number_of (judge_of g s r t).answer ≡ n
Right (plain_reply k n) = stepped k false ≡ n
Right (rated r m l n) = after_rate r m l ≡ n
Right (measured t1 t2 t3 t4 d o l) = (delay_of t1 t2 t3 t4 ≡ d) × (offset_of t1 t2 t3 t4 ≡ o) × (local_time t1 t4 ≡ l)
Right (halved s h) = half_to_zero s ≡ h
Right (differ a b d) = difference a b ≡ d

-- negsuc k is -1 - k
abbrev pub table : List Case
table =
    nine_stored
    ∷ nine_in_four
    ∷ counts 0 8
    ∷ counts 128 7
    ∷ polled 128 0
    ∷ asks 8 724 20 1
    ∷ asks 8 725 24 0
    ∷ asks 8 90 20 8
    ∷ asks 8 91 20 7
    ∷ asks 1 0 20 1
    ∷ live_at 1000 5000 6000
    ∷ late_at 1000 5000 6001 14
    ∷ unasked false 12
    ∷ unasked true 13
    ∷ plain_reply (Upgrading 2) (Upgrading 1)
    ∷ plain_reply (Upgrading 1) V4
    ∷ plain_reply (Upgrading 0) V4
    ∷ rated (pos 4) (pos 10) (pos 6) (pos 6)
    -- RULES, No. 7, changes this one from 10 to 12
    ∷ rated (pos 12) (pos 10) (pos 4) (pos 12)
    ∷ measured (2 ^ 64 - 4) 2 4 6 (pos 8) (pos 2) 1
    ∷ halved (negsuc 2) (negsuc 0)
    ∷ differ (2 ^ 63) 0 (negsuc (2 ^ 63 - 1))
    ∷ differ 0 (2 ^ 63) (negsuc (2 ^ 63 - 1))
    ∷ []
