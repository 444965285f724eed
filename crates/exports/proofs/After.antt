-- What a refused call on lent bytes leaves, by the number alone: every byte of the record and of the buffer. After a refused `new`, `metered` or `load` every
-- byte is zero, but for 31, which leaves them; and the file of a whole record loads as that record, with nothing sent.
-- Assumes nothing.
use mathlib.Core.Path.{◌≡◌, refl, sym, ◌∙◌, ap, subst}
use mathlib.Core.Bool.{Bool, true, false, ◌&&◌, ◌||◌, cond}
use mathlib.Core.List.{List}
use Prim.Native.Nat.{ℕ, ◌+◌, ◌*◌}
use native.Mathlib.Omega.{arith}
use borrow.Author.Tests.{eqb-true, eq-eqb}
use lib.Dec.{T, leb, eqb, ltb}
use lib.ListN.{length, replicate}
use Rattle.std.specs.Prelude.{Option, Result, Ok, Err}
use Rattle.answers.specs.Answers.{number_in}
use Rattle.words.proofs.Bytes.{Bytes}
use Rattle.words.proofs.Tests.{when, unless, either}
use Rattle.cookiestash.specs.declared.Dropped.{Dropped}
use Rattle.time_types.specs.declared.PollInterval.{PollInterval}
use Rattle.version.specs.declared.SendKind.{SendKind}
use Rattle.association.specs.declared.Settings.{Settings}
use Rattle.association.specs.declared.Association.{Association}
use Rattle.association.specs.declared.NewRefusal.{NewRefusal}
use Rattle.association.specs.declared.NewRefusal.TheVariants as N
use Rattle.association.specs.Record.{whole_of}
use Rattle.association.specs.Whole.{Whole}
use Rattle.association.specs.New as new
use Rattle.association_metered.specs.declared.ProfileRefusal.{ProfileRefusal}
use Rattle.association_metered.specs.declared.ProfileRefusal.TheVariants as P
use Rattle.association_metered.specs.Profile as metered
use Rattle.timer_rules.specs.declared.TimerAnswer.{TimerAnswer}
use Rattle.timer_rules.specs.declared.TimerAnswer.TheVariants as Rang
use Rattle.timer_rules.specs.declared.TimerInput.{TimerInput}
use Rattle.timer_rules.specs.Answer as timer-answer
use Rattle.timer.specs.Timer.{timer_of, timed_of}
use Rattle.timer.proofs.After.{leaves, record_left, pending_left}
use Rattle.wire_incoming.specs.declared.Reply.{Reply}
use Rattle.reply_clauses.specs.After.{Arrival}
use Rattle.reply_rules.specs.declared.ReplyAnswer.{ReplyAnswer}
use Rattle.reply_rules.specs.Answer as reply-answer
use Rattle.reply.specs.Reply.{replied_of}
use Rattle.reply.proofs.Numbers.{given}
use Rattle.reply.proofs.After.{heard}
use Rattle.wire_collector.specs.declared.CollectRefusal.{CollectRefusal}
use Rattle.wire_collector.specs.Collector as collector
use Rattle.wire_request.specs.declared.RequestRefusal.{RequestRefusal}
use Rattle.wire_request.specs.Request as request-spec
use Rattle.wire_request.specs.Answer as request
use Rattle.handover_file.specs.declared.SaveRefusal.{SaveRefusal}
use Rattle.handover_file.specs.declared.SaveRefusal.TheVariants.{NotWhole, ShortBuffer}
use Rattle.handover_file.specs.declared.Loaded.{Loaded}
use Rattle.handover_file.specs.declared.LoadRefusal.{LoadRefusal}
use Rattle.handover_file.specs.declared.LoadRefusal.TheVariants as L
use Rattle.handover_file.specs.File.{file_of, emptied, unsent}
use Rattle.handover_file.specs.Answers.{save_number, saved, save_of, over, buffer_of, handed, handed_of, load_number, load_of}
use Rattle.handover_file.proofs.File.{Fit, read_file}
use Rattle.record_bytes.specs.Record.{ok, unpacked, packed}
use Rattle.record_bytes.proofs.RoundTrip.{bytes_again}
use Rattle.record_stash.specs.Rows.{sized_in}
use Rattle.record_calls.specs.Timer as timer
use Rattle.record_calls.specs.Reply as reply
use Rattle.record_new.specs.New as made
use Rattle.record_new.specs.declared.InBytes.{InBytes}
use Rattle.record_new.specs.declared.InBytes.TheVariants as B
use Rattle.record_files.specs.Save as save
use Rattle.record_files.specs.Load as load
use Rattle.exports_values.specs.Answers.{collected_as, requested_as}

-- ---- the timer: 21, 22, 31 and 32

module _ (b : List ℕ) (y : Bytes b) (i : TimerInput) (buffer : List ℕ) where
  abbrev rang : timer.TimerCall
  rang = timer.timer_call b i buffer

  rang_on : ok b ≡ true → rang ≡ timer.timer_packed (timed_of (unpacked b) i buffer)
  unfolding timer.timer_call
  rang_on e = when (timer.timer_packed (timed_of (unpacked b) i buffer)) (timer.gave Rang.NotWhole b buffer) e

  rang_none : ok b ≡ false → rang ≡ timer.gave Rang.NotWhole b buffer
  unfolding timer.timer_call
  rang_none e = unless (timer.timer_packed (timed_of (unpacked b) i buffer)) (timer.gave Rang.NotWhole b buffer) e

  -- promise exports.5: A rejection leaves every byte of record and buffer: the timer's 21, 22, 31, 32, the reply's 1, 2, 4, 12 to 14, 32, 33, save's 32 and
  --     60.
  pub timer_refused : T (leaves (timer-answer.number_of rang.answer)) → rang ≡ timer.gave rang.answer b buffer
  timer_refused t = by (ok b) refl
    where
      by : (k : Bool) → ok b ≡ k → rang ≡ timer.gave rang.answer b buffer
      by true e =
          let q = rang_on e in
          let r = timer_of (unpacked b) i (length buffer) in
          let n : T (leaves (timer-answer.number_of r.answer)) = subst (λ (k : TimerAnswer). T (leaves (timer-answer.number_of k)))
          (ap (λ (c : timer.TimerCall). c.answer) q) t in
          let same = ap packed (record_left (unpacked b) i buffer n) ∙ bytes_again b y e in
          let kept = (pending_left (unpacked b) i buffer (λ z. subst (λ (k : ℕ). T (leaves k)) z n)).untouched in
          q ∙ ((λ j. timer.gave r.answer (same j) (kept j)) ∙ sym (ap (λ (c : timer.TimerCall). timer.gave c.answer b buffer) q))
      by false e = let q = rang_none e in q ∙ sym (ap (λ (c : timer.TimerCall). timer.gave c.answer b buffer) q)

-- ---- the reply: 1, 2, 4, 12, 13, 14, 32 and 33

abbrev pub turns_away : ℕ → Bool
turns_away n = (leb 1 n && leb n 4) || leb 12 n

module _ (b : List ℕ) (y : Bytes b) (read : Option Reply) (t : Arrival) where
  abbrev came : reply.ReplyCall
  came = reply.replied_call b read t

  came_on : ok b ≡ true → came ≡ reply.reply_packed (replied_of (unpacked b) read t)
  unfolding reply.replied_call
  came_on e = when (reply.reply_packed (replied_of (unpacked b) read t)) (reply.gave reply.no_record b) e

  came_none : ok b ≡ false → came ≡ reply.gave reply.no_record b
  unfolding reply.replied_call
  came_none e = unless (reply.reply_packed (replied_of (unpacked b) read t)) (reply.gave reply.no_record b) e

  -- promise: exports.5
  pub reply_refused : T (turns_away (reply-answer.number_of came.replied.answer)) → came ≡ reply.gave came.replied b
  reply_refused z = by (ok b) refl
    where
      by : (k : Bool) → ok b ≡ k → came ≡ reply.gave came.replied b
      by true e =
          let q = came_on e in
          let r = replied_of (unpacked b) read t in
          let n : T (turns_away (reply-answer.number_of r.replied.answer)) = subst (λ (k : ReplyAnswer). T (turns_away (reply-answer.number_of k)))
          (ap (λ (c : reply.ReplyCall). c.replied.answer) q) z in
          let same = ap packed ((heard (unpacked b) read t (given (unpacked b) read t)).same n) ∙ bytes_again b y e in
          q ∙ ((λ j. reply.gave r.replied (same j)) ∙ sym (ap (λ (c : reply.ReplyCall). reply.gave c.replied b) q))
      by false e = let q = came_none e in q ∙ sym (ap (λ (c : reply.ReplyCall). reply.gave c.replied b) q)

-- ---- new and metered: after a refusal every byte is zero; after 31 they are as they were

abbrev pub Zeroed : {A : Type 0} → (A → ℕ) → List ℕ → made.Call A → Type 0
Zeroed num b c = (num c.answer ≡ 0 → ⊥) → (num c.answer ≡ 31 → ⊥) → c.bytes ≡ replicate (length b) 0

abbrev pub Stays : {A : Type 0} → (A → ℕ) → List ℕ → made.Call A → Type 0
Stays num b c = num c.answer ≡ 31 → c.bytes ≡ b

module _ {A : Type 0} (num : A → ℕ) (b : List ℕ) (cap number : ℕ) (said wrong : A) (d : Dropped) (a : Association) (is : num said ≡ number)
    (last : num wrong ≡ 31) where
  zeroed : Zeroed num b (made.made_in b cap number said wrong d a)
  zeroed =
      either (Zeroed num b) (eqb number 0)
      (λ e. either (Zeroed num b) (sized_in b cap) (λ _ z _. absurd (z (is ∙ eqb-true _ _ e))) (λ _ _ z. absurd (z last)))
      (λ _ _ _. refl)

  stays : (number ≡ 31 → ⊥) → Stays num b (made.made_in b cap number said wrong d a)
  stays n =
      either (Stays num b) (eqb number 0)
      (λ _. either (Stays num b) (sized_in b cap) (λ _ z. absurd (n (sym is ∙ z))) (λ _ _. refl))
      (λ _ z. absurd (n (sym is ∙ z)))

new_said : (r : Result (Unit {0}) NewRefusal) → made.new_number (made.in_bytes r) ≡ new.number_of r
new_said (Ok _) = refl
new_said (Err refusal) = refl

new_never_31 : (r : Result (Unit {0}) NewRefusal) → new.number_of r ≡ 31 → ⊥
new_never_31 (Ok _) e = omega (arith, e)
new_never_31 (Err N.BadSettings) e = omega (arith, e)
new_never_31 (Err N.BrokenList) e = omega (arith, e)
new_never_31 (Err N.Retired) e = omega (arith, e)

metered_said : (r : Result (Unit {0}) ProfileRefusal) → made.metered_number (made.in_bytes r) ≡ metered.number_of r
metered_said (Ok _) = refl
metered_said (Err refusal) = refl

metered_never_31 : (r : Result (Unit {0}) ProfileRefusal) → metered.number_of r ≡ 31 → ⊥
metered_never_31 (Ok _) e = omega (arith, e)
metered_never_31 (Err P.BadSettings) e = omega (arith, e)
metered_never_31 (Err P.BrokenList) e = omega (arith, e)
metered_never_31 (Err P.LowPollMin) e = omega (arith, e)
metered_never_31 (Err P.HighStartup) e = omega (arith, e)
metered_never_31 (Err P.UpgradingStart) e = omega (arith, e)
metered_never_31 (Err P.LongCookie) e = omega (arith, e)

module _ (s : Settings) (list b : List ℕ) where
  -- promise: exports.4
  pub new_refused : Zeroed made.new_number b (made.new_call s list b)
  unfolding made.new_call
  new_refused =
      let o = new.new_of s list in
      zeroed made.new_number b s.capacity (new.number_of o.answer) (made.in_bytes o.answer) (Err B.WrongSize) o.dropped o.association
      (new_said o.answer) refl

  -- promise: exports.4
  pub new_wrong_size : Stays made.new_number b (made.new_call s list b)
  unfolding made.new_call
  new_wrong_size =
      let o = new.new_of s list in
      stays made.new_number b s.capacity (new.number_of o.answer) (made.in_bytes o.answer) (Err B.WrongSize) o.dropped o.association
      (new_said o.answer) refl
      (new_never_31 o.answer)

  -- promise: exports.4
  pub metered_refused : Zeroed made.metered_number b (made.metered_call s list b)
  unfolding made.metered_call
  metered_refused =
      let o = metered.metered_of s list in
      zeroed made.metered_number b s.capacity (metered.number_of o.answer) (made.in_bytes o.answer) (Err B.WrongSize) o.dropped o.association
      (metered_said o.answer) refl

  -- promise: exports.4
  pub metered_wrong_size : Stays made.metered_number b (made.metered_call s list b)
  unfolding made.metered_call
  metered_wrong_size =
      let o = metered.metered_of s list in
      stays made.metered_number b s.capacity (metered.number_of o.answer) (made.in_bytes o.answer) (Err B.WrongSize) o.dropped o.association
      (metered_said o.answer) refl
      (metered_never_31 o.answer)

-- ---- save: 32 and 60 leave each byte of the record and of the buffer

module _ (b : List ℕ) (y : Bytes b) (out : List ℕ) where
  abbrev Kept : save.SaveCall → Type 0
  Kept c = (save_number c.answer ≡ 0 → ⊥) → c ≡ save.gave c.answer b out

  kept : ok b ≡ true → Kept (save.save_packed (handed_of (unpacked b) out))
  unfolding save_of buffer_of
  kept e = two (whole_of (unpacked b)) (ltb (length out) (length (file_of (unpacked b))))
    where
      same : (r : Result ℕ SaveRefusal) → save.gave r (packed (unpacked b)) out ≡ save.gave r b out
      same r = λ i. save.gave r (bytes_again b y e i) out

      two : (p q : Bool) →
          Kept
          (save.save_packed
          (handed
          (cond p
          (cond q (saved (Err ShortBuffer) (unpacked b)) (saved (Ok (length (file_of (unpacked b)))) (emptied (unpacked b))))
          (saved (Err NotWhole) (unpacked b)))
          (cond p (cond q out (over (file_of (unpacked b)) out)) out)))
      two false q z = same (Err NotWhole)
      two true true z = same (Err ShortBuffer)
      two true false z = absurd (z refl)

  -- promise: exports.5
  pub save_refused : Kept (save.save_call b out)
  unfolding save.save_call
  save_refused = by (ok b) refl
    where
      by : (k : Bool) → ok b ≡ k → Kept (cond k (save.save_packed (handed_of (unpacked b) out)) (save.gave (Err NotWhole) b out))
      by true e = kept e
      by false e = λ _. refl

-- ---- load: after 61, 62 and 63 every byte is zero, after 31 they are as they were

abbrev pub loaded_number : Result Loaded (InBytes LoadRefusal) → ℕ
loaded_number = number_in (made.in_bytes_number (λ refusal. load_number (Err refusal)))

module _ (b : List ℕ) where
  abbrev Cleared : load.LoadCall → Type 0
  Cleared c = (loaded_number c.told ≡ 0 → ⊥) → (loaded_number c.told ≡ 31 → ⊥) → c.bytes ≡ replicate (length b) 0

  abbrev Left : load.LoadCall → Type 0
  Left c = loaded_number c.told ≡ 31 → c.bytes ≡ b

  cleared : (r : Result Loaded LoadRefusal) (a : Association) → Cleared (load.by_answer b r a)
  cleared (Ok said) a = either Cleared (eqb (length b) (92 + a.settings.capacity * 726)) (λ _ z _. absurd (z refl)) (λ _ _ z. absurd (z refl))
  cleared (Err refusal) a = λ _ _. refl

  left : (r : Result Loaded LoadRefusal) (a : Association) → Left (load.by_answer b r a)
  left (Ok said) a = either Left (eqb (length b) (92 + a.settings.capacity * 726)) (λ _ z. absurd (omega (arith, z))) (λ _ _. refl)
  left (Err L.WrongMark) a = λ z. absurd (omega (arith, z))
  left (Err L.WrongLength) a = λ z. absurd (omega (arith, z))
  left (Err L.NoAssociation) a = λ z. absurd (omega (arith, z))

  -- promise: exports.4
  pub load_refused : (file : List ℕ) → Cleared (load.loaded_by b (load_of file))
  load_refused file = cleared (load_of file).answer (load_of file).association

  -- promise: exports.4
  pub load_wrong_size : (file : List ℕ) → Left (load.loaded_by b (load_of file))
  load_wrong_size file = left (load_of file).answer (load_of file).association

-- the file of a whole record loads as that record, with nothing sent, into bytes that are as many as its capacity asks for
-- promise exports.6: The file of a whole record loads as that record, with nothing sent.
pub handed_over : (a : Association) → Whole a → Fit a → (b : List ℕ) → length b ≡ 92 + a.settings.capacity * 726 →
    load.loaded_by b (load_of (file_of a)) ≡ load.gave (Ok (record { retired = false })) (packed (unsent a))
unfolding unsent
handed_over a w f b e =
    ap (load.loaded_by b) (read_file a w f)
    ∙ when (load.gave (Ok (record { retired = false })) (packed (unsent a))) (load.gave (Err B.WrongSize) b) (eq-eqb _ _ e)

-- ---- what is written to a buffer: on every number but 0 nothing

unlisted : (list out : List ℕ) (c : Result ℕ CollectRefusal) → ((collected_as c).number ≡ 0 → ⊥) → collector.left_in list out c ≡ out
unlisted list out (Ok n) z = absurd (z refl)
unlisted list out (Err refusal) z = refl

-- promise: exports.10
pub collect_refused : (decrypted out : List ℕ) → ((collected_as (collector.collect_of decrypted (length out))).number ≡ 0 → ⊥) →
    collector.buffer_of decrypted out ≡ out
unfolding collector.buffer_of
collect_refused decrypted out z = unlisted (collector.list_in decrypted) out (collector.collect_of decrypted (length out)) z

unsent_packet : (packet out : List ℕ) (r : Result ℕ RequestRefusal) → ((requested_as r).number ≡ 0 → ⊥) → request.left_in packet out r ≡ out
unsent_packet packet out (Ok n) z = absurd (z refl)
unsent_packet packet out (Err refusal) z = refl

-- promise: exports.10
pub request_refused : (kind : SendKind) (poll : PollInterval) (id mark : ℕ) (uid cookie : List ℕ) (asked : ℕ) (out : List ℕ)
    → ((requested_as (request.request_of kind poll id mark uid cookie asked (length out))).number ≡ 0 → ⊥) →
    request.buffer_of kind poll id mark uid cookie asked out ≡ out
unfolding request.buffer_of
request_refused kind poll id mark uid cookie asked out z =
    unsent_packet (request-spec.packet_of kind poll id mark uid cookie asked) out (request.request_of kind poll id mark uid cookie asked (length out)) z
