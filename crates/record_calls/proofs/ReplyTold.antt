-- The parts of the reply on lent bytes do what the definition says.
-- Assumes nothing.
use Prim.Native.Nat.{ℕ}
use mathlib.Core.Path.{◌≡◌, refl, sym, ap, subst, ◌∙◌}
use mathlib.Core.Bool.{Bool, true, false, ◌&&◌, cond}
use mathlib.Core.List.{List}
use Rattle.words.proofs.Bytes.{Bytes}
use Rattle.words.proofs.Tests.{when, unless}
use Rattle.cookiestash.specs.declared.Seen.{Seen}
use Rattle.cookiestash.specs.Falling.{none_dropped}
use Rattle.cookiestash.specs.Whole.{seen_of}
use Rattle.association.specs.declared.Association.{Association}
use Rattle.association.specs.declared.Settings.{Settings}
use Rattle.association.specs.declared.State.{State}
use Rattle.association.specs.Record.{with_state, whole_of}
use Rattle.std.specs.Prelude.{Option, Some, None}
use Rattle.wire_incoming.specs.declared.Reply.{Reply}
use Rattle.reply_clauses.specs.After.{Arrival}
use Rattle.reply_rules.specs.declared.Verdict.{Verdict}
use Rattle.reply_rules.specs.declared.ReplyAnswer.TheVariants.{Undecodable, NotWhole}
use Rattle.reply_rules.specs.Judge.{leaves, verdict_of}
use Rattle.reply.specs.declared.Replied.{Replied}
use Rattle.reply.specs.Reply.{judged, replied_of}
use Rattle.record_stash.specs.Slots.{seen_in}
use Rattle.record_stash.proofs.With.{of_sized, seen_is}
use Rattle.record_bytes.specs.declared.Opened.{Opened}
use Rattle.record_bytes.specs.State.{StateFit}
use Rattle.record_bytes.specs.Record.{settings_in, ok, unpacked, opened, opened_of, stored_state}
use Rattle.record_bytes.proofs.RoundTrip.{bytes_again}
use Rattle.record_bytes.proofs.Lies.{opened_lies, state_lies, refills}
use Rattle.record_bytes.proofs.Writes.{found, none_found}
use Rattle.record_calls.specs.Reply.{gave, no_record, reply_packed, answered, replied_call, settled_in}

-- what was seen of a record, judged, left and fell out is the reply by value
by_value : (a : Association) (read : Option Reply) (t : Arrival) (rs : Seen) (v : Verdict) → rs ≡ seen_of a.settings.capacity a.stash →
    v ≡ verdict_of a.settings a.state rs read t →
    judged a t.list v ≡ replied_of a read t
unfolding replied_of
by_value a read t rs v es ev = ap (judged a t.list) (ev ∙ ap (λ (s : Seen). verdict_of a.settings a.state s read t) es)

module _ (b : List ℕ) (t : Arrival) where
  pub refused : (read : Option Reply) → None ≡ opened_of b → gave no_record b ≡ replied_call b read t
  unfolding replied_call
  refused read e = sym (unless (reply_packed (replied_of (unpacked b) read t)) (gave no_record b) (none_found b e))

  -- what is read goes by the settings and the state
  module _ (how : Settings → State → Option Reply) (y : Bytes b) (v : Verdict) (f : StateFit v.state) (rs : Seen) (p : Replied) (c : List ℕ)
      (o : ok b ≡ true) where
    abbrev Says : Opened → Type 0
    Says r = rs ≡ seen_in b r.settings.capacity → v ≡ verdict_of r.settings r.state rs (how r.settings r.state) t →
        gave p c ≡ settled_in r.settings.capacity v t.list b →
        gave p c ≡ replied_call b (how (unpacked b).settings (unpacked b).state) t

    base : Says (opened b)
    unfolding replied_call unpacked settled_in
    base es ev eg =
        let a = unpacked b in
        let cap = (settings_in b).capacity in
        let read = how a.settings a.state in
        let l = opened_lies b y o in
        let m = state_lies a b l v.state f.request.uid in
        let q = by_value a read t rs v (es ∙ seen_is cap b (of_sized b cap l.sized)) ev in
        eg
        ∙ ap (answered v.answer) (refills (with_state a v.state) (stored_state b v.state) m v.stores t.list)
        ∙ ap reply_packed q
        ∙ sym (when (reply_packed (replied_of a read t)) (gave no_record b) o)

  pub told : (how : Settings → State → Option Reply) → Bytes b → (r : Opened) → Some r ≡ opened_of b → (v : Verdict) → StateFit v.state →
      (rs : Seen) → rs ≡ seen_in b r.settings.capacity →
      v ≡ verdict_of r.settings r.state rs (how r.settings r.state) t → (p : Replied) (c : List ℕ) →
      gave p c ≡ settled_in r.settings.capacity v t.list b →
      gave p c ≡ replied_call b (how (unpacked b).settings (unpacked b).state) t
  told how y r e v f rs es ev p c eg =
      let o = found b r e in
      subst (Says how y v f rs p c o.ok) (sym o.is) (base how y v f rs p c o.ok) es ev eg

-- ---- a reply that cannot be decoded leaves the record, at any time and with any list: 1 if the record is whole, else 32

module _ (b : List ℕ) (y : Bytes b) (t : Arrival) where
  abbrev left : Bool → Verdict
  left k = cond k (leaves Undecodable (unpacked b).state) (leaves NotWhole (unpacked b).state)

  packed_left : ok b ≡ true → (k : Bool) → reply_packed (judged (unpacked b) t.list (left k))
      ≡ gave (record { answer = cond k Undecodable NotWhole; dropped = none_dropped }) b
  packed_left o true = ap (gave (record { answer = Undecodable; dropped = none_dropped })) (bytes_again b y o)
  packed_left o false = ap (gave (record { answer = NotWhole; dropped = none_dropped })) (bytes_again b y o)

  -- promise: exports.9
  pub undecodable_is : replied_call b None t
      ≡ gave (record { answer = cond (ok b && whole_of (unpacked b)) Undecodable NotWhole; dropped = none_dropped }) b
  unfolding replied_call replied_of verdict_of whole_of
  undecodable_is = by (ok b) refl
    where
      by : (k : Bool) → ok b ≡ k →
          cond k (reply_packed (replied_of (unpacked b) None t)) (gave no_record b)
          ≡ gave (record { answer = cond (k && whole_of (unpacked b)) Undecodable NotWhole; dropped = none_dropped }) b
      by true o = packed_left o (whole_of (unpacked b))
      by false o = refl
