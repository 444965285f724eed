-- The bridge from the code to the machine: any run of the code's calls over a lent association, each of which keeps its contract, is the machine's run.
-- A contract is the one that the checker reads off the source of `timer::timer` and of `reply::reply`, the latter at any form of a reply.
-- Assumes nothing.
use mathlib.Core.Path.{◌≡◌, refl, ap, ◌∙◌}
use mathlib.Core.List.{List, [], ◌∷◌}
use mir.Syntax.{Dict}
use denote.RattleType.{RattleType}
use denote.Param.Laws.{Laws, IsCopy}
use contract.Lifetimes.{Lfts}
use denote.Triple.Clauses.{AtExit}
use borrow.Fn.World.{ArgsD, ResD}
use Prim.Native.Nat.{ℕ}
use Rattle.association.specs.declared.Settings.{Settings}
use Rattle.association.specs.declared.Pending.{Pending}
use Rattle.association.specs.declared.Association.{Association}
use Rattle.association.specs.New.{new_of}
use Rattle.timer.specs.Timer.{Timed}
use Rattle.timer.specs.contracts.timer as T
use Rattle.timer.proofs.Determined.{TimerPost}
use Rattle.std.specs.declared.clone.Clone as clone
use Rattle.wire_incoming.specs.declared.DecodedReply.{DecodedReply}
use Rattle.reply_clauses.specs.After.{Arrival, arrival}
use Rattle.reply.specs.Reply.{replied_of}
use Rattle.reply_rules.specs.declared.Form as form
use Rattle.reply_rules.specs.declared.Packet.{Packet}
use Rattle.reply_rules.specs.Form.{read_packet, read_decoded}
use Rattle.reply.proofs.reply.Reads as R
use Rattle.laws_log.specs.Log.{Accepted}
use Rattle.laws_log.specs.Machine.{Call, timer, reply, Done, of_timer, of_reply, logged, run, after, log_of}
use Rattle.laws_log.specs.Demand.{Demand3}
use Rattle.laws_log.specs.Why.{Why}
use Rattle.laws.specs.Association.{TimerIn, ReplyIn, bytes, decoded, arrival_of, read_as, rule, machine}
use Rattle.laws.proofs.NewDemand.{association_demand3, association_why}

-- the inputs of a call, as the log holds them
abbrev timer_in : (κs : Lfts 2) → ArgsD T.signature κs → TimerIn
timer_in κs x = record { poll = x.1.0; buffer = x.1.1.0.now }

-- a run of calls: the record that is lent, the inputs, what was answered, and the record at the end; what a call leaves is what the next one is lent
pub data Ran : Association → List (Call rule) → List (Done machine) → Association → Type 2 where
  done : {a : Association} → Ran a [] [] a
  timed :
      {cs : List (Call rule)} {ds : List (Done machine)} {b : Association} (κs : Lfts 2) (x : ArgsD T.signature κs) (y : ResD T.signature κs)
      (e : AtExit T.ended κs) →
      TimerPost κs x y e → Ran e.0.now cs ds b →
      Ran x.0.now (timer (timer_in κs x) ∷ cs) (of_timer (timer_in κs x) (y, e.1.1.0.now) ∷ ds) b
  -- of a form that says what the reply of the log says: its bytes, or its decoded value
  replied :
      {cs : List (Call rule)} {ds : List (Done machine)} {b : Association} (F : RattleType) (laws : Laws F) (copy : IsCopy F) (reads : form.Ghosts F.Denot)
      (by : Dict) (clones : clone.Ghosts F.Denot) (with : Dict) (κs : _) (x : _) (y : _) (e : _) →
      R.Post F laws copy reads by clones with κs x y e →
      (r : ReplyIn) → reads.read x.1.0 x.0.now.settings.nts x.0.now.state.request.uid ≡ read_as x.0.now.settings x.0.now.state.request r →
      arrival x.1.1.0.now x.1.1.1.0.t1 x.1.1.1.0.t4 x.1.1.1.0.time ≡ arrival_of r →
      Ran e.0.now cs ds b → Ran x.0.now (reply r ∷ cs) (of_reply r y ∷ ds) b

-- so is a call on a packet's bytes, and one on a decoded reply: what is read there is what such a reply of the log says
-- promise: demand.3
pub packet_is_read : (p : Packet) (s : Settings) (q : Pending) (t : Arrival) →
    read_packet p s.nts q.uid ≡ read_as s q (bytes p.packet.now p.end p.decrypted.now t)
packet_is_read p s q t = refl

-- promise: demand.3
pub decoded_is_read : (d : DecodedReply) (s : Settings) (q : Pending) (t : Arrival) → read_decoded d s.nts q.uid ≡ read_as s q (decoded d t)
decoded_is_read d s q t = refl

-- one call more in front
turn : {X : Type 0} (made : X → Done machine) {x x' : X} {a a' b : Association} (cs : List (Call rule)) {ds : List (Done machine)} →
    x ≡ x' → a ≡ a' → (ds ≡ run machine a cs) × (b ≡ after machine a cs) → (made x ∷ ds ≡ made x' ∷ run machine a' cs) × (b ≡ after machine a' cs)
turn made cs p q k = (λ i. made (p i) ∷ (k.0 ∙ ap (λ (z : Association). run machine z cs) q) i, k.1 ∙ ap (λ (z : Association). after machine z cs) q)

-- promise: demand.3 (a run of the code's calls is the machine's run)
pub ran_is_run : {a b : Association} {cs : List (Call rule)} {ds : List (Done machine)} → Ran a cs ds b → (ds ≡ run machine a cs) × (b ≡ after machine a cs)
ran_is_run done = (refl, refl)
ran_is_run (timed {cs} κs x y e p rest) =
    turn (of_timer (timer_in κs x)) cs (ap (λ (z : Timed). (z.gives.answer, z.left)) p) (ap (λ (z : Timed). z.gives.association) p) (ran_is_run rest)
ran_is_run (replied {cs} F laws copy reads by clones with κs x y e p r says came rest) =
    turn (of_reply r) cs
    (p.0 ∙ (λ i. (replied_of x.0.now (says i) (came i)).replied))
    (p.1 ∙ (λ i. (replied_of x.0.now (says i) (came i)).association))
    (ran_is_run rest)

-- demand 3 of the code: a run of its calls from what `new` made, with accepted timers and well-formed replies, is a run of which demand 3 holds
-- promise: no3.6, demand.3 (of the code's calls)
pub code_demand3 : (s : Settings) (list : List ℕ) {b : Association} {cs : List (Call rule)} {ds : List (Done machine)} →
    let a = (new_of s list).association in
    Ran a cs ds b → Accepted (logged machine ds) → (ds ≡ run machine a cs) × (b ≡ after machine a cs) × Demand3 machine a cs
code_demand3 s list {cs} r ok =
    let k = ran_is_run r in
    (k.0, k.1, association_demand3 s list cs (rw k.0 at ok))

-- No. 3 of the code: of any run of its calls from what `new` made, the log says why a reply had no live request
-- promise: no3.5 (of a run of the code's calls)
pub code_why : (s : Settings) (list : List ℕ) {b : Association} {cs : List (Call rule)} {ds : List (Done machine)} →
    let a = (new_of s list).association in
    Ran a cs ds b → (logged machine ds ≡ log_of machine a cs) × Why machine a cs
code_why s list {cs} r = (ap (logged machine) (ran_is_run r).0, association_why s list cs)
