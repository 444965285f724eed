-- Each public function's contract determines its result: any two that it allows are equal.
-- Assumes nothing.
use mathlib.Core.Path.{sym, ◌∙◌, ◌≡◌, refl, ap₂}
use Rattle.words.specs.Determined.{Determined, DeterminedContents, PostOf}
use Rattle.wire_fields.proofs.packet_field_at.Reads as packet-field-at
use Rattle.wire_fields.proofs.decrypted_field_at.Reads as decrypted-field-at
use Rattle.wire_fields.proofs.packet_walk.Reads as packet-walk
use Rattle.wire_fields.proofs.decrypted_walk.Reads as decrypted-walk
use Rattle.wire_fields.proofs.is_place.Reads as is-place
use Rattle.wire_fields.proofs.Fields.packet.Reads as fields-packet
use Rattle.wire_fields.proofs.Fields.decrypted.Reads as fields-decrypted
use Rattle.wire_fields.specs.Walk.{Walk}
use Rattle.wire_fields.specs.Fields.{Told, fields_left, walk_left}
use Rattle.wire_fields.specs.declared.Fields.{Fields}
use mathlib.Core.List.{List}
use Prim.Native.Nat.{ℕ}
use contract.Lifetimes.{Lfts}
use denote.Ref.{Bor}
use denote.Triple.Clauses.{AtExit}
use borrow.Fn.Read.{all_models, r_last}
use borrow.Fn.World.{ArgsD, ResD}
use Rattle.wire_fields.specs.Walker.{IsBody}
use Rattle.wire_fields.proofs.walker.body_at.Reads as body_at
use Rattle.wire_fields.proofs.walker.first.Reads as first
use Rattle.wire_fields.specs.contracts.walker.Walker.new as new
use Rattle.wire_fields.specs.contracts.walker.Walker.step as step
use Rattle.wire_fields.specs.contracts.walker.Walker.body as body

pub packet_field_at_determined : Determined packet-field-at.Post
packet_field_at_determined κs a y z e f p q = p ∙ sym q

pub decrypted_field_at_determined : Determined decrypted-field-at.Post
decrypted_field_at_determined κs a y z e f p q = p ∙ sym q

pub packet_walk_determined : Determined packet-walk.Post
packet_walk_determined κs a y z e f p q = p ∙ sym q

pub decrypted_walk_determined : Determined decrypted-walk.Post
decrypted_walk_determined κs a y z e f p q = p ∙ sym q

pub is_place_determined : Determined is-place.Post
is_place_determined κs a y z e f p q = p ∙ sym q

-- what an iterator is to its reader: the fields to come, and how their walk goes on
abbrev read : Fields → List Told × Walk
read it = (fields_left it, walk_left it)

pub fields_packet_determined : DeterminedContents fields-packet.Post (λ κs it. read it)
fields_packet_determined κs a y z e f p q = λ i. ((p.0 ∙ sym q.0) i, (p.1 ∙ sym q.1) i)

pub fields_decrypted_determined : DeterminedContents fields-decrypted.Post (λ κs it. read it)
fields_decrypted_determined κs a y z e f p q = λ i. ((p.0 ∙ sym q.0) i, (p.1 ∙ sym q.1) i)

-- what is told of a slice: where it lies, a block and an offset, and its bytes
abbrev Placed : Type 0
Placed = (ℕ × ℕ) × List ℕ

abbrev told : Bor (List ℕ) → Placed
told y = (y.ref_ptr, y.now)

same_told : (x : Bor (List ℕ)) (start len : ℕ) (y z : Bor (List ℕ)) → IsBody x start len y → IsBody x start len z → told y ≡ told z
same_told x start len y z p q =
    ap₂ (λ a b. (a, b)) (ap₂ (λ a b. (a, b)) (p.block ∙ sym q.block) (p.offset ∙ sym q.offset)) (p.bytes ∙ sym q.bytes)

pub body_at_determined : DeterminedContents body_at.Post (λ κs y. told y)
body_at_determined κs a y z e f p q = same_told _ _ _ y z p q

pub first_determined : Determined first.Post
first_determined κs a y z e f p q = p ∙ sym q

-- ---- the walker's methods

abbrev NewPost : (κs : Lfts 1) → ArgsD new.signature κs → ResD new.signature κs → AtExit new.ended κs → Type 0
NewPost =
    PostOf new.ended (λ w. new.clauses w.𝓛 w.𝓜.mem w.𝓡.run) (λ w κs a. tt)
    (λ κs a y e. all_models _ (λ w. r_last _) (λ w. refl) (λ w. refl) (λ w. refl))

abbrev StepPost : (κs : Lfts 1) → ArgsD step.signature κs → ResD step.signature κs → AtExit step.ended κs → Type 0
StepPost =
    PostOf step.ended (λ w. step.clauses w.𝓛 w.𝓜.mem w.𝓡.run) (λ w κs a. tt)
    (λ κs a y e. all_models _ (λ w. r_last _) (λ w. refl) (λ w. refl) (λ w. refl))

abbrev BodyPost : (κs : Lfts 1) → ArgsD body.signature κs → ResD body.signature κs → AtExit body.ended κs → Type 0
BodyPost =
    PostOf body.ended (λ w. body.clauses w.𝓛 w.𝓜.mem w.𝓡.run) (λ w κs a. tt)
    (λ κs a y e. all_models _ (λ w. r_last _) (λ w. refl) (λ w. refl) (λ w. refl))

pub new_determined : Determined NewPost
new_determined κs a y z e f p q = p ∙ sym q

pub step_determined : Determined StepPost
step_determined κs a y z e f p q = p ∙ sym q

pub body_determined : DeterminedContents BodyPost (λ κs y. told y)
body_determined κs a y z e f p q = same_told _ _ _ y z p q
