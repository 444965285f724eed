-- The state in its 63 bytes: what is written has its length, is of a kind and is read back; and the other way round.
-- Assumes nothing.
use Prim.Native.Nat.{ℕ, ◌+◌}
use mathlib.Core.Path.{◌≡◌, refl, sym, ap, ◌∙◌}
use mathlib.Core.Bool.{true, ◌&&◌}
use mathlib.Core.List.{List, ◌∷◌, ◌++◌, append-nil}
use native.Mathlib.Omega.{arith}
use lib.ListN.{length, get_or, drop, drop_of_length-le}
use lib.Seq.{drop-cons, take_all}
use Rattle.words.specs.Bytes.{part}
use Rattle.words.proofs.Bytes.{Bytes, part_drop, bytes_part, length_part, word, word_again}
use Rattle.words.proofs.Tests.{both}
use Rattle.association.specs.declared.Pending.{Pending}
use Rattle.association.specs.declared.State.{State}
use Rattle.handover_groups.specs.State.{version_bytes, version_of, version_known, polls_bytes, polls_of, source_bytes, source_of, source_known}
use Rattle.handover_groups.proofs.OfCodes.{yes_kept, yes_again}
use Rattle.handover_groups.proofs.OfState.{version_back, version_known_lem, version_again, polls_back, polls_again, source_back, source_known_lem, source_again}
use Rattle.record_bytes.specs.State.{tries_bytes, tries_of, pending_bytes, pending_of, pending_known, state_bytes, state_of, state_known, PendingFit, StateFit}

-- ---- what is written is read back

pub pending_back : (p : Pending) → PendingFit p → pending_of (pending_bytes p) ≡ p
unfolding pending_of pending_bytes part
pending_back p f =
    rw (
      (yes_kept p.present).0,
      (yes_kept p.answered).0,
      word 8 p.id f.id,
      word 8 p.deadline f.deadline,
      take_all 32 p.uid
          (omega (arith, f.uid)),
    )

pub pending_known_lem : (p : Pending) → pending_known (pending_bytes p) ≡ true
unfolding pending_known pending_bytes
pending_known_lem p = rw ((yes_kept p.present).1, (yes_kept p.answered).1)

pub pending_long : (p : Pending) → length p.uid ≡ 32 → length (pending_bytes p) ≡ 50
unfolding pending_bytes
pending_long p n = omega (arith, n)

-- a group, read out of the groups
module _ (s : State) where
  the_version : part (state_bytes s) 3 2 ≡ version_bytes s.version
  unfolding state_bytes tries_bytes version_bytes part
  the_version = refl

  the_polls : part (state_bytes s) 5 2 ≡ polls_bytes s.polls
  unfolding state_bytes tries_bytes version_bytes polls_bytes part
  the_polls = refl

  the_source : part (state_bytes s) 7 6 ≡ source_bytes s.source
  unfolding state_bytes tries_bytes version_bytes polls_bytes source_bytes part
  the_source = refl

  the_request : length s.request.uid ≡ 32 → part (state_bytes s) 13 50 ≡ pending_bytes s.request
  unfolding state_bytes tries_bytes version_bytes polls_bytes source_bytes part
  the_request n = take_all 50 (pending_bytes s.request) (omega (arith, pending_long s.request n))

  tries_back : tries_of (part (state_bytes s) 0 3) ≡ s.effort
  unfolding tries_of state_bytes tries_bytes part
  tries_back = refl

  pub state_back : StateFit s → state_of (state_bytes s) ≡ s
  unfolding state_of
  state_back f = λ i.
      record {
        effort = tries_back i;
        version = (ap version_of the_version ∙ version_back s.version) i;
        polls = (ap polls_of the_polls ∙ polls_back s.polls (record { last = f.last; remote = f.remote })) i;
        source = (ap source_of the_source ∙ source_back s.source f.refid) i;
        request = (ap pending_of (the_request f.request.uid) ∙ pending_back s.request f.request) i;
      }

  pub state_known_lem : length s.request.uid ≡ 32 → state_known (state_bytes s) ≡ true
  unfolding state_known
  state_known_lem n = rw (the_version, version_known_lem s.version, the_source, source_known_lem s.source, the_request n, pending_known_lem s.request)

  pub state_long : length s.request.uid ≡ 32 → length (state_bytes s) ≡ 63
  unfolding state_bytes tries_bytes version_bytes polls_bytes source_bytes
  state_long n = omega (arith, pending_long s.request n)

-- ---- what is read is written as it was

three : (b : List ℕ) → length b ≡ 3 → tries_bytes (tries_of b) ≡ b
unfolding tries_bytes tries_of
three b n =
    ap (λ (l : List ℕ). get_or b 0 0 ∷ get_or b 1 0 ∷ get_or b 2 0 ∷ l) (sym (drop_of_length-le b {i = 3} (omega arith)))
    ∙ ap (λ (l : List ℕ). get_or b 0 0 ∷ get_or b 1 0 ∷ l) (sym (drop-cons b 2 0 (omega arith)))
    ∙ ap (λ (l : List ℕ). get_or b 0 0 ∷ l) (sym (drop-cons b 1 0 (omega arith)))
    ∙ sym (drop-cons b 0 0 (omega arith))

end : (b : List ℕ) (at n : ℕ) → length b ≡ at + n → part b at n ≡ drop at b
end b at n e = sym (append-nil (part b at n)) ∙ ap (λ (l : List ℕ). part b at n ++ l) (sym (drop_of_length-le b {i = at + n} (omega arith))) ∙ part_drop b at n

pub pending_again : (b : List ℕ) → length b ≡ 50 → Bytes b → pending_known b ≡ true → pending_bytes (pending_of b) ≡ b
unfolding pending_of pending_bytes pending_known
pending_again b n y e =
    let k = both _ _ e in
    let present = yes_again (get_or b 0 0) k.0 in
    let answered = yes_again (get_or b 1 0) k.1 in
    let id = word_again b 2 8 y (omega arith) in
    let deadline = word_again b 10 8 y (omega arith) in
    (λ i. present i ∷ answered i ∷ (id i ++ (deadline i ++ end b 18 32 (omega arith) i)))
    ∙ ap (λ (l : List ℕ). get_or b 0 0 ∷ get_or b 1 0 ∷ (part b 2 8 ++ l)) (part_drop b 10 8)
    ∙ ap (λ (l : List ℕ). get_or b 0 0 ∷ get_or b 1 0 ∷ l) (part_drop b 2 8)
    ∙ ap (λ (l : List ℕ). get_or b 0 0 ∷ l) (sym (drop-cons b 1 0 (omega arith)))
    ∙ sym (drop-cons b 0 0 (omega arith))

pub state_again : (b : List ℕ) → length b ≡ 63 → Bytes b → state_known b ≡ true → state_bytes (state_of b) ≡ b
unfolding state_of state_bytes state_known
state_again b n y e =
    let k = both (version_known (part b 3 2)) (source_known (part b 7 6) && pending_known (part b 13 50)) e in
    let l = both (source_known (part b 7 6)) (pending_known (part b 13 50)) k.1 in
    let tries = three (part b 0 3) (length_part b 0 3 (omega arith)) in
    let version = version_again (part b 3 2) (length_part b 3 2 (omega arith)) k.0 in
    let polls = polls_again (part b 5 2) (length_part b 5 2 (omega arith)) (bytes_part b 5 2 y) in
    let source = source_again (part b 7 6) (length_part b 7 6 (omega arith)) (bytes_part b 7 6 y) l.0 in
    let request = pending_again (part b 13 50) (length_part b 13 50 (omega arith)) (bytes_part b 13 50 y) l.1 in
    (λ i. tries i ++ (version i ++ (polls i ++ (source i ++ request i))))
    ∙ ap (λ (x : List ℕ). part b 0 3 ++ (part b 3 2 ++ (part b 5 2 ++ (part b 7 6 ++ x)))) (end b 13 50 (omega arith))
    ∙ ap (λ (x : List ℕ). part b 0 3 ++ (part b 3 2 ++ (part b 5 2 ++ x))) (part_drop b 7 6)
    ∙ ap (λ (x : List ℕ). part b 0 3 ++ (part b 3 2 ++ x)) (part_drop b 5 2)
    ∙ ap (λ (x : List ℕ). part b 0 3 ++ x) (part_drop b 3 2)
    ∙ part_drop b 0 3
