-- Where the parts of the head of a record stand in it, and that the head alone says what a record's settings and state are.
-- Assumes nothing.
use Prim.Native.Nat.{ℕ, ◌+◌, ◌-◌, ◌<◌, ◌≤◌}
use mathlib.Core.Path.{◌≡◌, sym, ap, ◌∙◌}
use mathlib.Core.Bool.{◌&&◌}
use mathlib.Core.List.{List}
use native.Mathlib.Omega.{arith}
use lib.ListN.{get_or, take, drop}
use lib.Seq.{drop-drop, get_or-drop}
use Rattle.std.proofs.lemmas.List.{get_or-take, drop-take, take-take}
use Rattle.words.specs.Bytes.{be, part}
use Rattle.handover_groups.specs.Codes.{yes_of, yes_known}
use Rattle.handover_groups.specs.State.{version_of, version_known, polls_of, source_of, source_known}
use Rattle.record_bytes.specs.State.{tries_of, pending_of, pending_known, state_of, state_known}
use Rattle.record_bytes.specs.Record.{state_in, opened}

-- a byte of a part, and a part of a part
get_part : (b : List ℕ) (at n i : ℕ) → i < n → get_or (part b at n) i 0 ≡ get_or b (at + i) 0
unfolding part
get_part b at n i h = get_or-take n (drop at b) i 0 h ∙ get_or-drop at b i 0

part_part : (b : List ℕ) (at n i m : ℕ) → i + m ≤ n → part (part b at n) i m ≡ part b (at + i) m
unfolding part
part_part b at n i m h =
    let k : i + (n - i) ≡ n = omega arith in
    ap (λ (j : ℕ). take m (drop i (take j (drop at b)))) (sym k)
    ∙ ap (take m) (drop-take i (n - i) (drop at b))
    ∙ take-take m (n - i) (drop i (drop at b)) (omega arith)
    ∙ ap (take m) (drop-drop i at b)

-- the state, part by part
pub state_parts : (b : List ℕ) →
    state_in b ≡ record {
      effort = record { reach = record { 0 = get_or b 29 0 }; tries = get_or b 30 0; unanswered = get_or b 31 0 };
      version = version_of (part b 32 2);
      polls = polls_of (part b 34 2);
      source = source_of (part b 36 6);
      request =
          record {
            present = yes_of (get_or b 42 0);
            id = be (part b 44 8);
            uid = part b 60 32;
            deadline = be (part b 52 8);
            answered = yes_of (get_or b 43 0);
          };
    }
unfolding state_of tries_of pending_of
state_parts b =
    simp (
      part_part b 29 63 0 3 (omega arith),
      get_part b 29 3 0 (omega arith),
      get_part b 29 3 1 (omega arith),
      get_part b 29 3 2 (omega arith),
      part_part b 29 63 3 2 (omega arith),
      part_part b 29 63 5 2 (omega arith),
      part_part b 29 63 7 6 (omega arith),
      part_part b 29 63 13 50 (omega arith),
      get_part b 42 50 0 (omega arith),
      get_part b 42 50 1 (omega arith),
      part_part b 42 50 2 8 (omega arith),
      part_part b 42 50 10 8 (omega arith),
      part_part b 42 50 18 32 (omega arith),
    )

-- and the codes in it
pub known_parts : (b : List ℕ) → state_known (part b 29 63)
    ≡ (version_known (part b 32 2) && (source_known (part b 36 6) && (yes_known (get_or b 42 0) && yes_known (get_or b 43 0))))
unfolding state_known pending_known
known_parts b =
    simp (
      part_part b 29 63 3 2 (omega arith),
      part_part b 29 63 7 6 (omega arith),
      part_part b 29 63 13 50 (omega arith),
      get_part b 42 50 0 (omega arith),
      get_part b 42 50 1 (omega arith),
    )

-- a part of the head of bytes is a part of the bytes
pub head_part : (b : List ℕ) (i m : ℕ) → i + m ≤ 92 → part (take 92 b) i m ≡ part b i m
unfolding part
head_part b i m h = part_part b 0 92 i m h ∙ ap (λ (k : ℕ). part b k m) (omega arith)

-- the head of bytes holds what the bytes hold
pub head_opened : (b : List ℕ) → opened (take 92 b) ≡ opened b
head_opened b = simp (head_part b 0 27 (omega arith), head_part b 29 63 (omega arith))
