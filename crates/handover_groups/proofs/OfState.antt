-- The records of effort, version, polls and source: what is written has its length, is of a kind and is read back; and the other way round.
-- Assumes nothing.
use Prim.Native.Nat.{ℕ, suc, ◌^◌, ◌<◌}
use mathlib.Core.Path.{◌≡◌, refl, sym, ap, ◌∙◌}
use mathlib.Core.Bool.{true}
use mathlib.Core.List.{List, [], ◌∷◌, ◌++◌}
use native.Mathlib.Omega.{arith}
use lib.ListN.{length, get_or, drop, drop_of_length-le}
use lib.Seq.{drop-cons}
use mir.Syntax.{w8}
use mir.Val.{SFits}
use Rattle.words.specs.Bytes.{part}
use Rattle.words.proofs.Bytes.{Bytes, part_drop, word, word_again}
use Rattle.words.proofs.Readings.{signed_unsigned, unsigned_signed}
use Rattle.reach.specs.Register.{unanswered_of}
use Rattle.version.specs.declared.Version.{Version}
use Rattle.association.specs.declared.Effort.{Effort}
use Rattle.association.specs.declared.Polls.{Polls}
use Rattle.association.specs.declared.Source.{Source}
use Rattle.handover_groups.specs.State.{
  effort_bytes,
  effort_of,
  version_bytes,
  version_of,
  version_known,
  polls_bytes,
  polls_of,
  source_bytes,
  source_of,
  source_known,
}
use Rattle.handover_groups.proofs.OfCodes.{yes_kept, yes_again, kind_kept, kind_again}

-- a byte, and what follows it
first : (b : List ℕ) (i : ℕ) → i < length b → get_or b i 0 ∷ drop (suc i) b ≡ drop i b
first b i h = sym (drop-cons b i 0 h)

-- two bytes, one by one
two : (b : List ℕ) → length b ≡ 2 → get_or b 0 0 ∷ get_or b 1 0 ∷ [] ≡ b
two b n =
    ap (λ (l : List ℕ). get_or b 0 0 ∷ get_or b 1 0 ∷ l) (sym (drop_of_length-le b {i = 2} (omega arith)))
    ∙ ap (λ (l : List ℕ). get_or b 0 0 ∷ l) (first b 1 (omega arith))
    ∙ first b 0 (omega arith)

-- ---- effort

-- whatever the bytes are, the unanswered polls are those of reach; so they are read back where they were
-- promise: no8.8
pub effort_counted : (b : List ℕ) → (effort_of b).unanswered ≡ unanswered_of (effort_of b).reach
unfolding effort_of
effort_counted b = refl

-- promise: no6.1, no8.8
pub effort_back : (e : Effort) → e.unanswered ≡ unanswered_of e.reach → effort_of (effort_bytes e) ≡ e
unfolding effort_of effort_bytes
effort_back e h = λ i. record { reach = e.reach; tries = e.tries; unanswered = sym h i }

-- promise: no6.1
pub effort_long : (e : Effort) → length (effort_bytes e) ≡ 2
unfolding effort_bytes
effort_long e = refl

pub effort_again : (b : List ℕ) → length b ≡ 2 → effort_bytes (effort_of b) ≡ b
unfolding effort_of effort_bytes
effort_again b n = two b n

-- ---- version

-- promise: no6.1
pub version_back : (v : Version) → version_of (version_bytes v) ≡ v
unfolding version_of version_bytes
version_back v = rw (kind_kept v.kind).0

pub version_known_lem : (v : Version) → version_known (version_bytes v) ≡ true
unfolding version_known version_bytes
version_known_lem v = (kind_kept v.kind).1

-- promise: no6.1
pub version_long : (v : Version) → length (version_bytes v) ≡ 2
unfolding version_bytes
version_long v = refl

pub version_again : (b : List ℕ) → length b ≡ 2 → version_known b ≡ true → version_bytes (version_of b) ≡ b
unfolding version_of version_bytes version_known
version_again b n e = let v = kind_again (get_or b 0 0) (get_or b 1 0) e in rw (v.0, v.1) (two b n)

-- ---- polls

-- what the types say of poll values
pub record PollsFit (p : Polls) : Type 0 where
  pub last : SFits w8 p.last.0
  pub remote : SFits w8 p.remote.0

-- promise: no6.1
pub polls_back : (p : Polls) → PollsFit p → polls_of (polls_bytes p) ≡ p
unfolding polls_of polls_bytes
polls_back p f = rw (signed_unsigned w8 p.last.0 f.last, signed_unsigned w8 p.remote.0 f.remote)

-- promise: no6.1
pub polls_long : (p : Polls) → length (polls_bytes p) ≡ 2
unfolding polls_bytes
polls_long p = refl

pub polls_again : (b : List ℕ) → length b ≡ 2 → Bytes b → polls_bytes (polls_of b) ≡ b
unfolding polls_of polls_bytes
polls_again b n y = rw (unsigned_signed w8 (get_or b 0 0) (y 0), unsigned_signed w8 (get_or b 1 0) (y 1)) (two b n)

-- ---- source

-- promise: no6.1
pub source_back : (s : Source) → s.refid.0 < 2 ^ 32 → source_of (source_bytes s) ≡ s
unfolding source_of source_bytes part
source_back s h = rw (word 4 s.refid.0 h, (yes_kept s.denial).0)

pub source_known_lem : (s : Source) → source_known (source_bytes s) ≡ true
unfolding source_known source_bytes
source_known_lem s = (yes_kept s.denial).1

-- promise: no6.1
pub source_long : (s : Source) → length (source_bytes s) ≡ 6
unfolding source_bytes
source_long s = refl

pub source_again : (b : List ℕ) → length b ≡ 6 → Bytes b → source_known b ≡ true → source_bytes (source_of b) ≡ b
unfolding source_of source_bytes source_known
source_again b n y e =
    let refid = word_again b 1 4 y (omega arith) in
    let denial = yes_again (get_or b 5 0) e in
    (λ i. get_or b 0 0 ∷ (refid i ++ (denial i ∷ [])))
    ∙ ap (λ (l : List ℕ). get_or b 0 0 ∷ (part b 1 4 ++ (get_or b 5 0 ∷ l))) (sym (drop_of_length-le b {i = 6} (omega arith)))
    ∙ ap (λ (l : List ℕ). get_or b 0 0 ∷ (part b 1 4 ++ l)) (first b 5 (omega arith))
    ∙ ap (λ (l : List ℕ). get_or b 0 0 ∷ l) (part_drop b 1 4)
    ∙ first b 0 (omega arith)
