-- How long the requests are that a timer's 20 asks for: at most 852 bytes, and a buffer of 852 holds each. Of a stash of a smaller capacity they are shorter
-- (RULES, No. 12): no more
-- cookies are asked for than the capacity.
-- Assumes nothing.
use mathlib.Core.Path.{◌≡◌, refl, sym, ap, ◌∙◌}
use mathlib.Core.Bool.{Bool, true, false, cond, ◌&&◌, not}
use mathlib.Core.List.{List}
use Prim.Native.Nat.{ℕ, ◌+◌, ◌*◌, ◌≤◌, ◌<◌, min, max}
use native.Mathlib.Nat.{le-div_iff_mul-le, mul-le-mul_right}
use native.Mathlib.Omega.{arith}
use borrow.Author.Count.{below_none, below_more}
use borrow.Author.Tests.{le-leb, le-ltb, lt-leb}
use lib.Dec.{leb}
use lib.ListN.{length, replicate}
use Rattle.std.specs.Prelude.{Ok}
use Rattle.cookiestash.specs.declared.CookieStash.{CookieStash}
use Rattle.cookiestash.specs.Stash.{get_of, gap_of}
use Rattle.cookiestash.specs.Whole.{seen_of}
use Rattle.version.specs.declared.ProtocolVersion.{ProtocolVersion}
use Rattle.version.specs.declared.ProtocolVersion.TheVariants as version
use Rattle.version.specs.declared.SendKind.{SendKind}
use Rattle.version.specs.declared.SendKind.TheVariants.{NtsV4}
use Rattle.version.specs.Send.{kind_of}
use Rattle.time_types.specs.declared.PollInterval.{PollInterval}
use Rattle.association.specs.declared.Association.{Association}
use Rattle.timer_rules.specs.declared.TimerAnswer.TheVariants.{Sent}
use Rattle.timer_rules.specs.declared.TimerInput.{TimerInput}
use Rattle.timer_rules.specs.Poll.{tried_of, asked_of}
use Rattle.timer_rules.specs.Decide.{oldest_len, asked_with}
use Rattle.timer.specs.declared.TimerOut.{TimerOut}
use Rattle.timer.specs.Timer.{timer_of}
use Rattle.timer.specs.Numbers.{Given, not_whole, short_buffer_lem, demobilize, reset, no_cookie_lem, too_large, sent, sent_nts}
use Rattle.timer.proofs.Numbers.{given}
use Rattle.wire_request.specs.Extension.{field_length}
use Rattle.wire_request.specs.Request.{is_v5, has_nts, ask_valid, packet_of}
use Rattle.wire_request.specs.Answer.{request_of}
use Rattle.wire_request.proofs.Longest.{length_nts, at_most}

-- ---- what a timer's 20 asks for

-- at least one cookie, at most as many as the capacity and as eight, and together no more than 724 bytes
pub record Modest (cap len asked : ℕ) : Type 0 where
  pub some : 1 ≤ asked
  pub few : asked ≤ 8
  pub within : asked ≤ cap
  pub room : asked * max len 1 ≤ 724

modest_short : (cap len asked : ℕ) → Modest cap len asked → len ≤ 724
modest_short cap len asked m = omega (arith, m.room, mul-le-mul_right {m = 1} {n = asked} (max len 1) m.some)

-- how many bytes the fields of as many such cookies as a capacity have at most
unfoldable pub most_of : ℕ → ℕ
most_of cap = cond (leb cap 1) 728 (cond (leb cap 2) 736 (cond (leb cap 3) 744 (cond (leb cap 6) 752 (cond (leb cap 7) 756 768))))

-- and how long the request is with them: 84 bytes for the header and the unique identifier
-- promise no12.7: What a timer asks for fits into 852 bytes at every capacity, and into fewer at a smaller one.
abbrev pub longest_of : ℕ → ℕ
longest_of cap = 84 + most_of cap

from_7 : (t : Bool) → 756 ≤ cond t 756 768
from_7 true = omega arith
from_7 false = omega arith

from_4 : (s t : Bool) → 752 ≤ cond s 752 (cond t 756 768)
from_4 true t = omega arith
from_4 false t = omega (arith, from_7 t)

from_3 : (r s t : Bool) → 744 ≤ cond r 744 (cond s 752 (cond t 756 768))
from_3 true s t = omega arith
from_3 false s t = omega (arith, from_4 s t)

from_2 : (q r s t : Bool) → 736 ≤ cond q 736 (cond r 744 (cond s 752 (cond t 756 768)))
from_2 true r s t = omega arith
from_2 false r s t = omega (arith, from_3 r s t)

from_1 : (p q r s t : Bool) → 728 ≤ cond p 728 (cond q 736 (cond r 744 (cond s 752 (cond t 756 768))))
from_1 true q r s t = omega arith
from_1 false q r s t = omega (arith, from_2 q r s t)

up_to : (p q r s t : Bool) → cond p 728 (cond q 736 (cond r 744 (cond s 752 (cond t 756 768)))) ≤ 768
up_to true q r s t = omega arith
up_to false true r s t = omega arith
up_to false false true s t = omega arith
up_to false false false true t = omega arith
up_to false false false false true = omega arith
up_to false false false false false = omega arith

module _ (cap : ℕ) where
  most_1 : 728 ≤ most_of cap
  unfolding most_of
  most_1 = from_1 (leb cap 1) (leb cap 2) (leb cap 3) (leb cap 6) (leb cap 7)

  most_2 : 2 ≤ cap → 736 ≤ most_of cap
  unfolding most_of
  most_2 h = rw (lt-leb cap 1 (omega arith)) (from_2 (leb cap 2) (leb cap 3) (leb cap 6) (leb cap 7))

  most_3 : 3 ≤ cap → 744 ≤ most_of cap
  unfolding most_of
  most_3 h = rw (lt-leb cap 1 (omega arith), lt-leb cap 2 (omega arith)) (from_3 (leb cap 3) (leb cap 6) (leb cap 7))

  most_4 : 4 ≤ cap → 752 ≤ most_of cap
  unfolding most_of
  most_4 h = rw (lt-leb cap 1 (omega arith), lt-leb cap 2 (omega arith), lt-leb cap 3 (omega arith)) (from_4 (leb cap 6) (leb cap 7))

  most_7 : 7 ≤ cap → 756 ≤ most_of cap
  unfolding most_of
  most_7 h = rw (lt-leb cap 1 (omega arith), lt-leb cap 2 (omega arith), lt-leb cap 3 (omega arith), lt-leb cap 6 (omega arith)) (from_7 (leb cap 7))

  most_8 : 8 ≤ cap → 768 ≤ most_of cap
  unfolding most_of
  most_8 h = rw (lt-leb cap 1 (omega arith), lt-leb cap 2 (omega arith), lt-leb cap 3 (omega arith), lt-leb cap 6 (omega arith), lt-leb cap 7 (omega arith))
      (omega arith)

  most_768 : most_of cap ≤ 768
  unfolding most_of
  most_768 = up_to (leb cap 1) (leb cap 2) (leb cap 3) (leb cap 6) (leb cap 7)

-- so many fields of such cookies have no more bytes
abbrev Within : ℕ → ℕ → ℕ → Type 0
Within cap len n = n ≤ cap → n * max len 1 ≤ 724 → n * field_length len ≤ most_of cap

within : (cap len n : ℕ) → n < 9 → Within cap len n
unfolding field_length
within cap len =
    let more = below_more (Within cap len) in
    more 8
    (more 7
    (more 6
    (more 5
    (more 4
    (more 3
    (more 2
    (more 1 (more 0 (below_none (Within cap len)) (λ c h. omega arith)) (λ c h. omega (arith, most_1 cap)))
    (λ c h. omega (arith, most_2 cap c)))
    (λ c h. omega (arith, most_3 cap c)))
    (λ c h. omega (arith, most_4 cap c)))
    (λ c h. omega (arith, most_4 cap (omega arith))))
    (λ c h. omega (arith, most_4 cap (omega arith))))
    (λ c h. omega (arith, most_7 cap c)))
    (λ c h. omega (arith, most_8 cap c))

plain_kind : (v : ProtocolVersion) → has_nts (kind_of v false) ≡ false
plain_kind version.V4 = refl
plain_kind (version.Upgrading n) = refl
plain_kind version.Upgraded = refl
plain_kind version.V5 = refl

modest_asked : (cap gap len : ℕ) → gap ≤ 8 → gap ≤ cap → (asked_of gap len ≡ 0 → ⊥) → Modest cap len (asked_of gap len)
modest_asked cap gap len g c z =
    record {
      some = omega arith;
      few = omega arith;
      within = omega arith;
      room = (le-div_iff_mul-le {k = max len 1} {x = asked_of gap len} {y = 724} (omega arith)).0 (omega arith);
    }

-- no gap is over the capacity
gap_most : (cap : ℕ) (s : CookieStash) → gap_of cap s ≤ cap
unfolding gap_of
gap_most cap s = omega arith

module _ (a : Association) (i : TimerInput) (room : ℕ) (kind : SendKind) (poll : PollInterval) (len count : ℕ) where
  abbrev cap : ℕ
  cap = a.settings.capacity

  never : {t : Bool} → t ≡ true → t ≡ false → Modest cap len count
  never p q = let z : ◌≡◌ {A = ℕ} 0 1 = cc in absurd (omega arith)

  by_rule : {n : ℕ} {o : TimerOut} → Given a i room n o → o.answer ≡ Sent kind poll len count → has_nts kind ≡ true → Modest cap len count
  by_rule (not_whole w) e n = let z : ◌≡◌ {A = ℕ} 0 1 = cc in absurd (omega arith)
  by_rule (short_buffer_lem w s) e n = let z : ◌≡◌ {A = ℕ} 0 1 = cc in absurd (omega arith)
  by_rule (demobilize c v d) e n = let z : ◌≡◌ {A = ℕ} 0 1 = cc in absurd (omega arith)
  by_rule (reset c v d) e n = let z : ◌≡◌ {A = ℕ} 0 1 = cc in absurd (omega arith)
  by_rule (no_cookie_lem c t h) e n = let z : ◌≡◌ {A = ℕ} 0 1 = cc in absurd (omega arith)
  by_rule (too_large c z) e n = let z : ◌≡◌ {A = ℕ} 0 1 = cc in absurd (omega arith)
  by_rule (sent c t) e n =
      let k : kind_of (tried_of a.state).version.kind a.settings.nts ≡ kind = cc in
      never n (ap has_nts (sym k) ∙ rw t (plain_kind (tried_of a.state).version.kind))
  by_rule (sent_nts c p) e n =
      let l : oldest_len (seen_of a.settings.capacity a.stash) ≡ len = cc in
      let q : asked_with (seen_of a.settings.capacity a.stash) ≡ count = cc in
      rw (← l, ← q) (modest_asked cap (min (gap_of cap (get_of cap a.stash).stash) 8) (oldest_len (seen_of cap a.stash)) (omega arith)
      (omega (arith, gap_most cap (get_of cap a.stash).stash)) (λ z. omega (arith, p, z)))

  -- where the timer sends a request of these numbers
  module _ (sends : (timer_of a i room).answer ≡ Sent kind poll len count) (upgrademark : ℕ) (cookie : List ℕ) (size : length i.uid ≡ 32)
      (long : length cookie ≡ len) where
    modest : has_nts kind ≡ true → Modest cap (length cookie) count
    modest n = rw long (by_rule (given a i room) sends n)

    -- it has at most as many bytes as the longest of its capacity
    -- promise: no12.7
    pub capacity_longest : length (packet_of kind poll i.id upgrademark i.uid cookie count) ≤ longest_of a.settings.capacity
    capacity_longest =
        at_most kind poll i.id upgrademark i.uid cookie count size (longest_of cap) (omega arith)
        (λ n. let m = modest n in (m.some, omega (arith, within cap (length cookie) count (omega (arith, m.few)) m.within m.room)))

    -- and so at most 852
    -- promise: no1.6 (852 of any that a timer's 20 asks for), no12.7
    pub timer_longest : length (packet_of kind poll i.id upgrademark i.uid cookie count) ≤ 852
    timer_longest = omega (arith, capacity_longest, most_768 cap)

    -- and a buffer of so many bytes is never too short for it: what the timer asks for, and is not V5, is written
    -- promise: no12.7
    pub capacity_written : is_v5 kind ≡ false → (buffer : ℕ) → longest_of a.settings.capacity ≤ buffer →
        request_of kind poll i.id upgrademark i.uid cookie count buffer ≡ Ok (length (packet_of kind poll i.id upgrademark i.uid cookie count))
    unfolding request_of
    capacity_written v buffer h = rw (
      v,
      asked_well (has_nts kind) refl,
      le-ltb buffer (length (packet_of kind poll i.id upgrademark i.uid cookie count))
          (omega (arith, capacity_longest)),
    )
      where
        asked_well : (t : Bool) → has_nts kind ≡ t → has_nts kind && not (ask_valid (length cookie) count) ≡ false
        asked_well true n =
            let m = modest n in
            rw (n, le-leb (length cookie) 724 (modest_short cap (length cookie) count m), le-leb 1 count m.some, le-leb count 8 m.few)
        asked_well false n = rw n

    -- promise: no1.6 (with 852 bytes of buffer that is never rejected, V5 apart), no12.7
    pub timer_written : is_v5 kind ≡ false → (buffer : ℕ) → 852 ≤ buffer →
        request_of kind poll i.id upgrademark i.uid cookie count buffer ≡ Ok (length (packet_of kind poll i.id upgrademark i.uid cookie count))
    timer_written v buffer h = capacity_written v buffer (omega (arith, most_768 cap))

-- each is reached: by this number of cookies of this length
abbrev pub Reached : (cap len asked : ℕ) → Type 0
Reached cap len asked = (poll : PollInterval) (id upgrademark : ℕ) →
    length (packet_of NtsV4 poll id upgrademark (replicate 32 0) (replicate len 0) asked) ≡ longest_of cap

-- promise: no12.7
pub all_reached : Reached 1 724 1 × Reached 2 362 2 × Reached 3 241 3 × Reached 4 181 4 × Reached 5 181 4 × Reached 6 181 4 × Reached 7 103 7 × Reached 8 90 8
unfolding field_length most_of
all_reached = (
  λ poll id mark. length_nts NtsV4 poll id mark (replicate 32 0) (replicate 724 0) 1 refl refl (omega arith),
  λ poll id mark. length_nts NtsV4 poll id mark (replicate 32 0) (replicate 362 0) 2 refl refl (omega arith),
  λ poll id mark. length_nts NtsV4 poll id mark (replicate 32 0) (replicate 241 0) 3 refl refl (omega arith),
  λ poll id mark. length_nts NtsV4 poll id mark (replicate 32 0) (replicate 181 0) 4 refl refl (omega arith),
  λ poll id mark. length_nts NtsV4 poll id mark (replicate 32 0) (replicate 181 0) 4 refl refl (omega arith),
  λ poll id mark. length_nts NtsV4 poll id mark (replicate 32 0) (replicate 181 0) 4 refl refl (omega arith),
  λ poll id mark. length_nts NtsV4 poll id mark (replicate 32 0) (replicate 103 0) 7 refl refl (omega arith),
  λ poll id mark. length_nts NtsV4 poll id mark (replicate 32 0) (replicate 90 0) 8 refl refl (omega arith),
)

-- 852 is reached: a cookie of 90 bytes, and eight asked for
-- promise: no1.6
pub reached : (poll : PollInterval) (id upgrademark : ℕ) → length (packet_of NtsV4 poll id upgrademark (replicate 32 0) (replicate 90 0) 8) ≡ 852
unfolding field_length
reached poll id upgrademark = length_nts NtsV4 poll id upgrademark (replicate 32 0) (replicate 90 0) 8 refl refl (omega arith)
