-- What the writer's loops keep: the cookies that are still to be written, put behind what is there, make the stash's cookies.
-- Assumes nothing.
use Prim.Native.Nat.{ℕ, zero, suc, ◌+◌, ◌-◌, ◌*◌, ◌≤◌, ◌<◌}
use mathlib.Core.Path.{◌≡◌, refl, sym, ap, subst, ◌∙◌}
use mathlib.Core.Bool.{false}
use mathlib.Core.List.{List, [], ◌∷◌, ◌++◌, map}
use native.Mathlib.Omega.{arith}
use lib.Dec.{leb}
use lib.ListN.{length, take, length-append, get_or-eq_default}
use lib.Seq.{length-take-le}
use Rattle.words.specs.Bytes.{to_be}
use Rattle.words.specs.Put.{laid_at, Put, laid, lay_of, record_of}
use Rattle.words.proofs.Put.{laid_none, laid_on, put_put, put_long, lays, lays_not, laid_put, record_long, record_put}
use Rattle.cookiestash.specs.declared.Slot.{Slot}
use Rattle.cookiestash.specs.declared.CookieStash.{CookieStash}
use Rattle.cookiestash.specs.Stash.{stored, slot_at, wrap}
use Rattle.cookiestash.specs.Queue.{Cookie, walk, queue, seen, cookies}
use Rattle.cookiestash.specs.Whole.{WholeSlot, Whole}
use Rattle.cookiestash.proofs.Places.{wrap_in, wrap_add, next_lt}
use Rattle.cookiestash.proofs.Stored.{stored_bounds}
use Rattle.association.specs.declared.Settings.{Settings}
use Rattle.association.specs.declared.State.{State}
use Rattle.handover_groups.specs.Settings.{settings_bytes}
use Rattle.handover_groups.specs.State.{effort_bytes, version_bytes, polls_bytes, source_bytes}
use Rattle.handover_groups.proofs.OfSettings.{settings_long}
use Rattle.handover_groups.proofs.OfState.{effort_long, version_long, polls_long, source_long}
use Rattle.handover_file.specs.Steps.{cookie}
use Rattle.handover_file.specs.Cookies.{cookie_bytes, cookies_bytes, stash_bytes}
use Rattle.handover_save.specs.Groups.{state_records, groups_file}

-- ---- one cookie

pub cookie_long : (x : Slot) → WholeSlot x → length (cookie_bytes (seen x)) ≡ 2 + stored x.len
unfolding cookie_bytes seen
cookie_long x w = let e = length-take-le (stored x.len) x.bytes (omega (arith, w.sized, stored_bounds x.len)) in omega (arith, e)

-- what a slot holds, and what one that is not there does
pub slot_seen : (xs : List Slot) (place : ℕ) (x : Slot) (n : ℕ) → x ≡ slot_at xs place → n ≡ stored x.len →
    cookie x.len (take n x.bytes) ≡ seen (slot_at xs place)
unfolding seen
slot_seen xs place x n e k = ap (λ (j : ℕ). cookie x.len (take j x.bytes)) k ∙ ap seen e

pub none_seen : (xs : List Slot) (place : ℕ) → length xs ≤ place → cookie 0 [] ≡ seen (slot_at xs place)
unfolding seen stored
none_seen xs place h = ap seen (sym (get_or-eq_default xs (record { bytes = []; len = 0 }) h))

-- how many bytes are written of it
pub seen_long : (x : Slot) (c : Cookie) → WholeSlot x → c ≡ seen x → length c.bytes ≡ stored x.len
unfolding seen
seen_long x c w e = ap (λ (k : Cookie). length k.bytes) e ∙ length-take-le (stored x.len) x.bytes (omega (arith, w.sized, stored_bounds x.len))

-- its length and its bytes, one behind the other
pub cookie_put : {out p q : List ℕ} {at r s : ℕ} {h : List ℕ} (c : Cookie) → h ≡ to_be 2 c.len → Put out at h r p → Put p r c.bytes s q →
    at + 2 ≤ length out → Put out at (cookie_bytes c) s q
unfolding cookie_bytes
cookie_put {out = out} {p = p} {at = at} {r = r} c eh a b k =
    let first : Put out at (to_be 2 c.len) r p = subst (λ (w : List ℕ). Put out at w r p) eh a in
    put_put (to_be 2 c.len) c.bytes first b k

pub cookie_size : (c : Cookie) → length (cookie_bytes c) ≡ 2 + length c.bytes
unfolding cookie_bytes
cookie_size c = omega arith

-- ---- the cookies that are still to come

-- the bytes of the n cookies from a place on
abbrev pub ahead : ℕ → CookieStash → ℕ → ℕ → List ℕ
ahead cap s place n = cookies_bytes (map seen (walk cap s.slots place n))

ahead_all : (cap : ℕ) (s : CookieStash) → ahead cap s s.read s.held ≡ cookies_bytes (cookies cap s)
unfolding cookies queue
ahead_all cap s = refl

ahead_next : (cap : ℕ) (s : CookieStash) (place n : ℕ) → 0 < n →
    ahead cap s place n ≡ cookie_bytes (seen (slot_at s.slots place)) ++ ahead cap s (wrap cap (place + 1)) (n - 1)
ahead_next cap s place zero h = absurd (omega arith)
ahead_next cap s place (suc n) h =
    let e : n ≡ suc n - 1 = omega arith in
    ap (λ (k : ℕ). cookie_bytes (seen (slot_at s.slots place)) ++ ahead cap s (wrap cap (place + 1)) k) e

ahead_none : (cap : ℕ) (s : CookieStash) (place n : ℕ) → n ≡ 0 → ahead cap s place n ≡ []
ahead_none cap s place n e = ap (ahead cap s place) e

-- ---- the loop that writes them

pub record Writing (cap : ℕ) (out₀ : List ℕ) (at : ℕ) (s : CookieStash) (out : List ℕ) (to place n : ℕ) : Type 0 where
  pub most : cap ≤ 8
  pub long : length out ≡ length out₀
  pub places : place < cap
  pub ends : to + length (ahead cap s place n) ≡ at + length (cookies_bytes (cookies cap s))
  pub same : laid_at out to (ahead cap s place n) ≡ laid_at out₀ at (cookies_bytes (cookies cap s))

pub begins : (cap : ℕ) (out : List ℕ) (at : ℕ) (s : CookieStash) → Whole cap s → Writing cap out at s out at s.read s.held
begins cap out at s v =
    record {
      most = v.most;
      long = refl;
      places = v.reads;
      ends = ap (λ (l : List ℕ). at + length l) (ahead_all cap s);
      same = ap (laid_at out at)
          (ahead_all cap s);
    }

-- the place of an age
place_first : (cap read : ℕ) → read < cap → read ≡ wrap cap (read + 0)
place_first cap read h = let e : read ≡ read + 0 = omega arith in e ∙ sym (wrap_in cap (read + 0) (omega arith))

pub place_next : (cap read held age : ℕ) → read < cap → held ≤ cap → age < held → wrap cap (wrap cap (read + age) + 1) ≡ wrap cap (read + (age + 1))
place_next cap read held age h k l = wrap_add cap read age 1 h (omega arith)

pub begins_at : (cap : ℕ) (out : List ℕ) (at : ℕ) (s : CookieStash) → Whole cap s → Writing cap out at s out at (wrap cap (s.read + 0)) (s.held - 0)
begins_at cap out at s v =
    let n : s.held ≡ s.held - 0 = omega arith in
    subst (λ (k : ℕ). Writing cap out at s out at k (s.held - 0)) (place_first cap s.read v.reads)
    (subst (λ (k : ℕ). Writing cap out at s out at s.read k) n (begins cap out at s v))

module _ (cap : ℕ) (out₀ : List ℕ) (at : ℕ) (s : CookieStash) (room : at + length (cookies_bytes (cookies cap s)) ≤ length out₀) (out : List ℕ) (to place n : ℕ)
    (w : Writing cap out₀ at s out to place n) where
  module _ (h : 0 < n) where
    next_long : length (ahead cap s place n) ≡ length (cookie_bytes (seen (slot_at s.slots place))) + length (ahead cap s (wrap cap (place + 1)) (n - 1))
    next_long = ap length (ahead_next cap s place n h)
        ∙ length-append (cookie_bytes (seen (slot_at s.slots place))) (ahead cap s (wrap cap (place + 1)) (n - 1))

    pub fits_next : to + length (cookie_bytes (seen (slot_at s.slots place))) ≤ length out
    fits_next = omega (arith, next_long, w.ends, w.long)

    writes : (r : ℕ) (p : List ℕ) → Put out to (cookie_bytes (seen (slot_at s.slots place))) r p → Writing cap out₀ at s p r (wrap cap (place + 1)) (n - 1)
    writes r p a =
        let c = cookie_bytes (seen (slot_at s.slots place)) in
        let rest = ahead cap s (wrap cap (place + 1)) (n - 1) in
        record {
          most = w.most;
          long = put_long c a fits_next ∙ w.long;
          places = next_lt cap place w.places;
          ends = omega (arith, next_long, w.ends, a.ends);
          same = (λ i. laid_at (a.leaves i) (a.ends i) rest) ∙ laid_on out to c fits_next rest ∙ sym (ap (laid_at out to) (ahead_next cap s place n h))
              ∙ w.same;
        }

    pub writes_next : (r j : ℕ) (p : List ℕ) → Put out to (cookie_bytes (seen (slot_at s.slots place))) r p → j ≡ wrap cap (place + 1) →
        Writing cap out₀ at s p r j (n - 1)
    writes_next r j p a e = subst (λ (k : ℕ). Writing cap out₀ at s p r k (n - 1)) (sym e) (writes r p a)

  pub written : n ≡ 0 → Put out₀ at (cookies_bytes (cookies cap s)) to out
  written z =
      let e = ahead_none cap s place n z in
      record { ends = omega (arith, w.ends, ap length e); leaves = sym (laid_none out to) ∙ sym (ap (laid_at out to) e) ∙ w.same }

-- the same, by age
module _ (cap : ℕ) (out₀ : List ℕ) (at : ℕ) (s : CookieStash) (v : Whole cap s) (room : at + length (cookies_bytes (cookies cap s)) ≤ length out₀)
    (out : List ℕ) (to age : ℕ) (h : age < s.held) (w : Writing cap out₀ at s out to (wrap cap (s.read + age)) (s.held - age)) where
  pub writes_age : (r : ℕ) (p : List ℕ) → Put out to (cookie_bytes (seen (slot_at s.slots (wrap cap (s.read + age))))) r p →
      Writing cap out₀ at s p r (wrap cap (s.read + (age + 1))) (s.held - (age + 1))
  writes_age r p a =
      let n : s.held - age - 1 ≡ s.held - (age + 1) = omega arith in
      subst (λ (k : ℕ). Writing cap out₀ at s p r (wrap cap (s.read + (age + 1))) k) n
      (writes_next cap out₀ at s room out to _ _ w (omega arith) r _ p a (sym (place_next cap s.read s.held age v.reads v.counts h)))

-- ---- the loop that adds up their lengths

pub record Summing (cap : ℕ) (s : CookieStash) (sum place n : ℕ) : Type 0 where
  pub places : place < cap
  pub most : cap ≤ 8
  pub few : n ≤ 8
  pub small : sum ≤ 1 + 726 * (8 - n)
  pub total : sum + length (ahead cap s place n) ≡ length (stash_bytes cap s)

pub sum_begins : (cap : ℕ) (s : CookieStash) → Whole cap s → Summing cap s 1 s.read s.held
unfolding stash_bytes
sum_begins cap s w =
    record {
      places = w.reads;
      most = w.most;
      few = omega (arith, w.counts, w.most);
      small = omega arith;
      total = omega
          (arith, ap length (ahead_all cap s));
    }

module _ (cap : ℕ) (s : CookieStash) (v : Whole cap s) (sum place n : ℕ) (w : Summing cap s sum place n) where
  slot_whole : WholeSlot (slot_at s.slots place)
  slot_whole = v.each place (omega (arith, w.places, v.room))

  sums : 0 < n → Summing cap s (sum + 2 + stored (slot_at s.slots place).len) (wrap cap (place + 1)) (n - 1)
  sums h =
      let x = slot_at s.slots place in
      let l : length (ahead cap s place n) ≡ length (cookie_bytes (seen x)) + length (ahead cap s (wrap cap (place + 1)) (n - 1))
      = ap length (ahead_next cap s place n h) ∙ length-append (cookie_bytes (seen x)) (ahead cap s (wrap cap (place + 1)) (n - 1)) in
      let b = stored_bounds x.len in
      record {
        places = next_lt cap place w.places;
        most = w.most;
        few = omega (arith, w.few);
        small = omega (arith, w.small, w.few);
        total = omega (arith, w.total, cookie_long x slot_whole);
      }

  pub sum_next : 0 < n → (k j : ℕ) → k ≡ stored (slot_at s.slots place).len → j ≡ wrap cap (place + 1) → Summing cap s (sum + 2 + k) j (n - 1)
  sum_next h k j ek ej =
      subst (λ (i : ℕ). Summing cap s (sum + 2 + i) j (n - 1)) (sym ek)
      (subst (λ (i : ℕ). Summing cap s (sum + 2 + stored (slot_at s.slots place).len) i (n - 1)) (sym ej) (sums h))

-- the place of an age, computed from the settings and the reading place that were asked for
pub place_is : {k place from read : ℕ} {t : Settings} (s : Settings) (age : ℕ) → place ≡ wrap k (from + age) → k ≡ t.capacity → t ≡ s → from ≡ read →
    place ≡ wrap s.capacity (read + age)
place_is s age p k t r = p ∙ (λ i. wrap ((k ∙ ap (λ (x : Settings). x.capacity) t) i) (r i + age))

-- a record whose mark was asked for
pub marked : (o : List ℕ) (at : ℕ) (b : List ℕ) {q : List ℕ} {r m k : ℕ} → m ≡ k → laid r q ≡ lay_of o at (record_of m b) →
    laid r q ≡ lay_of o at (record_of k b)
marked o at b e p = p ∙ ap (λ (m : ℕ). lay_of o at (record_of m b)) e

-- the settings and the state that were asked for
pub settings_laid : (o : List ℕ) (at : ℕ) {q : List ℕ} {r : ℕ} {t s : Settings} → t ≡ s → laid r q ≡ lay_of o at (record_of 0x5345 (settings_bytes t)) →
    laid r q ≡ lay_of o at (record_of 0x5345 (settings_bytes s))
settings_laid o at e p = p ∙ ap (λ (s : Settings). lay_of o at (record_of 0x5345 (settings_bytes s))) e

pub state_laid : (o : List ℕ) (at : ℕ) {q : List ℕ} {r : ℕ} {t s : State} → t ≡ s → laid r q ≡ lay_of o at (state_records t) →
    laid r q ≡ lay_of o at (state_records s)
state_laid o at e p = p ∙ ap (λ (s : State). lay_of o at (state_records s)) e

-- the same, by age
pub sum_begins_at : (cap : ℕ) (s : CookieStash) → Whole cap s → Summing cap s 1 (wrap cap (s.read + 0)) (s.held - 0)
sum_begins_at cap s v =
    let n : s.held ≡ s.held - 0 = omega arith in
    subst (λ (k : ℕ). Summing cap s 1 k (s.held - 0)) (place_first cap s.read v.reads)
    (subst (λ (k : ℕ). Summing cap s 1 s.read k) n (sum_begins cap s v))

pub sum_age : (cap : ℕ) (s : CookieStash) (v : Whole cap s) (sum age : ℕ) → age < s.held → Summing cap s sum (wrap cap (s.read + age)) (s.held - age) →
    (k : ℕ) → k ≡ stored (slot_at s.slots (wrap cap (s.read + age))).len →
    Summing cap s (sum + (2 + k)) (wrap cap (s.read + (age + 1))) (s.held - (age + 1))
sum_age cap s v sum age h w k e =
    let n : s.held - age - 1 ≡ s.held - (age + 1) = omega arith in
    let a : sum + 2 + k ≡ sum + (2 + k) = omega arith in
    subst (λ (j : ℕ). Summing cap s j (wrap cap (s.read + (age + 1))) (s.held - (age + 1))) a
    (subst (λ (j : ℕ). Summing cap s (sum + 2 + k) (wrap cap (s.read + (age + 1))) j) n
    (sum_next cap s v sum _ _ w (omega arith) k _ e (sym (place_next cap s.read s.held age v.reads v.counts h))))

-- ---- the records, one behind the other

pub stash_long : (cap : ℕ) (s : CookieStash) → length (stash_bytes cap s) ≡ 1 + length (cookies_bytes (cookies cap s))
unfolding stash_bytes
stash_long cap s = omega arith

-- the stash's: its head, the reading place, the cookies
pub stash_put : {out p q z : List ℕ} {at r t u n : ℕ} {h b : List ℕ} (cap : ℕ) (s : CookieStash) → h ≡ to_be 2 0x5354 ++ to_be 2 n →
    n ≡ length (stash_bytes cap s) → b ≡ s.read ∷ [] →
    Put out at h r p → Put p r b t q → Put q t (cookies_bytes (cookies cap s)) u z → at + 5 ≤ length out → Put out at (record_of 0x5354 (stash_bytes cap s)) u z
unfolding stash_bytes
stash_put {p = p} {q = q} {at = at} {r = r} {t = t} {n = n} cap s eh en eb a b c k =
    let first = put_long _ a (omega (arith, ap length eh)) in
    let place : Put p r (s.read ∷ []) t q = subst (λ (w : List ℕ). Put p r w t q) eb b in
    record_put 0x5354 n (stash_bytes cap s) eh (ap (to_be 2) en) a
    (put_put (s.read ∷ []) (cookies_bytes (cookies cap s)) place c (omega (arith, a.ends, ap length eh))) (omega arith)

-- of a body whose length is fixed
fixed : (m : ℕ) {b c : List ℕ} {n : ℕ} → b ≡ c → length c ≡ n → length (record_of m b) ≡ 4 + n
fixed m {b} e n = record_long m b ∙ ap (λ (j : ℕ). 4 + j) (ap length e ∙ n)

module _ (state : State) {e v p s : List ℕ} (ee : e ≡ effort_bytes state.effort) (ev : v ≡ version_bytes state.version)
    (ep : p ≡ polls_bytes state.polls) (es : s ≡ source_bytes state.source) where
  records_are : record_of 0x5245 e ++ (record_of 0x5645 v ++ (record_of 0x504F p ++ record_of 0x534F s)) ≡ state_records state
  unfolding state_records
  records_are = λ i. record_of 0x5245 (ee i) ++ (record_of 0x5645 (ev i) ++ (record_of 0x504F (ep i) ++ record_of 0x534F (es i)))

  pub state_put : {o o₁ o₂ o₃ o₄ : List ℕ} {at r₁ r₂ r₃ r₄ : ℕ} → laid r₁ o₁ ≡ lay_of o at (record_of 0x5245 e) →
      laid r₂ o₂ ≡ lay_of o₁ r₁ (record_of 0x5645 v) → laid r₃ o₃ ≡ lay_of o₂ r₂ (record_of 0x504F p) → laid r₄ o₄ ≡ lay_of o₃ r₃ (record_of 0x534F s) →
      at + 28 ≤ length o → Put o at (state_records state) r₄ o₄
  state_put {o = o} {o₁ = o₁} {o₂ = o₂} {o₃ = o₃} {o₄ = o₄} {at = at} {r₁ = r₁} {r₂ = r₂} {r₃ = r₃} {r₄ = r₄} f g h i k =
      let l₁ : length (record_of 0x5245 e) ≡ 6 = fixed 0x5245 ee (effort_long state.effort) in
      let l₂ : length (record_of 0x5645 v) ≡ 6 = fixed 0x5645 ev (version_long state.version) in
      let l₃ : length (record_of 0x504F p) ≡ 6 = fixed 0x504F ep (polls_long state.polls) in
      let l₄ : length (record_of 0x534F s) ≡ 10 = fixed 0x534F es (source_long state.source) in
      let k₁ : at + length (record_of 0x5245 e) ≤ length o = omega arith in
      let a : Put o at (record_of 0x5245 e) r₁ o₁ = laid_put o at (record_of 0x5245 e) f k₁ in
      let m₁ : length o₁ ≡ length o = put_long (record_of 0x5245 e) a k₁ in
      let k₂ : r₁ + length (record_of 0x5645 v) ≤ length o₁ = omega (arith, a.ends) in
      let b : Put o₁ r₁ (record_of 0x5645 v) r₂ o₂ = laid_put o₁ r₁ (record_of 0x5645 v) g k₂ in
      let m₂ : length o₂ ≡ length o₁ = put_long (record_of 0x5645 v) b k₂ in
      let k₃ : r₂ + length (record_of 0x504F p) ≤ length o₂ = omega (arith, a.ends, b.ends) in
      let c : Put o₂ r₂ (record_of 0x504F p) r₃ o₃ = laid_put o₂ r₂ (record_of 0x504F p) h k₃ in
      let m₃ : length o₃ ≡ length o₂ = put_long (record_of 0x504F p) c k₃ in
      let k₄ : r₃ + length (record_of 0x534F s) ≤ length o₃ = omega (arith, a.ends, b.ends, c.ends) in
      let d : Put o₃ r₃ (record_of 0x534F s) r₄ o₄ = laid_put o₃ r₃ (record_of 0x534F s) i k₄ in
      subst (λ (w : List ℕ). Put o at w r₄ o₄) records_are
      (put_put (record_of 0x5245 e) (record_of 0x5645 v ++ (record_of 0x504F p ++ record_of 0x534F s)) a
      (put_put (record_of 0x5645 v) (record_of 0x504F p ++ record_of 0x534F s) b (put_put (record_of 0x504F p) (record_of 0x534F s) c d k₃) k₂) k₁)

pub settings_record_long : (s : Settings) → length (record_of 0x5345 (settings_bytes s)) ≡ 31
settings_record_long s = fixed 0x5345 refl (settings_long s)

pub state_records_long : (s : State) → length (state_records s) ≡ 28
unfolding state_records
state_records_long s =
    simp (length-append, record_long, effort_long, version_long, polls_long, source_long)

-- all of them
pub file_put : (settings : Settings) (s : CookieStash) (state : State) {o o₁ o₂ o₃ : List ℕ} {r₁ r₂ r₃ : ℕ} →
    laid r₁ o₁ ≡ lay_of o 0 (record_of 0x5345 (settings_bytes settings)) → Put o₁ r₁ (record_of 0x5354 (stash_bytes settings.capacity s)) r₂ o₂ →
    laid r₃ o₃ ≡ lay_of o₂ r₂ (state_records state) → 63 + length (stash_bytes settings.capacity s) ≤ length o → Put o 0 (groups_file settings s state) r₃ o₃
unfolding groups_file
file_put settings s state {o = o} {o₁ = o₁} {o₂ = o₂} {r₁ = r₁} {r₂ = r₂} e b f k =
    let first = record_of 0x5345 (settings_bytes settings) in
    let second = record_of 0x5354 (stash_bytes settings.capacity s) in
    let l₁ = settings_record_long settings in
    let l₂ = record_long 0x5354 (stash_bytes settings.capacity s) in
    let l₃ = state_records_long state in
    let k₁ : 0 + length first ≤ length o = omega arith in
    let a = laid_put o 0 first e k₁ in
    let m₁ : length o₁ ≡ length o = put_long first a k₁ in
    let k₂ : r₁ + length second ≤ length o₁ = omega (arith, a.ends) in
    let m₂ : length o₂ ≡ length o₁ = put_long second b k₂ in
    let k₃ : r₂ + length (state_records state) ≤ length o₂ = omega (arith, a.ends, b.ends) in
    put_put first (second ++ state_records state) a (put_put second (state_records state) b (laid_put o₂ r₂ (state_records state) f k₃) k₂) k₁

-- ---- records laid where they fit

module _ (out : List ℕ) (at : ℕ) where
  pub state_lays : (s : State) {r : ℕ} {left : List ℕ} → at + 28 ≤ length out → Put out at (state_records s) r left →
      laid r left ≡ lay_of out at (state_records s)
  state_lays s h p = lays out at (state_records s) (omega (arith, state_records_long s)) p

  pub state_lays_not : (s : State) → leb (at + 28) (length out) ≡ false → laid at out ≡ lay_of out at (state_records s)
  state_lays_not s e = lays_not out at (state_records s) (ap (λ (n : ℕ). leb (at + n) (length out)) (state_records_long s) ∙ e)
