-- What the writer writes, the reader reads: the same header, the same uid, and the walk over the fields finds each of them as it was written.
-- Assumes nothing.
use mathlib.Core.Path.{◌≡◌, refl, sym, ap, ◌∙◌}
use mathlib.Core.Bool.{Bool, true, false, ◌&&◌, cond, and-false}
use mathlib.Core.List.{List, [], ◌∷◌, ◌++◌, append_assoc, append-nil}
use mathlib.Core.Logic.{◌↔◌}
use Prim.Native.Nat.{ℕ, zero, suc, ◌+◌, ◌-◌, ◌%◌, ◌^◌, ◌≤◌, ◌<◌}
use native.Mathlib.Nat.{mod-eq_of_lt}
use native.Mathlib.Omega.{arith}
use borrow.Author.Tests.{lt-ltb, le-ltb, lt-leb, le-leb, eq-eqb, ne_eqb, ltb-true, ltb-false}
use lib.Dec.{ltb, leb, lit<, lit≤}
use lib.ListN.{length, drop, replicate, length-append, length-drop, get_or-append}
use lib.Seq.{take-append-le, drop-append-le, drop-drop, take_at, drop_at}
use mir.Syntax.{w8}
use mir.Val.{SFits}
use Rattle.words.specs.Bytes.{be, part, to_be}
use Rattle.words.proofs.Bytes.{be_to_be}
use Rattle.time_types.specs.declared.PollInterval.{PollInterval}
use Rattle.wire_header.specs.declared.HeaderVersion.{HeaderVersion}
use Rattle.std.specs.Prelude.{Some}
use Rattle.wire_header.specs.Header.{fields, header_of, bytes_of}
use Rattle.wire_header.proofs.Fit.{Fit}
use Rattle.wire_header.proofs.RoundTrip.{read_write}
use Rattle.wire_fields.specs.Field.{kind_at, length_at, field_is, step_at}
use Rattle.wire_fields.specs.Walk.{field, walk_of, packet_walk, fields_of, between, bodies_of}
use Rattle.wire_fields.specs.Sound.{Each}
use Rattle.wire_fields.specs.declared.Step.TheVariants.{Field, End}
use Rattle.wire_fields.proofs.Walks.{walk_turn, walk_induction}
use Rattle.wire_groups.specs.Matching.{uid_kind, uid_of, packet_uid, Begins}
use Rattle.wire_groups.specs.declared.Uid.TheVariants.{Agree}
use Rattle.wire_groups.proofs.Groups.{ahead, ahead_field, ahead_stop}
use Rattle.wire_groups.proofs.Uids.{agree_iff}
use Rattle.wire_collector.specs.Collector.{cookie_kind}
use Rattle.version.specs.declared.SendKind.{SendKind}
use Rattle.version.specs.declared.SendKind.TheVariants.{V4, V4Upgrade, V5, NtsV4, NtsV5}
use Rattle.wire_request.specs.Extension.{Extension, filled, field_length, extension_bytes, all_bytes}
use Rattle.wire_request.specs.Request.{has_nts, reftime_of, header_for, carrying, placeholder, fields_for, with_fields, packet_of}
use Rattle.laws.specs.Reading.{Legible, found_at, walked_by}
use Rattle.wire_request.proofs.Placing.{length_filled, filled_full, length_extension}
use Rattle.wire_request.proofs.Sizes.{length_header, field_covers, field_least, field_fours, field_most}

-- ---- the header: what stands behind it does not matter

module _ (p rest : List ℕ) where
  part_front : (at n : ℕ) → at + n ≤ length p → part (p ++ rest) at n ≡ part p at n
  unfolding part
  part_front at n h = rw (drop-append-le at p rest (omega arith)) (take-append-le n (drop at p) rest (simp length-drop (omega arith)))

  fields_front : (v : HeaderVersion) → 48 ≤ length p → fields v (p ++ rest) ≡ fields v p
  unfolding fields
  fields_front v h =
      rw (
        get_or-append p rest 0 0 (omega arith),
        get_or-append p rest 0 1 (omega arith),
        get_or-append p rest 0 2 (omega arith),
        get_or-append p rest 0 3 (omega arith),
        part_front 4 4 (omega arith),
        part_front 8 4 (omega arith),
        part_front 12 4 (omega arith),
        part_front 16 8 (omega arith),
        part_front 24 8 (omega arith),
        part_front 32 8 (omega arith),
        part_front 40 8 (omega arith),
      )

  header_front : 48 ≤ length p → header_of (p ++ rest) ≡ header_of p
  unfolding header_of
  header_front h =
      rw (
        le-ltb (length (p ++ rest)) 48 (omega (arith, length-append p rest)),
        le-ltb (length p) 48 h,
        get_or-append p rest 0 0 (omega arith),
        fields_front _ h,
        fields_front _ h,
      )

-- ---- a field at its place

module _ (p front rest : List ℕ) (at : ℕ) (e : Extension) (here : p ≡ front ++ (extension_bytes e ++ rest)) (size : length front ≡ at) (ok : Legible e) where
  from_here : drop at p ≡ extension_bytes e ++ rest
  from_here = rw here (drop_at front (extension_bytes e ++ rest) at size)

  whole_long : length p ≡ at + (e.len + length rest)
  whole_long =
      ap length here
      ∙ length-append front (extension_bytes e ++ rest)
      ∙ omega (arith, size, length-append (extension_bytes e) rest, length_extension e.kind e.len e.body ok.covers)

  word_back : (x : ℕ) → x < 65536 → be (to_be 2 x) ≡ x
  word_back x h = be_to_be 2 x ∙ mod-eq_of_lt h

  kind_here : kind_at p at ≡ e.kind
  unfolding kind_at part extension_bytes
  kind_here = rw from_here (word_back e.kind ok.kind)

  length_here : length_at p at ≡ e.len
  unfolding length_at part extension_bytes
  length_here = rw (← drop-drop 2 at p, from_here) (word_back e.len ok.short)

  -- its body is what was written, with the zeros
  pub body_here : part p (at + 4) (e.len - 4) ≡ filled (e.len - 4) e.body
  unfolding part extension_bytes
  body_here =
      rw (← drop-drop 4 at p, from_here)
      (take_at (filled (e.len - 4) e.body) rest (e.len - 4) (length_filled (e.len - 4) e.body (omega (arith, ok.covers))))

  field_here : field_is p at 16 ≡ true
  unfolding field_is
  field_here =
      rw (
        length_here,
        le-leb 4 (length p - at) (omega (arith, whole_long, ok.least)),
        eq-eqb (e.len % 4) 0 ok.fours,
        le-leb 16 e.len ok.least,
        le-leb e.len (length p - at) (omega (arith, whole_long)),
      )

  -- the walk takes it where more than a tail is left
  pub step_here : 24 < e.len + length rest → step_at p at 16 24 ≡ Field e.kind (at + 4) (e.len - 4) (at + e.len)
  unfolding step_at
  step_here h =
      rw (
        le-ltb (length p) at (omega (arith, whole_long)),
        lt-leb (length p - at) 24 (omega (arith, whole_long)),
        field_here,
        kind_here,
        length_here,
      )

  -- and else ends there
  step_ends : e.len + length rest ≤ 24 → step_at p at 16 24 ≡ End
  unfolding step_at
  step_ends h = rw (le-ltb (length p) at (omega (arith, whole_long)), le-leb (length p - at) 24 (omega (arith, whole_long)))

-- ---- fields, one behind the other

module _ (p rest : List ℕ) where
  -- the place of the next field
  next_place : (front : List ℕ) (e : Extension) (es : List Extension) → p ≡ front ++ (all_bytes (e ∷ es) ++ rest) →
      p ≡ (front ++ extension_bytes e) ++ (all_bytes es ++ rest)
  next_place front e es here = here ∙ simp append_assoc

  next_size : (front : List ℕ) (at : ℕ) (e : Extension) → length front ≡ at → Legible e → length (front ++ extension_bytes e) ≡ at + e.len
  next_size front at e size ok = length-append front (extension_bytes e) ∙ omega (arith, size, length_extension e.kind e.len e.body ok.covers)

  -- with more than a tail behind them, the walk finds each
  pub walks : (es : List Extension) (front : List ℕ) (at end : ℕ) → p ≡ front ++ (all_bytes es ++ rest) → length front ≡ at → at + length (all_bytes es) ≡ end →
      Each Legible es → 24 < length rest
      → walk_of p at 16 24 ≡ walked_by at es (walk_of p end 16 24)
  walks [] front at end here size to ok more = let s : at ≡ end = omega arith in rw s
  walks (e ∷ es) front at end here size to ok more =
      let there = here ∙ ap (λ l. front ++ l) (append_assoc (extension_bytes e) (all_bytes es) rest) in
      let step = step_here p front (all_bytes es ++ rest) at e there size ok.0 (omega (arith, length-append (all_bytes es) rest)) in
      let long : at + e.len + length (all_bytes es) ≡ end =
      omega (arith, length-append (extension_bytes e) (all_bytes es), length_extension e.kind e.len e.body ok.0.covers) in
      walk_turn p at 16 24 (lit≤ tt)
      ∙ rw step
      (ap (field (found_at at e)) (walks es (front ++ extension_bytes e) (at + e.len) end (next_place front e es here) (next_size front at e size ok.0) long
      ok.1 more))

  -- ---- the uid fields before an offset

  -- none starts before an offset that is passed
  none_before : (to at : ℕ) → to ≤ at → ahead p 48 to 16 24 at ≡ []
  unfolding ahead
  none_before to =
      walk_induction p 16 24 (lit≤ tt) (λ at w. to ≤ at → bodies_of uid_kind p (between 48 to (fields_of w)) ≡ [])
      (λ at e h. refl)
      (λ at h. refl)
      (λ at kind start len next w behind h. rw (le-ltb at to h, and-false (leb 48 at)) (behind (omega arith)))

  -- and none is among fields of other types, however the walk goes on behind them
  none_among : (es : List Extension) (front : List ℕ) (at end : ℕ) → p ≡ front ++ (all_bytes es ++ rest) → length front ≡ at → at + length (all_bytes es) ≡ end
      → Each Legible es → Each (λ e. e.kind ≡ uid_kind → ⊥) es → ahead p 48 end 16 24 at ≡ []
  none_among [] front at end here size to ok other = none_before end at (omega arith)
  none_among (e ∷ es) front at end here size to ok other =
      let there = here ∙ ap (λ l. front ++ l) (append_assoc (extension_bytes e) (all_bytes es) rest) in
      let long : at + e.len + length (all_bytes es) ≡ end =
      omega (arith, length-append (extension_bytes e) (all_bytes es), length_extension e.kind e.len e.body ok.0.covers) in
      let behind = none_among es (front ++ extension_bytes e) (at + e.len) end (next_place front e es here) (next_size front at e size ok.0) long ok.1
      other.1 in
      go (ltb 24 (e.len + length (all_bytes es ++ rest))) refl there behind
    where
      go : (t : Bool) → ltb 24 (e.len + length (all_bytes es ++ rest)) ≡ t → p ≡ front ++ (extension_bytes e ++ (all_bytes es ++ rest)) →
          ahead p 48 end 16 24 (at + e.len) ≡ []
          → ahead p 48 end 16 24 at ≡ []
      go true h there behind =
          let step = step_here p front (all_bytes es ++ rest) at e there size ok.0 (ltb-true 24 (e.len + length (all_bytes es ++ rest)) h) in
          ahead_field p 48 end 16 24 at (lit≤ tt) e.kind (at + 4) (e.len - 4) (at + e.len) step
          ∙ rw (ne_eqb e.kind uid_kind other.0, and-false (leb 48 at && ltb at end)) behind
      go false h there behind =
          let step = step_ends p front (all_bytes es ++ rest) at e there size ok.0 (ltb-false 24 (e.len + length (all_bytes es ++ rest)) h) in
          ahead_stop p 48 end 16 24 at (lit≤ tt) End step (λ kind start len next e. cc)

-- ---- a request's fields are legible

carrying_legible : (kind : ℕ) (body : List ℕ) → kind < 65536 → length body ≤ 724 → Legible (carrying kind body)
carrying_legible kind body k h =
    let n = length body in
    record { kind = k; covers = field_covers n; least = field_least n; fours = field_fours n; short = omega (arith, field_most n h) }

placeholder_legible : (n : ℕ) → n ≤ 724 → Legible (placeholder (field_length n))
placeholder_legible n h =
    record { kind = lit< tt; covers = omega (arith, field_least n); least = field_least n; fours = field_fours n; short = omega (arith, field_most n h) }

each_alike : (P : Extension → Type 0) (n : ℕ) (e : Extension) → P e → Each P (replicate n e)
each_alike P zero e h = tt
each_alike P (suc n) e h = (h, each_alike P n e h)

-- the fields behind the uid
abbrev behind_uid : List ℕ → ℕ → List Extension
behind_uid cookie asked = carrying cookie_kind cookie ∷ replicate (asked - 1) (placeholder (field_length (length cookie)))

behind_legible : (cookie : List ℕ) (asked : ℕ) → length cookie ≤ 724 → Each Legible (behind_uid cookie asked)
behind_legible cookie asked h = (
  carrying_legible cookie_kind cookie (lit< tt) h,
  each_alike Legible (asked - 1) (placeholder (field_length (length cookie)))
      (placeholder_legible (length cookie) h),
)

behind_other : (cookie : List ℕ) (asked : ℕ) → Each (λ e. e.kind ≡ uid_kind → ⊥) (behind_uid cookie asked)
behind_other cookie asked =
    (λ q. omega (arith, q), each_alike (λ e. e.kind ≡ uid_kind → ⊥) (asked - 1) (placeholder (field_length (length cookie))) (λ q. omega (arith, q)))

-- ---- the packet

-- bytes that begin others of their length are those
begins_whole : (v u : List ℕ) → length v ≡ length u → Begins v u → v ≡ u
begins_whole v u e b = go b.0 b.1
  where
    go : (r : List ℕ) → u ≡ v ++ r → v ≡ u
    go [] q = sym (q ∙ append-nil v)
    go (x ∷ r) q = absurd (omega (arith, ap length q, length-append v (x ∷ r)))

reftime_fits : (kind : SendKind) (upgrademark : ℕ) → upgrademark < 2 ^ 64 → reftime_of kind upgrademark < 2 ^ 64
reftime_fits V4 upgrademark h = lit< tt
reftime_fits V4Upgrade upgrademark h = h
reftime_fits V5 upgrademark h = lit< tt
reftime_fits NtsV4 upgrademark h = lit< tt
reftime_fits NtsV5 upgrademark h = lit< tt

module _ (kind : SendKind) (poll : PollInterval) (id upgrademark : ℕ) (uid cookie : List ℕ) (asked : ℕ) where
  abbrev packet : List ℕ
  packet = packet_of kind poll id upgrademark uid cookie asked

  abbrev front : List ℕ
  front = bytes_of (header_for kind poll id upgrademark)

  front_long : length front ≡ 48
  front_long = length_header (header_for kind poll id upgrademark)

  fit : SFits w8 poll.0 → id < 2 ^ 64 → upgrademark < 2 ^ 64 → Fit (header_for kind poll id upgrademark)
  unfolding header_for
  fit p i m =
      record {
        stratum = lit< tt;
        poll = p;
        precision = record { sfits = lit< tt };
        rootdelay = lit< tt;
        rootdisp = lit< tt;
        refid = lit< tt;
        reftime = reftime_fits kind upgrademark m;
        origin = lit< tt;
        receive = lit< tt;
        transmit = i;
      }

  -- the same header, of every kind and whatever stands behind
  -- promise: no1.1 (the reader of `wire_header` gives it back, whatever follows)
  pub header_read : SFits w8 poll.0 → id < 2 ^ 64 → upgrademark < 2 ^ 64 → (rest : List ℕ) →
      header_of (packet ++ rest) ≡ Some (header_for kind poll id upgrademark)
  unfolding packet_of with_fields
  header_read p i m rest = go (has_nts kind)
    where
      go : (t : Bool) → header_of (cond t (with_fields front uid cookie asked) front ++ rest) ≡ Some (header_for kind poll id upgrademark)
      go true =
          let fs = all_bytes (fields_for uid cookie asked) in
          ap header_of (append_assoc front fs rest) ∙ header_front front (fs ++ rest) (omega (arith, front_long))
          ∙ read_write (header_for kind poll id upgrademark) (fit p i m)
      go false = header_front front rest (omega (arith, front_long)) ∙ read_write (header_for kind poll id upgrademark) (fit p i m)

  module _ (nts : has_nts kind ≡ true) (size : length uid ≡ 32) (short : length cookie ≤ 724) (rest : List ℕ) where
    laid : packet ++ rest ≡ front ++ (all_bytes (fields_for uid cookie asked) ++ rest)
    unfolding packet_of with_fields
    laid = rw nts (append_assoc front (all_bytes (fields_for uid cookie asked)) rest)

    packet_long : 48 + length (all_bytes (fields_for uid cookie asked)) ≡ length packet
    unfolding packet_of with_fields
    packet_long = rw nts (sym (length-append front (all_bytes (fields_for uid cookie asked)) ∙ omega (arith, front_long)))

    legible : Each Legible (fields_for uid cookie asked)
    unfolding fields_for
    legible = (carrying_legible uid_kind uid (lit< tt) (omega arith), behind_legible cookie asked short)

    -- with more than a tail behind it, as an authenticator is, the walk finds each field as it was written, and goes on where the packet ends
    -- promise: no1.2 (the walk of `wire_fields` finds each where it was written)
    pub fields_read : 24 < length rest →
        packet_walk (packet ++ rest) ≡ walked_by 48 (fields_for uid cookie asked) (walk_of (packet ++ rest) (length packet) 16 24)
    fields_read more = walks (packet ++ rest) rest (fields_for uid cookie asked) front 48 (length packet) laid front_long packet_long legible more

    -- the packet has one uid field, whatever stands behind
    bodies_read : bodies_of uid_kind (packet ++ rest) (between 48 (length packet) (fields_of (packet_walk (packet ++ rest)))) ≡ uid ∷ []
    unfolding fields_for ahead field_length
    bodies_read =
        let p = packet ++ rest in
        let e = carrying uid_kind uid in
        let ok = carrying_legible uid_kind uid (lit< tt) (omega arith) in
        let len : e.len ≡ 36 = ap field_length size in
        let others = all_bytes (behind_uid cookie asked) in
        let here = laid ∙ ap (λ l. front ++ l) (append_assoc (extension_bytes e) others rest) in
        let step = step_here p front (others ++ rest) 48 e here front_long ok (omega (arith, len)) in
        let long : length (extension_bytes e ++ others) ≡ e.len + length others = length-append (extension_bytes e) others
        ∙ omega (arith, length_extension uid_kind e.len uid ok.covers) in
        let none = none_among p rest (behind_uid cookie asked) (front ++ extension_bytes e) (48 + e.len) (length packet)
        (next_place p rest front e (behind_uid cookie asked) laid) (next_size p rest front 48 e front_long ok) (omega (arith, packet_long, long))
        (behind_legible cookie asked short) (behind_other cookie asked) in
        let body = body_here p front (others ++ rest) 48 e here front_long ok ∙ filled_full (e.len - 4) uid (omega (arith, len)) in
        let bodies : ahead p 48 (length packet) 16 24 48 ≡ part p 52 (e.len - 4) ∷ [] =
        ahead_field p 48 (length packet) 16 24 48 (lit≤ tt) uid_kind 52 (e.len - 4) (48 + e.len) step
        ∙ rw (lt-ltb 48 (length packet) (omega (arith, packet_long, long, len)), none) in
        bodies ∙ ap (λ b. b ∷ []) body

    -- the same uid, whatever stands behind: no other 32 bytes agree
    -- promise: no1.2 (its uid group agrees with the 32 bytes that were written, and with no other 32)
    pub uid_read : (v : List ℕ) → length v ≡ 32 → (packet_uid (packet ++ rest) 48 (length packet) v ≡ Agree) ↔ (v ≡ uid)
    unfolding packet_uid
    uid_read v long =
        let one = agree_iff v (uid ∷ []) in (
          λ e. begins_whole v uid (long ∙ sym size) (one.0 (sym (ap (uid_of v) bodies_read) ∙ e)).1.0,
          λ e. ap (uid_of v) bodies_read ∙ one.1 (lit< tt, (([], sym e ∙ sym (append-nil v)), tt)),
        )
