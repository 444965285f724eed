-- What the collector promises: its list is whole by the reader of cookie lists and holds the cookies of the fields, it stands at the buffer's start
-- with the bytes past it untouched, and where collecting is refused nothing is written.
-- Assumes nothing.
use mathlib.Core.Path.{◌≡◌, refl, ap}
use mathlib.Core.Bool.{Bool, true, false, cond}
use mathlib.Core.List.{List, ◌∷◌, ◌++◌}
use Prim.Native.Nat.{ℕ, ◌+◌, ◌≤◌, ◌<◌}
use native.Mathlib.Omega.{arith}
use lib.Dec.{leb, eqb, lit≤}
use lib.ListN.{length, take, drop}
use lib.Seq.{take_at, drop_at}
use Rattle.words.specs.Bytes.{part}
use Rattle.words.proofs.Bytes.{Bytes, bytes_part, length_part, be_below}
use Rattle.cookielist.specs.List.{AllShort}
use Rattle.cookielist.specs.List.{cookies_in, whole}
use Rattle.cookielist.proofs.RoundTrip.{list_read}
use Rattle.wire_fields.specs.Walk.{walk_of, decrypted_walk, whole as unbroken, fields_of, bodies_of}
use Rattle.wire_fields.specs.Field.{length_at}
use Rattle.wire_fields.proofs.Walks.{Placed, walk_induction}
use Rattle.wire_collector.specs.Collector.{cookie_kind, cookies_of, list_in, collect_of, left_in, buffer_of, number_of}
use Rattle.std.specs.Prelude.{Result, Ok, Err}
use Rattle.wire_collector.specs.declared.CollectRefusal.{CollectRefusal}
use Rattle.wire_collector.specs.declared.CollectRefusal.TheVariants.{Broken, TooLong}

-- a body's length fits its record's two bytes
body_short : (p : List ℕ) → Bytes p → (at least start len next : ℕ) → Placed p at least start len next → len < 65536
unfolding length_at
body_short p bytes at least start len next w =
    let two : length (part p (at + 2) 2) ≡ 2 = length_part p (at + 2) 2 (omega arith) in
    omega (arith, w.size, rw two at (be_below (part p (at + 2) 2) (bytes_part p (at + 2) 2 bytes)))

short_unless : (t : Bool) (b : List ℕ) (bs : List (List ℕ)) → length b ≤ 65535 → AllShort bs → AllShort (cond t (b ∷ bs) bs)
short_unless true b bs h q = (h, q)
short_unless false b bs h q = q

-- THE LAW of the list: by the reader of cookie lists it is whole, and its cookies are those of the fields
-- promise: 7.9
pub list_whole : (p : List ℕ) → Bytes p → cookies_in (list_in p) ≡ whole (cookies_of p)
unfolding list_in
list_whole p bytes = list_read (cookies_of p) (all_short 0)
  where
    all_short : (at : ℕ) → AllShort (bodies_of cookie_kind p (fields_of (walk_of p at 4 0)))
    all_short =
        walk_induction p 4 0 (lit≤ tt) (λ at w. AllShort (bodies_of cookie_kind p (fields_of w)))
        (λ at e. tt)
        (λ at. tt)
        (λ at kind start len next w behind.
        short_unless (eqb kind cookie_kind) (part p start len) (bodies_of cookie_kind p (fields_of (walk_of p next 4 0)))
        (omega (arith, length_part p start len (omega arith), body_short p bytes at 4 start len next w))
        behind)

-- ---- what is left in the buffer

done_length : (t u : Bool) (n m : ℕ) → cond t (cond u (Ok n) (Err TooLong)) (Err Broken) ≡ Ok m → n ≡ m
done_length true true n m e = cc
done_length true false n m e = let z : ◌≡◌ {A = ℕ} 0 1 = cc in absurd (omega arith)
done_length false u n m e = let z : ◌≡◌ {A = ℕ} 0 1 = cc in absurd (omega arith)

-- where the answer is a length, so many bytes of the buffer are the list, and those past them are untouched
-- promise: 7.9
pub done_buffer : (p out : List ℕ) (n : ℕ) → collect_of p (length out) ≡ Ok n → (take n (buffer_of p out) ≡ list_in p) × (drop n (buffer_of p out) ≡ drop n out)
unfolding buffer_of collect_of
done_buffer p out n e =
    let m : length (list_in p) ≡ n = done_length (unbroken (decrypted_walk p)) (leb (length (list_in p)) (length out)) (length (list_in p)) n e in
    let b : buffer_of p out ≡ list_in p ++ drop n out = ap (left_in (list_in p) out) e in
    (rw b (take_at (list_in p) (drop n out) n m), rw b (drop_at (list_in p) (drop n out) n m))

-- where it is refused, nothing is written
-- promise: 7.9, demand.1
pub refused_buffer : (p out : List ℕ) → (number_of (collect_of p (length out)) ≡ 0 → ⊥) → buffer_of p out ≡ out
unfolding buffer_of
refused_buffer p out h = go (collect_of p (length out)) h
  where
    go : (c : Result ℕ CollectRefusal) → (number_of c ≡ 0 → ⊥) → left_in (list_in p) out c ≡ out
    go (Ok n) h = absurd (h refl)
    go (Err refusal) h = refl
