-- What the tests of the writer come to, in their order.
-- Assumes nothing.
use Prim.Native.Nat.{ℕ, ◌+◌, ◌≤◌, ◌<◌}
use mathlib.Core.Path.{◌≡◌, sym, ap, ◌∙◌}
use mathlib.Core.Bool.{Bool, true, false}
use mathlib.Core.List.{List, [], ◌++◌, append-nil}
use native.Mathlib.Omega.{arith}
use borrow.Author.Tests.{lt-ltb, le-ltb}
use lib.ListN.{length}
use Rattle.std.specs.Prelude.{cond, Result, Ok, Err}
use Rattle.cookiestash.specs.declared.CookieStash.{CookieStash}
use Rattle.association.specs.declared.Association.{Association}
use Rattle.cookiestash.specs.declared.Seen.{Seen}
use Rattle.cookiestash.specs.Whole.{seen_of}
use Rattle.association.specs.declared.Settings.{Settings}
use Rattle.association.specs.declared.State.{State}
use Rattle.association.specs.Record.{whole_seen, whole_of}
use Rattle.handover_file.specs.declared.SaveRefusal.{SaveRefusal}
use Rattle.handover_file.specs.declared.SaveOut.{SaveOut}
use Rattle.handover_groups.specs.Settings.{settings_bytes}
use Rattle.handover_groups.specs.State.{effort_bytes, version_bytes, polls_bytes, source_bytes}
use Rattle.handover_file.specs.declared.SaveRefusal.TheVariants.{NotWhole, ShortBuffer}
use Rattle.handover_file.specs.Cookies.{stash_bytes, empty_at}
use Rattle.handover_file.specs.File.{file_of, emptied}
use Rattle.handover_file.specs.Answers.{saved, save_of, over, buffer_of, handed, handed_of}
use Rattle.handover_file.proofs.File.{file_length}
use Rattle.words.specs.Put.{Put, record_of}
use Rattle.words.proofs.Put.{laid_over}
use Rattle.handover_save.specs.Groups.{state_records, groups_file}

-- the file by its parts is the file
groups_file_lem : (a : Association) → groups_file a.settings a.stash a.state ≡ file_of a
unfolding groups_file state_records file_of
groups_file_lem a =
    let s = a.state in
    let last = record_of 0x534F (source_bytes s.source) in
    let e : last ≡ last ++ [] = sym (append-nil last) in
    λ i.
    record_of 0x5345 (settings_bytes a.settings)
    ++ (record_of 0x5354 (stash_bytes a.settings.capacity a.stash)
    ++ (record_of 0x5245 (effort_bytes s.effort) ++ (record_of 0x5645 (version_bytes s.version) ++ (record_of 0x504F (polls_bytes s.polls) ++ e i))))

-- the test, on what was asked for
pub whole_is : (a : Association) {s : Settings} {v : Seen} {t : State} {r : Bool} → r ≡ whole_seen s v t → s ≡ a.settings →
    v ≡ seen_of a.settings.capacity a.stash → t ≡ a.state → r ≡ whole_of a
unfolding whole_of
whole_is a e es ev et = e ∙ (λ i. whole_seen (es i) (ev i) (et i))

module _ (a : Association) (buffer : List ℕ) where
  pub not_whole_by : whole_of a ≡ false → handed (saved (Err NotWhole) a) buffer ≡ handed_of a buffer
  unfolding save_of buffer_of
  not_whole_by w = rw w

  module _ (w : whole_of a ≡ true) (n : ℕ) (e : n ≡ length (stash_bytes a.settings.capacity a.stash)) where
    long : 63 + n ≡ length (file_of a)
    long = ap (λ (k : ℕ). 63 + k) e ∙ sym (file_length a)

    pub short_by : length buffer < 63 + n → handed (saved (Err ShortBuffer) a) buffer ≡ handed_of a buffer
    unfolding save_of buffer_of
    short_by h = rw (w, lt-ltb (length buffer) (length (file_of a)) (omega (arith, long)))

    pub saved_by_lem : 63 + n ≤ length buffer → (left : List ℕ) (r : ℕ) → Put buffer 0 (groups_file a.settings a.stash a.state) r left →
        (s : CookieStash) → s ≡ empty_at a.stash.read →
        handed (saved (Ok (63 + n)) (record { settings = a.settings; stash = s; state = a.state })) left ≡ handed_of a buffer
    unfolding save_of buffer_of emptied
    saved_by_lem h left r p s es =
        let l : left ≡ over (file_of a) buffer = p.leaves ∙ laid_over buffer (groups_file a.settings a.stash a.state)
        ∙ ap (λ (f : List ℕ). over f buffer) (groups_file_lem a) in
        rw (w, le-ltb (length buffer) (length (file_of a)) (omega (arith, long)))
        (λ i. handed (saved (Ok (long i)) (record { settings = a.settings; stash = es i; state = a.state })) (l i))

-- ---- the association that is returned, by the answer

abbrev answered : Bool → Bool → Association → ℕ → SaveOut
answered w t a n = cond w (cond t (saved (Err ShortBuffer) a) (saved (Ok n) (emptied a))) (saved (Err NotWhole) a)

refused_on : (w t : Bool) (a : Association) (n : ℕ) (e : SaveRefusal) → Err e ≡ (answered w t a n).answer → saved (Err e) a ≡ answered w t a n
refused_on false t a n e p = ap (λ (x : Result ℕ SaveRefusal). saved x a) p
refused_on true true a n e p = ap (λ (x : Result ℕ SaveRefusal). saved x a) p
refused_on true false a n e p = let z : Err e ≡ Ok n = p in cc

written_on : (w t : Bool) (a : Association) (n k : ℕ) → Ok k ≡ (answered w t a n).answer → saved (Ok k) (emptied a) ≡ answered w t a n
written_on false t a n k p = let z : Ok k ≡ Err NotWhole = p in cc
written_on true true a n k p = let z : Ok k ≡ Err ShortBuffer = p in cc
written_on true false a n k p = ap (λ (x : Result ℕ SaveRefusal). saved x (emptied a)) p

module _ (a : Association) (room : ℕ) where
  -- a refused one is as it was
  pub refused_keeps : (e : SaveRefusal) → Err e ≡ (save_of a room).answer → saved (Err e) a ≡ save_of a room
  unfolding save_of
  refused_keeps e p = refused_on (whole_of a) _ a _ e p

  -- a written one has no cookies
  pub written_empties : (k : ℕ) → Ok k ≡ (save_of a room).answer → saved (Ok k) (emptied a) ≡ save_of a room
  unfolding save_of
  written_empties k p = written_on (whole_of a) _ a _ k p
