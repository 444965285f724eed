-- Two files compared the other way round (RULES, No. 10): the same number, and in the buffer the same entries with their readings exchanged.
-- Assumes nothing.
use mathlib.Core.Path.{◌≡◌, sym, ap, ◌∙◌}
use mathlib.Core.List.{List, map}
use Prim.Native.Nat.{ℕ, ◌*◌, ◌≤◌, ◌<◌}
use native.Mathlib.Omega.{arith}
use lib.ListN.{length, length-map}
use Rattle.handover_file.specs.Answers.{over, load_number, load_of}
use Rattle.handover_compare.specs.declared.fields.Field.{Field}
use Rattle.handover_compare.specs.Fields.{list_of, list_bytes, swapped}
use Rattle.handover_compare.proofs.Listed.{exchanged, list_long}
use Rattle.handover_compare.specs.Answer.{compare_number}
use Rattle.handover_compare.specs.Answers.{compare_of, out_of}
use Rattle.handover_compare.specs.Numbers.{short_buffer_lem, listed}
use Rattle.handover_compare.proofs.Numbers.{compare_only}

module _ (f g out : List ℕ) (left : load_number (load_of f).answer ≡ 0) (right : load_number (load_of g).answer ≡ 0) where
  -- the list of f and g
  abbrev entries : List Field
  entries = list_of (load_of f).association (load_of g).association

  same_length : length (list_bytes (list_of (load_of g).association (load_of f).association)) ≡ length (list_bytes entries)
  same_length =
      ap (λ (l : List Field). length (list_bytes l)) (exchanged (load_of f).association (load_of g).association)
      ∙ list_long (map swapped entries) ∙ ap (λ (n : ℕ). 19 * n) (length-map entries swapped) ∙ sym (list_long entries)

  pub files_exchanged : length (list_bytes entries) ≤ length out →
      (compare_number (compare_of g f (length out)) ≡ 0)
      × (compare_number (compare_of f g (length out)) ≡ 0)
      × (out_of f g out ≡ over (list_bytes entries) out)
      × (out_of g f out ≡ over (list_bytes (map swapped entries)) out)
  files_exchanged h =
      let p = compare_only f g out (listed left right h) in
      let q = compare_only g f out (listed right left (omega (arith, same_length))) in (
        ap compare_number q.0,
        ap compare_number p.0,
        p.1,
        q.1 ∙ ap (λ (l : List Field). over (list_bytes l) out) (exchanged (load_of f).association (load_of g).association),
      )

  pub files_short : length out < length (list_bytes entries) →
      (compare_number (compare_of g f (length out)) ≡ 71) × (compare_number (compare_of f g (length out)) ≡ 71) × (out_of f g out ≡ out) ×
      (out_of g f out ≡ out)
  files_short h =
      let p = compare_only f g out (short_buffer_lem left right h) in
      let q = compare_only g f out (short_buffer_lem right left (omega (arith, same_length))) in
      (ap compare_number q.0, ap compare_number p.0, p.1, q.1)
