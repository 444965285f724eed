-- `handover_file::cut::take_record` meets its contract: each answer is that of the tests that led to it.
-- Assumes nothing.
use Prim.Native.Nat.{ℕ, ◌+◌, ◌-◌}
use mathlib.Core.Path.{◌≡◌, sym, ap, ◌∙◌}
use mathlib.Core.List.{List}
use native.Mathlib.Omega.{arith}
use Rattle.std.proofs.lemmas.Grind.{common_steps}
use lib.ListN.{length, take, drop, length-drop}
use lib.Seq.{drop-drop}
use Rattle.words.specs.Bytes.{be, part}
use Rattle.handover_file.specs.Sections.{body_length, before, cut_as}
use Rattle.handover_file.specs.Steps.{shape_of, fits_of}
use Rattle.handover_file.proofs.Sections.{cut_none, cut_mark, cut_length, cut_body, cut_unfit, cut_there}
use Rattle.handover_file.proofs.cut.take_record.Goals as goal

-- how long the body is, by the length that was read
long : (l : List ℕ) {n k : ℕ} → k ≡ n → n ≡ be (part l 2 2) → k ≡ body_length l
unfolding body_length
long l p q = p ∙ q

-- the slice behind the head is all that stands there
tail_is : (l : List ℕ) → take (length l - 4) (drop 4 l) ≡ drop 4 l
tail_is l = let d = length-drop 4 l in grind (arith, common_steps)

body_is : (l b : List ℕ) (n : ℕ) → n ≡ body_length l → b ≡ take n (take (length l - 4) (drop 4 l)) → b ≡ part l 4 (body_length l)
unfolding part
body_is l b n e p = p ∙ ap (take n) (tail_is l) ∙ ap (λ (k : ℕ). take k (drop 4 l)) e

behind_is : (l r : List ℕ) (n : ℕ) → n ≡ body_length l → r ≡ drop n (take (length l - 4) (drop 4 l)) → r ≡ drop (4 + body_length l) l
behind_is l r n e p = p ∙ ap (drop n) (tail_is l) ∙ drop-drop n 4 l ∙ ap (λ (k : ℕ). drop (4 + k) l) e

pub returns-then-rest-lt2-clause-cuts : goal.returns-then-rest-lt2-clause-cuts
returns-then-rest-lt2-clause-cuts c = λ ss. cut_none (shape_of c.args.section) ss c.args.rest.now c.if-rest-lt2.true

pub returns-then-be16_at-mark-clause-cuts : goal.returns-then-be16_at-mark-clause-cuts
returns-then-be16_at-mark-clause-cuts c = λ ss. cut_mark (shape_of c.args.section) ss c.args.rest.now (omega arith) (λ e. omega arith)

pub returns-then-rest-lt4-clause-cuts : goal.returns-then-rest-lt4-clause-cuts
returns-then-rest-lt4-clause-cuts c = λ ss. cut_length (shape_of c.args.section) ss c.args.rest.now (omega arith) (omega arith) (omega arith)

pub returns-in_default-clause-cuts : goal.returns-in_default-clause-cuts
returns-in_default-clause-cuts c =
    let l = c.args.rest.now in
    let n = long l c.from-len.ensures c.be16_at-2.ensures in
    let d = length-drop 4 l in
    λ ss. cut_body (shape_of c.args.section) ss l (omega arith) (omega arith) (omega (arith, c.in_default.ensures.cases))

pub returns-then-not-fits-clause-cuts : goal.returns-then-not-fits-clause-cuts
returns-then-not-fits-clause-cuts c =
    let l = c.args.rest.now in
    let n = long l c.from-len.ensures c.be16_at-2.ensures in
    let d = length-drop 4 l in
    let s = c.in-Some.ensures.cases in
    λ ss. cut_unfit (shape_of c.args.section) ss l (omega arith) (omega arith) (omega (arith, s.0))
    (ap (λ (b : List ℕ). fits_of c.args.section b) (sym (body_is l _ _ n s.1)) ∙ sym c.fits.ensures ∙ c.if-not-fits.true)

pub returns-clause-cuts : goal.returns-clause-cuts
returns-clause-cuts c =
    let l = c.args.rest.now in
    let n = long l c.from-len.ensures c.be16_at-2.ensures in
    let d = length-drop 4 l in
    let s = c.in-Some.ensures.cases in
    let b = body_is l _ _ n s.1 in
    let r = behind_is l _ _ n s.2 in
    λ ss. cut_there (shape_of c.args.section) ss l (omega arith) (omega arith) (omega (arith, s.0))
    (ap (λ (x : List ℕ). fits_of c.args.section x) (sym b) ∙ sym c.fits.ensures ∙ c.if-not-fits.false)
    ∙ (λ i. before (sym b i) (cut_as ss (sym r i)))

pub returns-clause-fits : goal.returns-clause-fits
returns-clause-fits c = sym c.fits.ensures ∙ c.if-not-fits.false

pub returns-clause-short : goal.returns-clause-short
returns-clause-short c = let s = c.in-Some.ensures.cases in omega (arith, s.3, c.from-len.ensures)
