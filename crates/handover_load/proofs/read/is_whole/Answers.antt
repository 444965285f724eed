-- `is_whole` meets its contract: the tests, one after the other.
-- Assumes nothing.
use Prim.Native.Nat.{ℕ}
use mathlib.Core.Path.{◌≡◌, refl, sym, ap, ◌∙◌}
use mathlib.Core.Bool.{Bool, true, false, ◌&&◌}
use mathlib.Core.Logic.{inl}
use native.Mathlib.Omega.{arith}
use lib.ListN.{length}
use Rattle.std.specs.Prelude.{None}
use Rattle.std.proofs.lemmas.Iterator.Consumers.{count_from_yields_List}
use Rattle.words.proofs.Tests.{passes, fails}
use Rattle.cookiestash.specs.Stash.{range_of}
use Rattle.association.specs.Record.{whole_seen}
use Rattle.handover_groups.specs.Settings.{settings_known}
use Rattle.handover_groups.specs.State.{version_known, source_known}
use Rattle.handover_file.specs.Cookies.{stash_known, held_in}
use Rattle.handover_file.proofs.Given.{few, gives_all, given_held}
use Rattle.handover_load.specs.Reading.{counted_of}
use Rattle.handover_load.proofs.Decides.{ranges}
use Rattle.handover_load.proofs.read.is_whole.Goals as goal
use Rattle.handover_load.proofs.read.is_whole.Goals.{
  After-count-held,
  then-settings_known,
  else-settings_known,
  then-in_range,
  else-in_range,
  then-version_known,
  else-version_known,
}

pub count-held-requires-clause-fits : goal.count-held-requires-clause-fits
count-held-requires-clause-fits c =
    let n = few c.args.b.stash.now in
    let e = ap length c.new.ensures in
    inl (omega (arith, c.args.b.short))

-- how many cookies the body has
counted : (k : After-count-held) → k.count-held.result ≡ length (held_in k.args.b.stash.now)
counted k =
    count_from_yields_List k.new.result _ k.count-held.ensures.ran (gives_all k.new.result)
    ∙ ap length (k.new.ensures ∙ given_held k.args.b.stash.now k.args.b.fits)

-- four tests in a row, joined from the left or from the right
in_a_row : (a b c d : Bool) → ((a && b) && c) && d ≡ a && (b && (c && d))
in_a_row true b true d = ap (λ (t : Bool). t && d) (left b) ∙ refl
  where
    left : (b : Bool) → (b && true) ≡ b
    left true = refl
    left false = refl
in_a_row true true false d = refl
in_a_row true false false d = refl
in_a_row false b c d = refl

pub returns-then-source_known : goal.returns-then-source_known
returns-then-source_known k =
    let b = k.args.b in
    let cap = k.args.settings.capacity in
    let held = counted (goal.at.returns-then-source_known k).After-count-held in
    let first : k.if-settings_known.value ≡ (settings_known b.settings.now && stash_known cap b.stash.now)
    = elim k.if-settings_known.branch [
      | then-settings_known w ↦
          w.value-is
          ∙ ranges cap _ _ b.stash.now _ (k.from-read.ensures ∙ k.place_of.ensures) held
          (w.in_range.ensures ∙ ap (λ (n : ℕ). range_of n k.from-read.result k.count-held.result) w.from.ensures)
          ∙ sym (passes _ (sym k.settings_known.ensures ∙ w.if-settings_known.true))
      | else-settings_known w ↦ w.value-is ∙ w.if-settings_known.false ∙ sym (fails _ (sym k.settings_known.ensures ∙ w.if-settings_known.false))
    ] in
    let second : k.if-in_range.value ≡ ((settings_known b.settings.now && stash_known cap b.stash.now) && version_known b.version.now)
    = elim k.if-in_range.branch [
      | then-in_range w ↦ w.value-is ∙ w.version_known.ensures ∙ sym (passes _ (sym first ∙ w.if-in_range.true))
      | else-in_range w ↦ w.value-is ∙ w.if-in_range.false ∙ sym (fails _ (sym first ∙ w.if-in_range.false))
    ] in
    let third : k.if-version_known.value
    ≡ (((settings_known b.settings.now && stash_known cap b.stash.now) && version_known b.version.now) && source_known b.source.now)
    = elim k.if-version_known.branch [
      | then-version_known w ↦ w.value-is ∙ w.source_known.ensures ∙ sym (passes _ (sym second ∙ w.if-version_known.true))
      | else-version_known w ↦ w.value-is ∙ w.if-version_known.false ∙ sym (fails _ (sym second ∙ w.if-version_known.false))
    ] in
    let all = third ∙ in_a_row (settings_known b.settings.now) (stash_known cap b.stash.now) (version_known b.version.now) (source_known b.source.now) in
    k.whole_seen.ensures
    ∙ (λ i. whole_seen k.args.settings
    (record { whole = true; oldest = None; gap = 0; read = (k.from-read.ensures ∙ k.place_of.ensures) i; held = held i })
    k.args.state)
    ∙ sym (passes (whole_seen k.args.settings (counted_of b.stash.now) k.args.state) (sym all ∙ k.if-source_known.true))

pub returns-else-source_known : goal.returns-else-source_known
returns-else-source_known k =
    let b = k.args.b in
    let cap = k.args.settings.capacity in
    let held = counted (goal.at.returns-else-source_known k).After-count-held in
    let first : k.if-settings_known.value ≡ (settings_known b.settings.now && stash_known cap b.stash.now)
    = elim k.if-settings_known.branch [
      | then-settings_known w ↦
          w.value-is
          ∙ ranges cap _ _ b.stash.now _ (k.from-read.ensures ∙ k.place_of.ensures) held
          (w.in_range.ensures ∙ ap (λ (n : ℕ). range_of n k.from-read.result k.count-held.result) w.from.ensures)
          ∙ sym (passes _ (sym k.settings_known.ensures ∙ w.if-settings_known.true))
      | else-settings_known w ↦ w.value-is ∙ w.if-settings_known.false ∙ sym (fails _ (sym k.settings_known.ensures ∙ w.if-settings_known.false))
    ] in
    let second : k.if-in_range.value ≡ ((settings_known b.settings.now && stash_known cap b.stash.now) && version_known b.version.now)
    = elim k.if-in_range.branch [
      | then-in_range w ↦ w.value-is ∙ w.version_known.ensures ∙ sym (passes _ (sym first ∙ w.if-in_range.true))
      | else-in_range w ↦ w.value-is ∙ w.if-in_range.false ∙ sym (fails _ (sym first ∙ w.if-in_range.false))
    ] in
    let third : k.if-version_known.value
    ≡ (((settings_known b.settings.now && stash_known cap b.stash.now) && version_known b.version.now) && source_known b.source.now)
    = elim k.if-version_known.branch [
      | then-version_known w ↦ w.value-is ∙ w.source_known.ensures ∙ sym (passes _ (sym second ∙ w.if-version_known.true))
      | else-version_known w ↦ w.value-is ∙ w.if-version_known.false ∙ sym (fails _ (sym second ∙ w.if-version_known.false))
    ] in
    let all = third ∙ in_a_row (settings_known b.settings.now) (stash_known cap b.stash.now) (version_known b.version.now) (source_known b.source.now) in
    k.if-source_known.false ∙ sym (fails (whole_seen k.args.settings (counted_of b.stash.now) k.args.state) (sym all ∙ k.if-source_known.false))
