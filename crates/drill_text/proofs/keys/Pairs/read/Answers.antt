-- `drill_text::keys::Pairs::read` meets its contract: the first fault of the words is the first that the loop comes to, and the map has their values.
-- Assumes nothing.
use Rattle.std.proofs.Common.{◌≡◌, ◌∙◌, [], ℕ, List, inr, sym, map, rules, eqb, Some, None, Err, subst, bytes_eq, find, option_copied}
use Rattle.std.proofs.lemmas.Bool.{cond-true, cond-false}
use Rattle.std.proofs.lemmas.List.{map-append}
use Rattle.std.proofs.lemmas.Iterator.{YieldsList-from_slice}
use Rattle.std.proofs.lemmas.Iterator.Adapters.{YieldsList-from_skip}
use Rattle.std.proofs.lemmas.Iterator.Consumers.{YieldsList-at, YieldsList-end, YieldsList-from_copied}
use Rattle.std.proofs.lemmas.Iterator.Search.{find_from_yields_List}
use Rattle.std.proofs.lemmas.Iterator.Splits.{YieldsList-from_slice_split}
use Rattle.drill_text.specs.declared.fault.Fault.TheVariants.{NoPair, UnknownKey, Repeated}
use Rattle.drill_text.specs.Lines.{words_of, value_in, fault_in, pair_of}
use Rattle.drill_text.proofs.Bytes.{value_had, value_lacked}
use Rattle.drill_text.proofs.Splits.{along}
use Rattle.drill_text.proofs.Words.{cut, fails_at, no_pair, a_pair, unknown, known, was_there, not_there, found, found_key, no_fault_more, values_more}
use Rattle.drill_text.proofs.Words.{map_same}
use Rattle.drill_text.proofs.keys.Pairs.read.Goals as goal

pub returns-in_err-name : goal.returns-in_err-name
returns-in_err-name c =
    let i = c.loop-word.invariant in
    let before = map (λ x. x.now) c.loop-word.yielded in
    let word = c.in-Some.word.now in
    let all = cut (words_of c.args.line.now) c.loop-word.yielded _ c.loop-word.yielded_by _ _ c.in-Some.word c.in-Some.is c.next.ensures.steps
    (YieldsList-at c.into_iter-word-iterator.ensures.into_iter_gives (YieldsList-from_skip 1 (YieldsList-at c.skip-word-items.ensures.source
    (YieldsList-from_slice_split _ (λ b. eqb b 32) c.args.line.now c.split.ensures.rest c.split.ensures.done c.split.ensures.closure
    (λ x b q k. search rules))) c.skip-word-items.ensures.count)) in
    let none = value_lacked c.split_once.result _ c.in_err-name.field-0.0 c.in_err-name.ensures.value in
    let fault : c.from_residual.result ≡ Err NoPair = search rules in
    rw fault (inr (fails_at c.args.keys.now _ before _ word NoPair all i.fine
    (no_pair c.args.keys.now before word c.split_once.result none c.split_once.ensures)))

pub returns-in_err-key : goal.returns-in_err-key
returns-in_err-key c =
    let i = c.loop-word.invariant in
    let before = map (λ x. x.now) c.loop-word.yielded in
    let word = c.in-Some.word.now in
    let all = cut (words_of c.args.line.now) c.loop-word.yielded _ c.loop-word.yielded_by _ _ c.in-Some.word c.in-Some.is c.next.ensures.steps
    (YieldsList-at c.into_iter-word-iterator.ensures.into_iter_gives (YieldsList-from_skip 1 (YieldsList-at c.skip-word-items.ensures.source
    (YieldsList-from_slice_split _ (λ b. eqb b 32) c.args.line.now c.split.ensures.rest c.split.ensures.done c.split.ensures.closure
    (λ x b q k. search rules))) c.skip-word-items.ensures.count)) in
    let pair = a_pair word c.split_once.result c.in_ok-name.name c.in_ok-name.value (value_had c.split_once.result _ _ c.in_ok-name.ensures.value)
    c.split_once.ensures in
    let key : c.find.result ≡ find (λ k. bytes_eq k.now c.in_ok-name.name.now) c.args.keys.now =
    sym (map_same c.find.result) ∙ find_from_yields_List (λ k. bytes_eq k.now c.in_ok-name.name.now) _ _ c.find.result c.find.ensures.ran
    (YieldsList-from_copied (YieldsList-at c.copied.ensures.source (YieldsList-from_slice c.args.keys.now c.iter.ensures.rest))) (λ x b q k. search rules) in
    let none = value_lacked c.find.result _ c.in_err-key.field-0.0 c.in_err-key.ensures.value in
    let fault : c.from_residual-in_err-key.result ≡ Err UnknownKey = search rules in
    rw fault (inr (fails_at c.args.keys.now _ before _ word UnknownKey all i.fine (unknown c.args.keys.now before word _ _ pair (none ∙ key))))

pub returns-then-is_some : goal.returns-then-is_some
returns-then-is_some c =
    let i = c.loop-word.invariant in
    let before = map (λ x. x.now) c.loop-word.yielded in
    let word = c.in-Some.word.now in
    let all = cut (words_of c.args.line.now) c.loop-word.yielded _ c.loop-word.yielded_by _ _ c.in-Some.word c.in-Some.is c.next.ensures.steps
    (YieldsList-at c.into_iter-word-iterator.ensures.into_iter_gives (YieldsList-from_skip 1 (YieldsList-at c.skip-word-items.ensures.source
    (YieldsList-from_slice_split _ (λ b. eqb b 32) c.args.line.now c.split.ensures.rest c.split.ensures.done c.split.ensures.closure
    (λ x b q k. search rules))) c.skip-word-items.ensures.count)) in
    let pair = a_pair word c.split_once.result c.in_ok-name.name c.in_ok-name.value (value_had c.split_once.result _ _ c.in_ok-name.ensures.value)
    c.split_once.ensures in
    let key : c.find.result ≡ find (λ k. bytes_eq k.now c.in_ok-name.name.now) c.args.keys.now =
    sym (map_same c.find.result) ∙ find_from_yields_List (λ k. bytes_eq k.now c.in_ok-name.name.now) _ _ c.find.result c.find.ensures.ran
    (YieldsList-from_copied (YieldsList-at c.copied.ensures.source (YieldsList-from_slice c.args.keys.now c.iter.ensures.rest))) (λ x b q k. search rules) in
    let one = sym (value_had c.find.result _ c.in_ok-key.key c.in_ok-key.ensures.value) ∙ key in
    let there = was_there before c.in_ok-key.key.now c.in_ok-insert.field-0 _ c.in_ok-insert.ensures.old (i.values c.in_ok-key.key.now)
    ∙ sym c.is_some.ensures ∙ c.if-is_some.true in
    inr (fails_at c.args.keys.now _ before _ word (Repeated c.in_ok-key.key) all i.fine (known c.args.keys.now before word _ _ c.in_ok-key.key pair one
    ∙ cond-true _ _ _ there))

pub loop-word-preserved : goal.loop-word-preserved
loop-word-preserved c =
    let i = c.loop-word.invariant in
    let before = map (λ x. x.now) c.loop-word.yielded in
    let word = c.in-Some.word.now in
    let pair = a_pair word c.split_once.result c.in_ok-name.name c.in_ok-name.value (value_had c.split_once.result _ _ c.in_ok-name.ensures.value)
    c.split_once.ensures in
    let key : c.find.result ≡ find (λ k. bytes_eq k.now c.in_ok-name.name.now) c.args.keys.now =
    sym (map_same c.find.result) ∙ find_from_yields_List (λ k. bytes_eq k.now c.in_ok-name.name.now) _ _ c.find.result c.find.ensures.ran
    (YieldsList-from_copied (YieldsList-at c.copied.ensures.source (YieldsList-from_slice c.args.keys.now c.iter.ensures.rest))) (λ x b q k. search rules) in
    let one = sym (value_had c.find.result _ c.in_ok-key.key c.in_ok-key.ensures.value) ∙ key in
    let there = was_there before c.in_ok-key.key.now c.in_ok-insert.field-0 _ c.in_ok-insert.ensures.old (i.values c.in_ok-key.key.now)
    ∙ sym c.is_some.ensures ∙ c.if-is_some.false in
    let same = found_key c.args.keys.now _ c.in_ok-key.key one in
    let named = subst (λ n. Some (n, c.in_ok-name.value.now) ≡ pair_of word) (sym same) pair in
    record {
      fine = rw map-append (no_fault_more c.args.keys.now before word i.fine (known c.args.keys.now before word _ _ c.in_ok-key.key pair one
          ∙ cond-false _ _ _ there));
      values = λ q. rw map-append (values_more before word c.in_ok-key.key c.in_ok-name.value c.loop-word.pairs c.insert.new.self named
          (not_there (value_in before c.in_ok-key.key.now) there) i.values c.in_ok-insert.ensures.updates q);
    }

pub returns : goal.returns
returns c =
    let i = c.loop-word.invariant in
    let road = along c.loop-word.yielded _ c.loop-word.yielded_by
    (YieldsList-at c.into_iter-word-iterator.ensures.into_iter_gives (YieldsList-from_skip 1 (YieldsList-at c.skip-word-items.ensures.source
    (YieldsList-from_slice_split _ (λ b. eqb b 32) c.args.line.now c.split.ensures.rest c.split.ensures.done c.split.ensures.closure
    (λ x b q k. search rules))) c.skip-word-items.ensures.count)) in
    let t = YieldsList-end road c.loop-word.yielded _ c.loop-word.yielded_by _ _ c.in-None.is c.next.ensures.steps in
    subst (λ ws. (fault_in c.args.keys.now [] ws ≡ None)
    × ((key : List ℕ) → option_copied (found c.loop-word.pairs key) ≡ value_in ws key)) t.0 (i.fine, i.values)
