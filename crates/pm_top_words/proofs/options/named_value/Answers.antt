use Rattle.std.proofs.{Common.{◌≡◌, ◌-◌, ℕ, List, [], ◌∷◌, ◌++◌, length, take, drop, sym, ◌∙◌, ap, arith}, lemmas.Str.Pattern.split_parts}
use Rattle.pm_top_words.{specs.{declared.options.Given.Given, Options.{BeginsWith, IsPlain}}, proofs.Givens.{by_index, cons_words, found-one, found-two, no_value, none-one, none-two, none_map, some_map, some_words}}
use Rattle.pm_top_words.proofs.options.named_value.Goals as goal

pub returns-then-is_empty-clause-none : goal.returns-then-is_empty-clause-none
returns-then-is_empty-clause-none c =
    let cut = rw c.in-Some.is at (split_parts 61 c.as_str.result.now c.split_once.result c.split_once.ensures.cases (omega arith)) in
    let words = cons_words c.args.words.now c.first-item.result c.as_str.result.now c.in-len1-up.len_at_least c.first-item.is c.as_str.ensures.bytes in
    let none : c.in-Some.value.now ≡ [] = no_value c.in-Some.value.now (grind (arith, c.is_empty.ensures, c.if-is_empty.true)) in
    none-one c.args.words.now c.as_str.result.now _ words c.in-Some.name.now (cut.0 ∙ ap (λ (v : List ℕ). c.in-Some.name.now ++ 61 ∷ v) none)
    (by_index c.in-Some.name.now cut.1)

pub returns-else-is_empty-clause-found : goal.returns-else-is_empty-clause-found
returns-else-is_empty-clause-found c =
    let cut = rw c.in-Some.is at (split_parts 61 c.as_str.result.now c.split_once.result c.split_once.ensures.cases (omega arith)) in
    let words = cons_words c.args.words.now c.first-item.result c.as_str.result.now c.in-len1-up.len_at_least c.first-item.is c.as_str.ensures.bytes in
    found-one c.args.words.now c.as_str.result.now _ words c.in-Some.name.now c.in-Some.value.now cut.0 (by_index c.in-Some.name.now cut.1)
    (some_words c.in-Some.value.now (λ none. grind (arith, c.is_empty.ensures, c.if-is_empty.false)))

pub returns-in-None-clause-found : goal.returns-in-None-clause-found
returns-in-None-clause-found c =
    let cut = rw c.in-None.is at (split_parts 61 c.as_str.result.now c.split_once.result c.split_once.ensures.cases (omega arith)) in
    let words = cons_words c.args.words.now c.first-item.result c.as_str.result.now c.in-len1-up.len_at_least c.first-item.is c.as_str.ensures.bytes in
    some_map
    (λ (given : Given). (given.name.now ≡ c.as_str-in-None.result.now) × IsPlain given.value.now
    × (take (length c.args.words.now - 1) (drop 1 c.args.words.now) ≡ given.value.now ∷ given.behind.now))
    (λ (given : Given). BeginsWith c.args.words.now given.name.now given.value.now given.behind.now)
    (λ given facts.
    found-two c.args.words.now c.as_str.result.now _ words given.name.now given.value.now given.behind.now (by_index c.as_str.result.now cut)
    (facts.0 ∙ c.as_str-in-None.ensures.bytes ∙ sym c.as_str.ensures.bytes) facts.1 facts.2)
    c.word_value.result c.word_value.ensures.found

pub returns-in-None-clause-none : goal.returns-in-None-clause-none
returns-in-None-clause-none c =
    let cut = rw c.in-None.is at (split_parts 61 c.as_str.result.now c.split_once.result c.split_once.ensures.cases (omega arith)) in
    let words = cons_words c.args.words.now c.first-item.result c.as_str.result.now c.in-len1-up.len_at_least c.first-item.is c.as_str.ensures.bytes in
    none_map _ _ (λ none. none-two c.args.words.now c.as_str.result.now _ words (by_index c.as_str.result.now cut) none)
    c.word_value.result c.word_value.ensures.none
