use Rattle.std.proofs.{Common.{◌≡◌, [], length, ap, sym, subst, arith}, lemmas.List.nil_from_length}
use Rattle.pm_top_words.{specs.{declared.options.Settings.Settings, Words.Chosen, Options.{Leaves, choice_of, chosen_of}}, proofs.Givens.{at-end, begun, none_map, some_map, step_back, step_on}}
use Rattle.pm_top_words.proofs.options.«+read_on».Goals as goal

pub returns-then-is_empty-clause-only : goal.returns-then-is_empty-clause-only
returns-then-is_empty-clause-only t c = λ after leaves.
    let none : c.args.words.now ≡ [] = nil_from_length c.args.words.now (grind (arith, c.is_empty.ensures, c.if-is_empty.true)) in
    at-end c.args.verb (chosen_of c.args.before) after
    (subst (λ words. Leaves c.args.verb (chosen_of c.args.before) words after) none leaves)

pub returns-in_default-clause-none : goal.returns-in_default-clause-none
returns-in_default-clause-none t c = λ after leaves.
    let one = begun c.args.verb (chosen_of c.args.before) after c.args.words.now
    (λ none. grind (arith, c.is_empty.ensures, c.if-is_empty.false, ap length none)) leaves in
    c.in_default.ensures.none one.choice one.behind one.is

pub returns-then-may_take-clause-found : goal.returns-then-may_take-clause-found
returns-then-may_take-clause-found t c =
    let next = c.in-Some.next in
    some_map
    (λ (settings : Settings). Leaves c.args.verb (chosen_of c.with.result) next.behind.now (chosen_of settings))
    (λ (settings : Settings). Leaves c.args.verb (chosen_of c.args.before) c.args.words.now (chosen_of settings))
    (λ settings leaves.
    step_back c.args.verb (choice_of next.setting) (chosen_of c.args.before) (chosen_of settings) c.args.words.now next.behind.now
    c.in-Some.ensures.found (c.may_take.ensures.0 c.if-may_take.true)
    (subst (λ before. Leaves c.args.verb before next.behind.now (chosen_of settings)) c.with.ensures leaves))
    c.read_on.result c.read_on.ensures.found

pub returns-then-may_take-clause-only : goal.returns-then-may_take-clause-only
returns-then-may_take-clause-only t c =
    let next = c.in-Some.next in
    some_map
    (λ (settings : Settings). (after : Chosen) → Leaves c.args.verb (chosen_of c.with.result) next.behind.now after → after ≡ chosen_of settings)
    (λ (settings : Settings). (after : Chosen) → Leaves c.args.verb (chosen_of c.args.before) c.args.words.now after → after ≡ chosen_of settings)
    (λ settings only after leaves.
    let on = step_on c.args.verb (choice_of next.setting) (chosen_of c.args.before) after c.args.words.now next.behind.now
    (λ none. grind (arith, c.is_empty.ensures, c.if-is_empty.false, ap length none)) c.in-Some.ensures.found leaves in
    only after (subst (λ before. Leaves c.args.verb before next.behind.now after) (sym c.with.ensures) on.leaves))
    c.read_on.result c.read_on.ensures.only

pub returns-then-may_take-clause-none : goal.returns-then-may_take-clause-none
returns-then-may_take-clause-none t c =
    let next = c.in-Some.next in
    none_map _ _
    (λ none after leaves.
    let on = step_on c.args.verb (choice_of next.setting) (chosen_of c.args.before) after c.args.words.now next.behind.now
    (λ empty. grind (arith, c.is_empty.ensures, c.if-is_empty.false, ap length empty)) c.in-Some.ensures.found leaves in
    none after (subst (λ before. Leaves c.args.verb before next.behind.now after) (sym c.with.ensures) on.leaves))
    c.read_on.result c.read_on.ensures.none

pub returns-else-may_take-clause-none : goal.returns-else-may_take-clause-none
returns-else-may_take-clause-none t c = λ after leaves.
    let next = c.in-Some.next in
    let on = step_on c.args.verb (choice_of next.setting) (chosen_of c.args.before) after c.args.words.now next.behind.now
    (λ empty. grind (arith, c.is_empty.ensures, c.if-is_empty.false, ap length empty)) c.in-Some.ensures.found leaves in
    let may = c.may_take.ensures.1 on.may in
    absurd (grind (arith, may, c.if-may_take.false))
