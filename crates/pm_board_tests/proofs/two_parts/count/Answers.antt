use Rattle.std.{proofs.Common.{◌≡◌, ℕ, ◌+◌, ◌≤◌, List, [], ◌∷◌, sym, refl, ap, ◌∙◌, subst, arith}, specs.Prelude.{Some, None, Option, remove}}
use Rattle.pm_board_tests.specs.{declared.second.Second.{Second, TheVariants.{Home, Held}}, TwoCounters.IsOneBefore}
use Rattle.pm_board_tests.proofs.Counters as laws
use Rattle.pm_board_tests.proofs.two_parts.count.Goals as goal

pub load-first-requires : goal.load-first-requires
load-first-requires c = record {
  may = (c.requires.table.0, omega arith, laws.reads _ _ c.args.round _ c.requires.counted.0.0);
  ties = laws.first_tied c.args.table.now c.args.seat.now _ (λ found me near told. subst (λ v. IsOneBefore v c.args.seat.now.more.0) (sym (ap (λ x. x.0) told.1)) near);
}

pub take-requires-clause-may : goal.take-requires-clause-may
take-requires-clause-may c = laws.may_take c.load-first.new.seat.id c.load-first.new.seat.more.0

pub give-requires-clause-may : goal.give-requires-clause-may
give-requires-clause-may c =
    let took = laws.took c.args.round (λ _ w. IsOneBefore c.load-first.new.seat.me.0 w) c.in-Some.value _ c.take.new.seat.more (c.load-first.ensures.more ∙ c.requires.counted.0.1) c.in-Some.ensures.taken in
    laws.may_give c.take.new.seat.id c.args.round (c.unwrap-second.result + 1) c.take.new.seat.more.0 (ap (λ x. x.0) took.1)

pub give-requires-clause-ties : goal.give-requires-clause-ties
give-requires-clause-ties c =
    let took = laws.took c.args.round (λ _ w. IsOneBefore c.load-first.new.seat.me.0 w) c.in-Some.value _ c.take.new.seat.more (c.load-first.ensures.more ∙ c.requires.counted.0.1) c.in-Some.ensures.taken in
    let second : c.unwrap-second.result ≡ c.args.round = laws.number (sym c.unwrap-second.ensures ∙ took.0) in
    let first : c.take.new.seat.me.0 ≡ c.args.round = ap (λ x. x.0) (c.in-Some.ensures.first.2 ∙ (c.load-first.ensures.told.2.1 ∙ c.requires.counted.0.0)) in
    laws.give_tied c.args.table.now c.take.new.seat (c.unwrap-second.result + 1) (omega arith, omega arith)

pub store-requires-clause-may : goal.store-requires-clause-may
store-requires-clause-may c = (
  c.give.ensures.first.0 ∙ (c.in-Some.ensures.first.0 ∙ (c.load-first.ensures.told.0 ∙ c.requires.table.0)),
  omega arith,
  laws.counts _ _ c.args.round (c.unwrap-second.result + 1) _ (c.give.ensures.first.2 ∙ (c.in-Some.ensures.first.2 ∙ (c.load-first.ensures.told.2.1 ∙ c.requires.counted.0.0))),
)

pub store-requires-clause-ties : goal.store-requires-clause-ties
store-requires-clause-ties c =
    let given : c.give.new.seat.more.0 ≡ Home (c.unwrap-second.result + 1) = ap (λ x. x.0) c.give.ensures.given.1 in
    laws.first_tied c.args.table.now c.give.new.seat _ (λ found me near told. laws.at_one (c.unwrap-second.result + 1) me.0 c.give.new.seat.more.0 (ap (λ x. x.0) told) given)

pub returns-clause-counted : goal.returns-clause-counted
returns-clause-counted c =
    let took = laws.took c.args.round (λ _ w. IsOneBefore c.load-first.new.seat.me.0 w) c.in-Some.value _ c.take.new.seat.more (c.load-first.ensures.more ∙ c.requires.counted.0.1) c.in-Some.ensures.taken in
    let second : c.unwrap-second.result ≡ c.args.round = laws.number (sym c.unwrap-second.ensures ∙ took.0) in
    let me = c.give.ensures.first.2 ∙ (c.in-Some.ensures.first.2 ∙ (c.load-first.ensures.told.2.1 ∙ c.requires.counted.0.0)) in (
      c.store.ensures.told.2 ∙ (λ i. (second i + 1, (me i).1)),
      c.store.ensures.more ∙ (λ i. ((ap (λ x. x.0) c.give.ensures.given.1 ∙ ap (λ n. Home (n + 1)) second) i, (c.give.ensures.given.3 ∙ ap (λ x. remove x.1 0) took.1) i)),
    )
