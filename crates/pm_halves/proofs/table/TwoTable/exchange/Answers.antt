use Rattle.std.proofs.Common.{◌≡◌, ◌∷◌, sym, ap, ◌∙◌}
use Rattle.atomic_table.specs.Table.{rest}
use Rattle.pm_halves.specs.declared.lot.Lot.{TheVariants.First}
use Rattle.pm_halves.proofs.Seating as laws
use Rattle.pm_halves.proofs.table.TwoTable.exchange.Goals as goal

pub exchange-requires : goal.exchange-requires
exchange-requires g c =
    let may = laws.may_exchange g.T.Tie.words g.T.Tie.places c.seat.inside.seat.id c.args.slot c.seat.inside.seat.table_id c.self.inside.table.shared.table_id c.self.inside.table.shared.key c.seat.inside.seat.me c.args.self.now c.args.seat.now c.self.invariant.0 c.seat.invariant c.self.view_is c.seat.view_is c.requires.table c.requires.last in
    (may.0, (First may.1.0, may.1.1))

pub unreachable-requires : goal.unreachable-requires
unreachable-requires g c =
    let may = laws.may_exchange g.T.Tie.words g.T.Tie.places c.seat.inside.seat.id c.args.slot c.seat.inside.seat.table_id c.self.inside.table.shared.table_id c.self.inside.table.shared.key c.seat.inside.seat.me c.args.self.now c.args.seat.now c.self.invariant.0 c.seat.invariant c.self.view_is c.seat.view_is c.requires.table c.requires.last in
    laws.no_second may.1.0 c.in-Second.field-0 c.exchange.result c.seat.inside.seat.me.1 _ _ may.1.1 c.exchange.ensures.2 c.in-Second.is

pub invariant_of-seat : goal.invariant_of-seat
invariant_of-seat g c =
    let may = laws.may_exchange g.T.Tie.words g.T.Tie.places c.seat.inside.seat.id c.args.slot c.seat.inside.seat.table_id c.self.inside.table.shared.table_id c.self.inside.table.shared.key c.seat.inside.seat.me c.args.self.now c.args.seat.now c.self.invariant.0 c.seat.invariant c.self.view_is c.seat.view_is c.requires.table c.requires.last in
    let out : c.in-First.old ≡ may.1.0 = laws.first_out may.1.0 c.in-First.old c.exchange.result c.seat.inside.seat.me.1 _ _ may.1.1 c.exchange.ensures.2 c.in-First.is in
    let done = laws.exchanged_first g.T.Tie.words g.T.Tie.places c.seat.inside.seat.table_id c.exchange.new.seat.table_id c.seat.inside.seat.id c.exchange.new.seat.id c.args.slot c.in-First.old c.args.new c.seat.inside.seat.me c.exchange.new.seat.me c.args.seat.now
    c.seat.invariant c.seat.view_is c.exchange.ensures.0 c.exchange.ensures.1 (may.1.1 ∙ ap (λ x. (c.args.slot, First x) ∷ rest c.seat.inside.seat.me.1) (sym out)) c.exchange.ensures.3 in
    done.4

pub returns-clause-same : goal.returns-clause-same
returns-clause-same g c =
    let may = laws.may_exchange g.T.Tie.words g.T.Tie.places c.seat.inside.seat.id c.args.slot c.seat.inside.seat.table_id c.self.inside.table.shared.table_id c.self.inside.table.shared.key c.seat.inside.seat.me c.args.self.now c.args.seat.now c.self.invariant.0 c.seat.invariant c.self.view_is c.seat.view_is c.requires.table c.requires.last in
    let out : c.in-First.old ≡ may.1.0 = laws.first_out may.1.0 c.in-First.old c.exchange.result c.seat.inside.seat.me.1 _ _ may.1.1 c.exchange.ensures.2 c.in-First.is in
    let done = laws.exchanged_first g.T.Tie.words g.T.Tie.places c.seat.inside.seat.table_id c.exchange.new.seat.table_id c.seat.inside.seat.id c.exchange.new.seat.id c.args.slot c.in-First.old c.args.new c.seat.inside.seat.me c.exchange.new.seat.me c.args.seat.now
    c.seat.invariant c.seat.view_is c.exchange.ensures.0 c.exchange.ensures.1 (may.1.1 ∙ ap (λ x. (c.args.slot, First x) ∷ rest c.seat.inside.seat.me.1) (sym out)) c.exchange.ensures.3 in
    done.1

pub returns-clause-old : goal.returns-clause-old
returns-clause-old g c =
    let may = laws.may_exchange g.T.Tie.words g.T.Tie.places c.seat.inside.seat.id c.args.slot c.seat.inside.seat.table_id c.self.inside.table.shared.table_id c.self.inside.table.shared.key c.seat.inside.seat.me c.args.self.now c.args.seat.now c.self.invariant.0 c.seat.invariant c.self.view_is c.seat.view_is c.requires.table c.requires.last in
    let out : c.in-First.old ≡ may.1.0 = laws.first_out may.1.0 c.in-First.old c.exchange.result c.seat.inside.seat.me.1 _ _ may.1.1 c.exchange.ensures.2 c.in-First.is in
    let done = laws.exchanged_first g.T.Tie.words g.T.Tie.places c.seat.inside.seat.table_id c.exchange.new.seat.table_id c.seat.inside.seat.id c.exchange.new.seat.id c.args.slot c.in-First.old c.args.new c.seat.inside.seat.me c.exchange.new.seat.me c.args.seat.now
    c.seat.invariant c.seat.view_is c.exchange.ensures.0 c.exchange.ensures.1 (may.1.1 ∙ ap (λ x. (c.args.slot, First x) ∷ rest c.seat.inside.seat.me.1) (sym out)) c.exchange.ensures.3 in
    done.0

pub returns-clause-new : goal.returns-clause-new
returns-clause-new g c =
    let may = laws.may_exchange g.T.Tie.words g.T.Tie.places c.seat.inside.seat.id c.args.slot c.seat.inside.seat.table_id c.self.inside.table.shared.table_id c.self.inside.table.shared.key c.seat.inside.seat.me c.args.self.now c.args.seat.now c.self.invariant.0 c.seat.invariant c.self.view_is c.seat.view_is c.requires.table c.requires.last in
    let out : c.in-First.old ≡ may.1.0 = laws.first_out may.1.0 c.in-First.old c.exchange.result c.seat.inside.seat.me.1 _ _ may.1.1 c.exchange.ensures.2 c.in-First.is in
    let done = laws.exchanged_first g.T.Tie.words g.T.Tie.places c.seat.inside.seat.table_id c.exchange.new.seat.table_id c.seat.inside.seat.id c.exchange.new.seat.id c.args.slot c.in-First.old c.args.new c.seat.inside.seat.me c.exchange.new.seat.me c.args.seat.now
    c.seat.invariant c.seat.view_is c.exchange.ensures.0 c.exchange.ensures.1 (may.1.1 ∙ ap (λ x. (c.args.slot, First x) ∷ rest c.seat.inside.seat.me.1) (sym out)) c.exchange.ensures.3 in
    done.2

pub returns-clause-more : goal.returns-clause-more
returns-clause-more g c =
    let may = laws.may_exchange g.T.Tie.words g.T.Tie.places c.seat.inside.seat.id c.args.slot c.seat.inside.seat.table_id c.self.inside.table.shared.table_id c.self.inside.table.shared.key c.seat.inside.seat.me c.args.self.now c.args.seat.now c.self.invariant.0 c.seat.invariant c.self.view_is c.seat.view_is c.requires.table c.requires.last in
    let out : c.in-First.old ≡ may.1.0 = laws.first_out may.1.0 c.in-First.old c.exchange.result c.seat.inside.seat.me.1 _ _ may.1.1 c.exchange.ensures.2 c.in-First.is in
    let done = laws.exchanged_first g.T.Tie.words g.T.Tie.places c.seat.inside.seat.table_id c.exchange.new.seat.table_id c.seat.inside.seat.id c.exchange.new.seat.id c.args.slot c.in-First.old c.args.new c.seat.inside.seat.me c.exchange.new.seat.me c.args.seat.now
    c.seat.invariant c.seat.view_is c.exchange.ensures.0 c.exchange.ensures.1 (may.1.1 ∙ ap (λ x. (c.args.slot, First x) ∷ rest c.seat.inside.seat.me.1) (sym out)) c.exchange.ensures.3 in
    done.3
